-- `payload::le_words` meets its contract. The invariant: the words so far as bytes, then zeros. Assumes nothing.
use Rattle.std.proofs.Common.{◌≡◌, ◌-◌, ◌*◌, ◌++◌, take, flat_map, replicate}
use Rattle.topics.specs.Payload.{le_bytes}
use Rattle.topics.proofs.payload.le_words.Given as goal

abbrev pub invariant-loop-i : goal.invariant-loop-i
invariant-loop-i l = l.out ≡ flat_map le_bytes (take l.i l.words) ++ replicate (32 - 4 * l.i) 0
