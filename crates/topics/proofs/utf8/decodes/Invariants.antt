-- `utf8::decodes` meets its contract. The invariant: the decoder stands where the bytes so far lead, and its number is narrow enough for the code. Assumes nothing.
use Rattle.std.proofs.Common.{◌≡◌, take, fold}
use Rattle.topics.specs.Utf8.{between, taken}
use Rattle.topics.proofs.utf8.DecodeLaws.{Narrow}
use Rattle.topics.proofs.utf8.decodes.Given as goal

abbrev pub invariant-loop-b : goal.invariant-loop-b
invariant-loop-b l = Narrow l.d × (l.d ≡ fold taken between (take l.b-index l.s))
