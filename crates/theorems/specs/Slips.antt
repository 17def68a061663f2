-- Six runs at rate 1 on which the upper half of demand 3 leaves one message, and on which a limiter with a slip would allow two: so each slip breaks the upper half.
-- bin/must-break puts each slip into the definitions and sees these runs fail. The proofs are in proofs/Slips.antt, by computation.
-- Assumes nothing.
use Rattle.std.specs.Prelude.{◌≡◌, List, [], ◌∷◌, ◌++◌, ℕ}
use Rattle.slices.specs.Bytes.{bytes}
use Rattle.topics.specs.Matching.{port_matches}
use Rattle.tables.specs.Identity.{id_of}
use Rattle.monitor.specs.Runs.{Call, after}
use Rattle.theorems.specs.Run.{allowed_of}
use Rattle.theorems.specs.Tight.{hub, publish, device, crowd}

-- the message that is counted, at a time
abbrev pub own : ℕ → Call
own t = publish (bytes "m/x") t

-- how many of them are allowed in a run, after another run
abbrev pub counted : List Call → List Call → ℕ
counted before run = allowed_of port_matches (after port_matches (hub 1) before) (id_of (bytes "m/x")) run

-- the six
pub record Slips : Type 0 where
  -- its bucket is replaced by one of 32 others, and its next message replaces another's: a replaced bucket starts with nothing
  pub replaced : counted [] (own 0 ∷ crowd 32 0 ++ own 0 ∷ own 0 ∷ []) ≡ 1
  -- the same 0.300001 seconds later: no bucket that was idle for so little gives way
  pub expired : counted [] (own 0 ∷ crowd 31 0 ++ publish (device 31) 300001 ∷ own 300001 ∷ []) ≡ 1
  -- after ten quiet seconds: what was earned beyond the capacity is lost
  pub capped : counted (own 0 ∷ []) (own 10000000 ∷ own 10000000 ∷ []) ≡ 1
  -- a token is there and the next is due in a microsecond: at its capacity a bucket drops the remainder (request C-17)
  pub dropped : counted (own 0 ∷ []) (own 1999999 ∷ own 2000000 ∷ []) ≡ 1
  -- a denied message leaves 0.6 of a token, and a tenth of a second is no whole one: what is in the remainder is not counted again, for the time moves at denied messages too
  pub moved : counted [] (own 0 ∷ own 600000 ∷ own 700000 ∷ []) ≡ 1
  -- its bucket is replaced, and its next message replaces one that is a microsecond short of a token: a replaced bucket keeps no remainder
  pub bare : counted (crowd 31 0) (own 999998 ∷ crowd 31 999999 ++ publish (device 31) 1000000 ∷ own 1000000 ∷ own 1000001 ∷ []) ≡ 1
