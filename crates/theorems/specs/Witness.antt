-- Demand 3 of what is printed is met (specs/Printed.antt): a trace of four messages, at rate 2, to which its premises apply, and which prints `allowed=1` as often as its upper half
-- says. The proof is in proofs/Witness.antt, by computation.
-- Assumes nothing.
use Rattle.std.specs.Prelude.{◌≡◌, List, [], ◌∷◌, ◌++◌, ℕ, ◌+◌, ◌-◌, ◌*◌, ◌/◌}
use Prim.Native.String.{String}
use Rattle.slices.specs.Bytes.{bytes}
use Rattle.topics.specs.Matching.{port_matches}
use Rattle.topics.specs.declared.matching.Matching.TheVariants.{Port}
use Rattle.trace.specs.AsRun.{replies_of}
use Rattle.trace.specs.Trace.{loaded, messages_of}
use Rattle.theorems.specs.Printed.{passed_of, topic_rate}
use Rattle.theorems.specs.Run.{InOrder}

-- lines, each ended by LF
abbrev pub lined : List String → List ℕ
lined [] = []
lined (l ∷ ls) = bytes l ++ (10 ∷ lined ls)

-- the lines of a Publish of `m/a` at a time
abbrev pub sent : String → List ℕ
sent at = lined (at ∷ "clock=ok" ∷ "type=3" ∷ "qos=0" ∷ "topic=6d2f61" ∷ "size=0" ∷ "payload=" ∷ [])

-- rule `m/+` with rate 2, and four messages in a second
unfoldable pub busy_text : List ℕ
busy_text =
    lined ("default=block" ∷ "rules=1" ∷ "pattern=6d2f2b" ∷ "action=allow" ∷ "qos=any" ∷ "rate=2" ∷ [])
    ++ sent "at=0" ++ sent "at=0" ++ sent "at=500000" ++ sent "at=1000000"

pub record Witness : Type 0 where
  pub in_order : InOrder (messages_of Port busy_text).sent
  pub rate : topic_rate port_matches (loaded Port busy_text).monitor (bytes "m/a") ≡ 2
  pub exactly : passed_of (bytes "m/a") (replies_of Port busy_text) ≡ 2 + 2 * (1000000 - 0) / 1000000
