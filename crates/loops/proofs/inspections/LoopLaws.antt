-- One turn of each loop: a rule more (`ruled_turn`), which number 10 does not refuse (`ruled_formed`), and a message more, by what its calls handed back
-- (`state_turn`, `allowed_turn`, `from_turn`); and what the loop answers where it does not run. Assumes nothing.
use Prim.Native.Nat.{ℕ, zero, suc, ◌+◌, ◌≤◌}
use mathlib.Core.Bool.{true, cond}
use mathlib.Core.List.{List}
use mathlib.Core.Path.{◌≡◌}
use native.Mathlib.Numerals.{add-one}
use native.Mathlib.Omega.{arith}
use lib.Dec.{leb}
use lib.ListN.{length}
use borrow.Author.Tests.{le-ltb, leb-true}
use Rattle.laws.proofs.Cases.{by}
use Rattle.slices.specs.Bytes.{bytes}
use Rattle.lines.specs.Span.{part}
use Rattle.topics.specs.declared.matching.Matching.TheVariants.{Port}
use Rattle.tables.specs.declared.rules.MqttQoS.TheVariants.{AtLeastOnce}
use Rattle.tables.specs.declared.rules.QosPolicy.TheVariants.{MinQoS}
use Rattle.tables.specs.declared.rules.TopicAction.TheVariants.{Allow, Block}
use Rattle.monitor.specs.Alerts.{counted}
use Rattle.monitor.specs.Calls.{fresh}
use Rattle.monitor.specs.Inspect.{applied}
use Rattle.monitor.specs.Plan.{plan_of}
use Rattle.monitor.specs.State.{well_formed, matcher_of}
use Rattle.monitor.specs.declared.message.MqttMessage.{MqttMessage}
use Rattle.monitor.specs.declared.plan.Plan.{Plan}
use Rattle.monitor.specs.declared.state.MqttMonitor.{MqttMonitor}
use Rattle.monitor.specs.Prepared.{Prepared, made, rule}
use Rattle.monitor.proofs.Prepared.{prepared_sound}
use Rattle.loops.specs.Inspections.{pattern_at, next_from, from_at, loop_message, with_pattern, ruled, readied, state_after, allowed_after, loop_allowed}

-- what a fresh monitor has, and each of the loop's rules leaves, the monitor with rules has
ruled_holds : (P : MqttMonitor → Type 0) → P (fresh Port Block) → ((m : MqttMonitor) (p : List ℕ) → P m → P (with_pattern m p)) → (k : ℕ) → P (ruled k)
unfolding ruled
ruled_holds P begins goes_on zero = begins
ruled_holds P begins goes_on (suc k) = goes_on (ruled k) (pattern_at k) (ruled_holds P begins goes_on k)

-- it is a fresh one with rules
ruled_prepared : (k : ℕ) → Prepared (ruled k)
ruled_prepared k = ruled_holds Prepared (made Port Block) (λ m p h. rule h p Allow (MinQoS AtLeastOnce) 65535) k

pub readied_prepared : (n : ℕ) → Prepared (readied n)
readied_prepared n = rule (ruled_prepared n) (bytes "site/+/lamp/+") Allow (MinQoS AtLeastOnce) 65535

-- and so number 10 refuses it at no turn
pub ruled_formed : (k : ℕ) {m : MqttMonitor} → m ≡ ruled k → well_formed m ≡ true
ruled_formed k e = rw e (prepared_sound (ruled_prepared k)).formed

-- the loop's rules: one more
pub ruled_turn : (k : ℕ) {m : MqttMonitor} {p : List ℕ} → p ≡ pattern_at k → m ≡ with_pattern (ruled k) p → m ≡ ruled (k + 1)
unfolding ruled
ruled_turn k ep e = rw (e, ep, add-one k)

-- a topic that begins where it should ends inside the text
pub next_within : (long width from : ℕ) → width ≤ long → next_from long width from + width ≤ long
next_within long width from h = by (leb (from + width + width) long) (λ e. rw e (leb-true _ _ e)) (λ e. rw e (omega (arith, h)))

-- a message whose plan is known
module _ (n : ℕ) (topics : List ℕ) (width size k : ℕ) {m : MqttMonitor} {msg : MqttMessage} {from : ℕ} {p : Plan} (em : m ≡ state_after n topics width size k)
    (eg : msg ≡ loop_message width size k) (ef : from ≡ from_at (length topics) width k) (ep : p ≡ plan_of (matcher_of m) m msg (part topics from (from + width)) (bytes "on")) where
  -- the state after it
  pub state_turn : {next : MqttMonitor} → next ≡ applied m p → next ≡ state_after n topics width size (k + 1)
  unfolding state_after
  state_turn e = rw (e, ep, eg, ef, em, add-one k)

  -- how many were allowed with it
  pub allowed_turn : {a b : ℕ} → a ≡ allowed_after n topics width size k → b ≡ cond p.allowed (counted a) a → b ≡ allowed_after n topics width size (k + 1)
  unfolding allowed_after
  allowed_turn ea eb = rw (eb, ep, eg, ef, em, ea, add-one k)

-- where the next topic begins
pub from_turn : (long width k : ℕ) {from next : ℕ} → from ≡ from_at long width k → next ≡ next_from long width from → next ≡ from_at long width (k + 1)
unfolding from_at
from_turn long width k ef e = rw (e, ef, add-one k)

-- the answer, where all messages run
module _ (n : ℕ) (topics : List ℕ) (width size k : ℕ) where
  module _ (h : width ≤ 128) where
    pub all_run : width ≤ length topics → loop_allowed n topics width size k ≡ allowed_after n topics width size k
    unfolding loop_allowed
    all_run l = rw (le-ltb _ _ h, le-ltb _ _ l)
