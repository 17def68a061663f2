-- The guider of request C-17, by computation: it publishes every 0.4 s under a rate of 2, its burst spent. By the step before the request every second message passed: 1.6 tokens were earned, 1 was
-- given and the rest was lost. Now four of five pass. `lossy` is `inspect` with that step before; it denies messages for which there was room, so it does not meet the exact lower half
-- (LowerExact.antt). The proofs are in proofs/Guider.antt.
-- Assumes nothing.
use Rattle.std.specs.Prelude.{◌≡◌, Bool, true, false, cond, List, [], ◌∷◌, ◌++◌, ℕ, zero, suc, ◌+◌, ◌-◌, ◌*◌, ◌/◌, min, eqb, ltb, length, get_or, take, drop}
use Rattle.slices.specs.Bytes.{bytes}
use Rattle.tables.specs.Buckets.{with_tokens, take_token, holds_bucket, no_bucket, newcomer}
use Rattle.tables.specs.Identity.{id_of}
use Rattle.tables.specs.Scan.{find}
use Rattle.tables.specs.declared.buckets.RateBucket.{RateBucket}
use Rattle.tables.specs.declared.buckets.RateDecision.{RateDecision}
use Rattle.tables.specs.declared.buckets.RateCheckResult.TheVariants.{Allowed, Limited}
use Rattle.tables.specs.Buckets.{Spent}
use Rattle.tables.specs.declared.identity.Id.{Id}
use Rattle.monitor.specs.Inspect.{inspect_refusal, done_with}
use Rattle.monitor.specs.Message.{used_topic, used_payload}
use Rattle.monitor.specs.Plan.{gate_in, plan_from, plan_of}
use Rattle.monitor.specs.Runs.{Call, Monitor, shipped}
use Rattle.monitor.specs.State.{matcher_of}
use Rattle.monitor.specs.declared.message.MqttMessage.{MqttMessage}
use Rattle.monitor.specs.declared.plan.Plan.{Plan}
use Rattle.monitor.specs.declared.state.MqttMonitor.{MqttMonitor}
use Rattle.theorems.specs.LowerExact.{ExactBy}
use Rattle.theorems.specs.Shipped.{passes}
use Rattle.theorems.specs.Tight.{hub, publish}

-- what a time refilled before C-17: elapsed x capacity / 1,000,000, rounded down
abbrev pub whole_tokens : RateBucket → ℕ → ℕ
whole_tokens b t = (t - b.last_refill_us) * b.capacity / 1000000

-- the step before C-17: if the refill is above 0, tokens rise to at most capacity and the refill time becomes now; otherwise the time stays. Then one token is spent or there is none
unfoldable pub lossy_spend : RateBucket → ℕ → Spent
lossy_spend b t =
    take_token (cond (ltb 0 (whole_tokens b t)) (with_tokens b (min (b.tokens + whole_tokens b t) b.capacity) 0 t) b)

-- the limiter with it
unfoldable pub lossy_decide : List RateBucket → Id → ℕ → ℕ → RateDecision
lossy_decide bs id rate t =
    let at = find (holds_bucket id) bs in
    let spent = lossy_spend (get_or bs at no_bucket) t in
    cond (ltb at (length bs)) (record { at = at; bucket = spent.bucket; result = cond spent.ok Allowed Limited }) (newcomer bs id rate t)

-- a message's plan with it; all else is planned as ever
unfoldable pub lossy_plan : MqttMonitor → MqttMessage → List ℕ → List ℕ → Plan
lossy_plan m msg topic payload =
    let plan = plan_of (matcher_of m) m msg topic payload in
    let gate = gate_in (matcher_of m) m msg topic in
    plan_from m.next_alert_id m.total_alerts msg payload gate plan.seen
    (cond (ltb 0 gate.rate) (lossy_decide m.rate_buckets (id_of topic) gate.rate msg.timestamp_us) plan.spent) plan.fed

-- and `inspect` with it
unfoldable pub lossy : Monitor
lossy m c =
    cond (eqb (inspect_refusal m c.msg c.topic c.payload) 0)
    (done_with m (lossy_plan m c.msg (take (used_topic c.msg) c.topic) (take (used_payload c.msg) c.payload))) (shipped m c)

-- a message of the guider
abbrev pub guides : ℕ → Call
guides t = publish (bytes "m/g") t

-- some messages, one every 0.4 s from a time on
unfoldable pub every400ms : ℕ → ℕ → List Call
every400ms zero t = []
every400ms (suc n) t = guides t ∷ every400ms n (t + 400000)

-- its burst at 0, and so many messages after it
unfoldable pub guider : ℕ → List Call
guider n = guides 0 ∷ guides 0 ∷ every400ms n 400000

-- the verdicts of a monitor on a run
unfoldable pub verdicts : Monitor → MqttMonitor → List Call → List Bool
verdicts f m [] = []
verdicts f m (c ∷ cs) = passes f m c ∷ verdicts f (f m c).monitor cs

-- one message of five is denied
abbrev pub four_of_five_verdicts : List Bool
four_of_five_verdicts = false ∷ true ∷ true ∷ true ∷ true ∷ []

-- one of two
abbrev pub one_of_two_verdicts : List Bool
one_of_two_verdicts = false ∷ true ∷ []

pub record Guider : Type 0 where
  -- under a rate of 2, its burst spent: four of five pass
  pub four_of_five : drop 2 (verdicts shipped (hub 2) (guider 10)) ≡ four_of_five_verdicts ++ four_of_five_verdicts
  -- before C-17 it was every second one
  pub one_of_two : drop 2 (verdicts lossy (hub 2) (guider 10)) ≡ one_of_two_verdicts ++ one_of_two_verdicts ++ one_of_two_verdicts ++ one_of_two_verdicts ++ one_of_two_verdicts
  -- its message at 1.2 s was denied though only three of the four that the upper half allows had passed: so the step before does not meet the exact lower half
  pub lossy_inexact : ¬ ExactBy lossy
