-- Messages that ask no table, one after the other: what the shipped `inspect` answers to them singly is by the rules and the counters alone, and of the state only the counters move
-- (specs/Several.antt). Assumes nothing.
use mathlib.Core.Bool.{Bool, true}
use mathlib.Core.List.{List, [], ◌∷◌, ◌++◌}
use mathlib.Core.Path.{◌≡◌, refl, ap, ◌∙◌}
use Prim.Native.Nat.{ℕ, ◌+◌}
use Rattle.laws.specs.Lists.{every}
use Rattle.laws.proofs.Every.{every_both}
use Rattle.monitor.specs.Alerts.{counted}
use Rattle.monitor.specs.Inspect.{applied, result_of}
use Rattle.monitor.specs.Light.{is_light}
use Rattle.monitor.specs.Plan.{plan_of}
use Rattle.monitor.specs.Runs.{Call, Exact, shipped, replies_by, after_by}
use Rattle.monitor.specs.State.{well_formed, matcher_of, with_counters}
use Rattle.monitor.specs.Ended.{Inspected}
use Rattle.monitor.specs.declared.plan.Plan.{Plan}
use Rattle.monitor.specs.declared.state.MqttMonitor.{MqttMonitor}
use Rattle.monitor.proofs.Light.{light}
use Rattle.monitor.proofs.Link.{SameRules, rules_stay}
use Rattle.monitor.proofs.Replies.{AllExact, shipped_done, done_formed}
use Rattle.trace.specs.AsRun.{records_text}
use Rattle.trace.specs.Record.{record_text}
use Rattle.queue.specs.Queue.{records_from}
use Rattle.queue.specs.Several.{Counters, book_of, light_for, light_text, light_on, light_after}

-- what of a monitor they move
abbrev pub counters_of : MqttMonitor → Counters
counters_of m = record { next_id = m.next_alert_id; inspected = m.total_inspected; total = m.total_alerts }

-- no message changes what answers them
same_book : {m n : MqttMonitor} → SameRules m n → book_of n ≡ book_of m
same_book s = rw (s.rules_same, s.count_same, s.default_same, s.choice_same)

pub book_after : (cs : List Call) (m : MqttMonitor) → book_of (after_by shipped m cs) ≡ book_of m
unfolding after_by
book_after [] m = refl
book_after (c ∷ cs) m = book_after cs (shipped m c).monitor ∙ same_book (rules_stay (matcher_of m) m c.msg c.topic c.payload)

-- the state with other counters
abbrev pub counted_by : MqttMonitor → Counters → MqttMonitor
counted_by m k = with_counters m k.next_id k.inspected k.total

-- a call asks no table
abbrev pub asks_none : Call → Bool
asks_none c = is_light c.msg

module _ (m : MqttMonitor) (c : Call) (l : asks_none c ≡ true) where
  abbrev plan : Plan
  plan = plan_of (matcher_of m) m c.msg c.topic c.payload

  -- its plan, and the state with other counters
  abbrev lone : Plan
  lone = light_for (book_of m) m.next_alert_id m.total_alerts c

  abbrev next : MqttMonitor
  next = with_counters m lone.raised.next_id (counted m.total_inspected) lone.raised.total

  light_plan_lem : plan ≡ lone
  unfolding light_for
  light_plan_lem = light.plan (matcher_of m) m c.msg c.topic c.payload l

  light_state : applied m plan ≡ next
  light_state =
      light.kept (matcher_of m) m c.msg c.topic c.payload l
      ∙ ap (λ (p : Plan). with_counters m p.raised.next_id (counted m.total_inspected) p.raised.total) light_plan_lem

  module _ (w : well_formed m ≡ true) (e : Exact c) where
    -- what it answers, and the state after it
    light_result : (shipped m c).result ≡ result_of lone
    light_result = ap (λ (i : Inspected). i.result) (shipped_done m c w e) ∙ ap result_of light_plan_lem

    light_next : (shipped m c).monitor ≡ next
    light_next = ap (λ (i : Inspected). i.monitor) (shipped_done m c w e) ∙ light_state

    light_formed : well_formed next ≡ true
    light_formed = rw (← light_state) (done_formed m c w e)

-- their records
pub records_light : (cs : List Call) (m : MqttMonitor) (n : ℕ) → well_formed m ≡ true → AllExact cs → every asks_none cs ≡ true
    → records_from n m cs ≡ light_text (book_of m) n m.next_alert_id m.total_alerts cs
unfolding records_text replies_by light_text
records_light [] m n w e l = refl
records_light (c ∷ cs) m n w e l =
    let b = every_both asks_none c cs l in
    let first : List ℕ = record_text n (result_of (lone m c b.0)) in
    rw (light_result m c b.0 w e.0, light_next m c b.0 w e.0)
    (ap (λ (t : List ℕ). first ++ t) (records_light cs (next m c b.0) (n + 1) (light_formed m c b.0 w e.0) e.1 b.1))

-- and the state after them
pub state_light : (cs : List Call) (m : MqttMonitor) → well_formed m ≡ true → AllExact cs → every asks_none cs ≡ true
    → after_by shipped m cs ≡ counted_by m (light_after (book_of m) (counters_of m) cs)
unfolding after_by light_after light_on
state_light [] m w e l = refl
state_light (c ∷ cs) m w e l =
    let b = every_both asks_none c cs l in
    ap (λ (x : MqttMonitor). after_by shipped x cs) (light_next m c b.0 w e.0) ∙ state_light cs (next m c b.0) (light_formed m c b.0 w e.0) e.1 b.1
