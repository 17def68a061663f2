-- A monitor's choice of its matcher (specs/Chosen.antt): calls hand on the state that they are given, or one that has its field; a state whose rules are not as `add_rule` leaves
-- them is refused by 10 under any matcher, and of such rules the byte matcher is the rule level by level. Assumes nothing.
use mathlib.Core.Bool.{Bool, cond, ◌&&◌}
use mathlib.Core.List.{List, [], ◌∷◌}
use mathlib.Core.Path.{◌≡◌, refl, ap, ◌∙◌}
use Prim.Native.Nat.{ℕ}
use lib.Dec.{eqb, ltb}
use lib.ListN.{take}
use Rattle.laws.proofs.Cases.{by}
use Rattle.topics.specs.Matching.{is_standard, matches_by, matches_with, rule_with}
use Rattle.topics.specs.declared.matching.Matching.{Matching}
use Rattle.tables.specs.Buckets.{removed_bucket}
use Rattle.tables.specs.Identity.{id_of}
use Rattle.tables.specs.Trackers.{removed_tracker}
use Rattle.tables.proofs.rules.RuleLaws.{first_levels}
use Rattle.monitor.specs.Calls.{tested, remove_rule, swap_rules, clear_rules, set_storm, remove_bucket, remove_tracker, reset_state}
use Rattle.monitor.specs.Chosen.{Keeps, ChoiceKept, OneMatcher, Chosen}
use Rattle.monitor.specs.Gate.{ruling_of, gate_of}
use Rattle.monitor.specs.Inspect.{applied, inspect_refusal, inspect_with}
use Rattle.monitor.specs.Message.{used_topic}
use Rattle.monitor.specs.Plan.{plan_of}
use Rattle.monitor.specs.Runs.{Call, Reply, answer, shipped, after_by, after, replies_by, replies}
use Rattle.monitor.specs.State.{well_formed, matcher_of}
use Rattle.monitor.specs.declared.state.MqttMonitor.{MqttMonitor}
use Rattle.monitor.proofs.PlainLaws.{add_matching}
use Rattle.monitor.proofs.state.FormedLaws.{formed_parts}

pub inspect_keeps : (matcher : List ℕ → List ℕ → Bool) (m : MqttMonitor) (c : Call) → Keeps m (answer matcher m c).monitor
unfolding inspect_with applied
inspect_keeps matcher m c = by (eqb (inspect_refusal m c.msg c.topic c.payload) 0) (λ e. rw e) (λ e. rw e)

-- a call that may be refused, by its number
choice_kept : ChoiceKept
unfolding remove_rule swap_rules clear_rules set_storm remove_bucket remove_tracker reset_state
choice_kept =
    record {
      inspected = inspect_keeps;
      rule_added = add_matching;
      rule_removed = λ m at. by (eqb (tested m (cond (ltb at m.rule_count) 0 9)) 0) (λ e. rw e) (λ e. rw e);
      rules_swapped = λ m a b. by (eqb (tested m (cond (ltb a m.rule_count && ltb b m.rule_count) 0 9)) 0) (λ e. rw e) (λ e. rw e);
      rules_cleared = λ m. by (eqb (tested m 0) 0) (λ e. rw e) (λ e. rw e);
      storm_set = λ m threshold window. by (eqb (tested m 0) 0) (λ e. rw e) (λ e. rw e);
      bucket_removed = λ m topic. by (eqb (tested m (cond (ltb (removed_bucket (id_of topic) m.rate_buckets) 32) 0 7)) 0) (λ e. rw e) (λ e. rw e);
      tracker_removed = λ m topic. by (eqb (tested m (cond (ltb (removed_tracker (id_of topic) m.ewma_trackers) 16) 0 7)) 0) (λ e. rw e) (λ e. rw e);
      reset = λ m. by (eqb (tested m 0) 0) (λ e. rw e) (λ e. rw e);
    }

-- in a state of the same choice the shipped `inspect` takes the same matcher
pub as_chosen : (m n : MqttMonitor) → Keeps m n → (c : Call) → shipped n c ≡ answer (matcher_of m) n c
as_chosen m n e c = ap (λ (matching : Matching). answer (matches_by matching) n c) e

-- the next call of a run takes the matcher that this one took
same_matcher : (m : MqttMonitor) (c : Call) → matcher_of (shipped m c).monitor ≡ matcher_of m
same_matcher m c = ap matches_by (inspect_keeps (matcher_of m) m c)

told_alike : (cs : List Call) (m : MqttMonitor) → replies_by shipped m cs ≡ replies (matcher_of m) m cs
unfolding replies_by
told_alike [] m = refl
told_alike (c ∷ cs) m =
    let next : MqttMonitor = (shipped m c).monitor in
    ap (λ (l : List Reply). record { call = c; given = shipped m c } ∷ l)
    (told_alike cs next ∙ ap (λ (matcher : List ℕ → List ℕ → Bool). replies matcher next cs) (same_matcher m c))

left_alike : (cs : List Call) (m : MqttMonitor) → after_by shipped m cs ≡ after (matcher_of m) m cs
unfolding after_by
left_alike [] m = refl
left_alike (c ∷ cs) m =
    let next : MqttMonitor = (shipped m c).monitor in
    left_alike cs next ∙ ap (λ (matcher : List ℕ → List ℕ → Bool). after matcher next cs) (same_matcher m c)

choice_left : (cs : List Call) (m : MqttMonitor) → Keeps m (after_by shipped m cs)
unfolding after_by
choice_left [] m = refl
choice_left (c ∷ cs) m = choice_left cs (shipped m c).monitor ∙ inspect_keeps (matcher_of m) m c

pub one_matcher : (m : MqttMonitor) (cs : List Call) → OneMatcher m cs
one_matcher m cs = record { told = told_alike cs m; left = left_alike cs m; choice = choice_left cs m }

-- level by level, whatever the flags
by_levels : (f d : Bool) (m : MqttMonitor) (c : Call) → answer (matches_with f d) m c ≡ answer (rule_with f d) m c
unfolding inspect_with inspect_refusal plan_of gate_of ruling_of
by_levels f d m c =
    by (well_formed m)
    (λ w. rw (first_levels f d (take (used_topic c.msg) c.topic) m.rules m.rule_count (formed_parts m w).rules_fine))
    (λ w. rw w)

pub chosen : Chosen
chosen =
    record {
      kept = choice_kept;
      one_matcher = one_matcher;
      by_levels = λ m c. by_levels (is_standard m.matching) (is_standard m.matching) m c;
    }
