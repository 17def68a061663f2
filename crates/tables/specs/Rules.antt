-- Document 01, "Numbers handed back" (`add_rule`) and "Order inside one inspection": the rule table. Only the first `n` places of it count.
-- Assumes nothing.
use Rattle.std.specs.Prelude.{Bool, true, false, cond, ◌&&◌, ◌||◌, List, [], ◌∷◌, ◌++◌, ℕ, ◌+◌, ◌-◌, min, eqb, leb, ltb, length, get_or, take, replicate, Result, Ok, Err}
use Rattle.slices.specs.Bytes.{same}
use Rattle.topics.specs.Matching.{port_matches}
use Rattle.topics.specs.Patterns.{pattern_refusal}
use Rattle.tables.specs.Numbers.{qos_number}
use Rattle.tables.specs.Scan.{find}
use Rattle.tables.specs.declared.rules.MqttQoS.{MqttQoS}
use Rattle.tables.specs.declared.rules.QosPolicy.{QosPolicy}
use Rattle.tables.specs.declared.rules.QosPolicy.TheVariants.{Any, MinQoS, ExactQoS}
use Rattle.tables.specs.declared.rules.Placement.{Placement}
use Rattle.tables.specs.declared.rules.RuleRefusal.{RuleRefusal}
use Rattle.tables.specs.declared.rules.RuleRefusal.TheVariants.{TableFull, BadPattern, NotUtf8}
use Rattle.tables.specs.declared.rules.TopicAction.{TopicAction}
use Rattle.tables.specs.declared.rules.TopicAction.TheVariants.{Allow}
use Rattle.tables.specs.declared.rules.TopicRule.{TopicRule}

-- the policy is any, or at least or exactly one of three levels
unfoldable pub qos_ok : QosPolicy → MqttQoS → Bool
qos_ok Any q = true
qos_ok (MinQoS least) q = leb (qos_number least) (qos_number q)
qos_ok (ExactQoS exact) q = eqb (qos_number q) (qos_number exact)

-- the bytes of a rule's pattern
abbrev pub pattern_of : TopicRule → List ℕ
pattern_of r = take r.pattern_len r.pattern

-- a free place
abbrev pub empty_rule : TopicRule
empty_rule = record { pattern = replicate 64 0; pattern_len = 0; action = Allow; qos_policy = Any; max_rate_per_sec = 0; active = false }

-- what stands past a table's end, as the checker reads it: its array is empty
abbrev pub no_rule : TopicRule
no_rule = record { pattern = []; pattern_len = 0; action = Allow; qos_policy = Any; max_rate_per_sec = 0; active = false }

-- a rule as `add_rule` leaves it: live, with a pattern that it takes
unfoldable pub rule_fine : TopicRule → Bool
rule_fine r = r.active && leb r.pattern_len 64 && eqb (pattern_refusal (pattern_of r)) 0

-- the place of the rule with an equal pattern; the count where there is none
unfoldable pub equal_rule : List ℕ → List TopicRule → ℕ → ℕ
equal_rule p rules n = find (λ r. r.active && same (pattern_of r) p) (take n rules)

-- the place of the first rule that takes a topic, under a given matcher (topic, then pattern); the count where there is none
unfoldable pub first_rule : (List ℕ → List ℕ → Bool) → List ℕ → List TopicRule → ℕ → ℕ
first_rule matcher topic rules n = find (λ r. r.active && matcher topic (pattern_of r)) (take n rules)

-- one of the earlier rules matches a pattern, read as a topic: as the Rust does, whatever matcher the rules are chosen by
unfoldable pub shadowed : List ℕ → List TopicRule → Bool
shadowed p [] = false
shadowed p (e ∷ es) = (e.active && port_matches p (pattern_of e)) || shadowed p es

-- the rules after those `before` whose pattern an earlier one matches; each counts once
unfoldable pub shadowed_after : List TopicRule → List TopicRule → ℕ
shadowed_after before [] = 0
shadowed_after before (r ∷ rs) = cond (r.active && shadowed (pattern_of r) before) 1 0 + shadowed_after (before ++ (r ∷ [])) rs

-- the shadow count
abbrev pub shadow_count : List TopicRule → ℕ → ℕ
shadow_count rules n = shadowed_after [] (take n rules)

-- a rule as `add_rule` writes it: the pattern, zeros after it
abbrev pub rule_of : List ℕ → TopicAction → QosPolicy → ℕ → TopicRule
rule_of p action policy rate =
    record {
      pattern = take 64 p ++ replicate (64 - length p) 0;
      pattern_len = length p;
      action = action;
      qos_policy = policy;
      max_rate_per_sec = rate;
      active = true;
    }

-- a rule with the same pattern and other settings
abbrev pub overwritten : TopicRule → TopicAction → QosPolicy → ℕ → TopicRule
overwritten r action policy rate =
    record {
      pattern = r.pattern;
      pattern_len = r.pattern_len;
      action = action;
      qos_policy = policy;
      max_rate_per_sec = rate;
      active = r.active;
    }

-- an equal pattern is held: it stands at a place that counts, of which there are 32
abbrev pub is_held : List TopicRule → ℕ → List ℕ → Bool
is_held rules n p = ltb (equal_rule p rules n) (min n 32)

-- where a rule goes: `rule` then stands at `at`, and `count` are held. Where `number` refuses it, `at` is no place and the count is as given
pub record RulePlan : Type 0 where
  pub number : ℕ
  pub at : ℕ
  pub rule : TopicRule
  pub count : ℕ

-- a rule that a number refuses: it has no place, and the count is as given
abbrev pub not_taken : ℕ → ℕ → RulePlan
not_taken number n = record { number = number; at = 32; rule = empty_rule; count = n }

-- where a rule goes in a table of n rules: the pattern's own number, then an equal pattern is overwritten in place, then 6 where 32 are held; else the rule comes last
unfoldable pub rule_plan : List TopicRule → ℕ → List ℕ → TopicAction → QosPolicy → ℕ → RulePlan
rule_plan rules n p action policy rate =
    cond (eqb (pattern_refusal p) 0)
    (cond (is_held rules n p)
    (record {
      number = 0;
      at = equal_rule p rules n;
      rule = overwritten (get_or rules (equal_rule p rules n) no_rule) action policy rate;
      count = n;
    })
    (cond (ltb n 32) (record { number = 0; at = n; rule = rule_of p action policy rate; count = n + 1 }) (not_taken 6 n)))
    (not_taken (pattern_refusal p) n)

-- the number of a refusal
abbrev pub rule_number : RuleRefusal → ℕ
rule_number TableFull = 6
rule_number BadPattern = 9
rule_number NotUtf8 = 36

-- an answer as a plan: a refused rule has no place in a table of n rules
abbrev pub told_plan : ℕ → Result Placement RuleRefusal → RulePlan
told_plan n (Ok p) = record { number = 0; at = p.at; rule = p.rule; count = p.count }
told_plan n (Err e) = not_taken (rule_number e) n
