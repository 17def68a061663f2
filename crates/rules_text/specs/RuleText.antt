-- A rule as text, as a form: four lines, read as RuleGroup.antt has them and written in the same order. A settings text (request C-13) has rules one after another, each of them after those before it:
-- there a pattern that an earlier rule has is 35, and one that `add_rule` would not take has its own number, 9 or 36, both at the rule's last line.
-- Assumes nothing.
use Rattle.std.specs.Prelude.{Bool, false, cond, ◌||◌, List, [], ◌∷◌, ℕ, eqb}
use Rattle.slices.specs.Bytes.{bytes, same}
use Rattle.topics.specs.Patterns.{pattern_refusal}
use Rattle.forms.specs.Form.{Form, number_form, word_form, hex_form, pair_form, map_form, test_form}
use Rattle.tables.specs.Numbers.{action_at, action_number, policy_at, policy_number}
use Rattle.tables.specs.Rules.{pattern_of}
use Rattle.tables.specs.declared.rules.QosPolicy.{QosPolicy}
use Rattle.tables.specs.declared.rules.TopicAction.{TopicAction}
use Rattle.tables.specs.declared.rules.TopicRule.{TopicRule}

-- `allow|block`, under some key
unfoldable pub action_form : List ℕ → Form TopicAction
action_form key = map_form action_at action_number (word_form key (bytes "allow|block"))

-- `qos=any|min0..min2|only0..only2`
unfoldable pub policy_form : Form QosPolicy
policy_form = map_form policy_at policy_number (word_form (bytes "qos=") (bytes "any|min0|min1|min2|only0|only1|only2"))

-- what a rule's lines say
pub record RuleText : Type 0 where
  pub pattern : List ℕ
  pub action : TopicAction
  pub policy : QosPolicy
  pub rate : ℕ

-- the values in the order of the lines
abbrev pub RuleValues : Type 0
RuleValues = List ℕ × (TopicAction × (QosPolicy × ℕ))

abbrev pub rule_from : RuleValues → RuleText
rule_from x = record { pattern = x.0; action = x.1.0; policy = x.1.1.0; rate = x.1.1.1 }

abbrev pub values_of : RuleText → RuleValues
values_of r = (r.pattern, (r.action, (r.policy, r.rate)))

-- the lines: `pattern=` hex, `action=allow|block`, `qos=`, `rate=` 0..65535
unfoldable pub rule_lines : Form RuleValues
rule_lines =
    pair_form (hex_form (bytes "pattern=") 128)
    (λ p. pair_form (action_form (bytes "action=")) (λ a. pair_form policy_form (λ q. number_form (bytes "rate=") 0 65535)))

-- a pattern is that of one of some rules
unfoldable pub given_in : List RuleText → List ℕ → Bool
given_in [] p = false
given_in (r ∷ rs) p = same r.pattern p || given_in rs p

-- the number that refuses a rule after others: the pattern's own, or 35 where it was given before. They never meet: a pattern that was given before was taken
unfoldable pub rule_refusal : List RuleText → RuleText → ℕ
rule_refusal before r =
    cond (eqb (pattern_refusal r.pattern) 0) (cond (given_in before r.pattern) 35 0) (pattern_refusal r.pattern)

-- a rule after others
unfoldable pub rule_form : List RuleText → Form RuleText
rule_form before = test_form (rule_refusal before) (map_form rule_from values_of rule_lines)

-- a held rule as its lines say it
abbrev pub rule_in : TopicRule → RuleText
rule_in r = record { pattern = pattern_of r; action = r.action; policy = r.qos_policy; rate = r.max_rate_per_sec }

-- the four lines of a held rule
unfoldable pub rule_text : TopicRule → List ℕ
rule_text r = rule_lines.text (values_of (rule_in r))
