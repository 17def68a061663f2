-- Document 01, "The trace": the four lines of a rule in their fixed order, as the code reads them. Each line is one field of `lines`, which decides 26, 21 and the value's own number; the group stops
-- at its first refused line. `line` says which line of the group that is, the first being 0; of a group that was read it is the last. RuleText.antt says the same as a form.
-- Assumes nothing.
use Rattle.std.specs.Prelude.{cond, List, ℕ, ◌≤◌, ◌≡◌, eqb, length}
use Rattle.slices.specs.Bytes.{bytes}
use Rattle.lines.specs.Field.{number_field, word_field, hex_field, hex_kept}
use Rattle.lines.specs.ReadHex.{unhex}
use Rattle.lines.specs.Span.{part}
use Rattle.lines.specs.declared.read.Field.{Field}
use Rattle.tables.specs.Numbers.{action_at, policy_at}
use Rattle.tables.specs.declared.rules.QosPolicy.TheVariants.{Any}
use Rattle.tables.specs.declared.rules.TopicAction.TheVariants.{Allow}
use Rattle.rules_text.specs.declared.read.RuleLines.{RuleLines}

-- a rule that stopped at a line
abbrev pub rule_stopped : Field → ℕ → RuleLines
rule_stopped f line =
    record
    { number = f.number; line = line; next = f.next; pattern_from = 0; pattern_to = 0; action = Allow; qos_policy = Any; rate = 0 }

-- `pattern=` hex, `action=allow|block`, `qos=any|min0..min2|only0..only2`, `rate=` 0..65535
unfoldable pub rule4 : Field → Field → Field → Field → RuleLines
rule4 p a q r =
    cond (eqb r.number 0)
    (record {
      number = 0;
      line = 3;
      next = r.next;
      pattern_from = p.from;
      pattern_to = p.to;
      action = action_at a.value;
      qos_policy = policy_at q.value;
      rate = r.value;
    })
    (rule_stopped r 3)

unfoldable pub rule3 : List ℕ → Field → Field → Field → RuleLines
rule3 s p a q =
    cond (eqb q.number 0) (rule4 p a q (number_field s q.next (bytes "rate=") 0 65535)) (rule_stopped q 2)

unfoldable pub rule2 : List ℕ → Field → Field → RuleLines
rule2 s p a =
    cond (eqb a.number 0)
    (rule3 s p a (word_field s a.next (bytes "qos=") (bytes "any|min0|min1|min2|only0|only1|only2")))
    (rule_stopped a 1)

unfoldable pub rule1 : List ℕ → Field → RuleLines
rule1 s p =
    cond (eqb p.number 0) (rule2 s p (word_field s p.next (bytes "action=") (bytes "allow|block"))) (rule_stopped p 0)

-- the rule at a place of the text
unfoldable pub rule_at : List ℕ → ℕ → RuleLines
rule_at s at = rule1 s (hex_field s at (bytes "pattern=") 128)

-- its pattern
abbrev pub pattern_in : List ℕ → RuleLines → List ℕ
pattern_in s r = unhex (part s r.pattern_from r.pattern_to)

-- the buffer of a rule's pattern after it was read
abbrev pub pattern_kept : List ℕ → ℕ → List ℕ → List ℕ
pattern_kept s at d = hex_kept s at (bytes "pattern=") d

-- a rule lies in its text, and so does its pattern, which is at most 128 bytes
pub record RuleIn (s : List ℕ) (r : RuleLines) : Type 0 where
  pub after : r.next ≤ length s
  pub line : r.line ≤ 3
  pub known : r.number ≤ 26
  pub real : (r.number ≡ 0 → ⊥) → 21 ≤ r.number
  pub ordered : r.pattern_from ≤ r.pattern_to
  pub inside : r.pattern_to ≤ length s
  pub short : length (pattern_in s r) ≤ 128
