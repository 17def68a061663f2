-- The four lines of a rule as the code reads them (RuleGroup.antt) are those of the form (RuleText.antt): `rule_took`, and of a rule after others `rule_read` and `rule_unread`. Assumes nothing.
use Prim.Native.Nat.{ℕ, ◌+◌}
use mathlib.Core.Path.{◌≡◌}
use mathlib.Core.Bool.{cond}
use mathlib.Core.List.{List}
use native.Mathlib.Omega.{arith}
use lib.Dec.{eqb}
use borrow.Author.Tests.{eq-eqb, ne_eqb}
use Rattle.laws.proofs.Cases.{by}
use Rattle.slices.specs.Bytes.{bytes}
use Rattle.lines.specs.Field.{hex_field, word_field, number_field}
use Rattle.forms.specs.Form.{Took, took, stopped, on_took, hex_form, word_form, number_form, pair_form, map_form, test_form}
use Rattle.rules_text.specs.RuleGroup.{rule1, rule2, rule3, rule4, rule_at, pattern_in}
use Rattle.rules_text.specs.RuleText.{RuleText, RuleValues, rule_from, action_form, policy_form, rule_lines, rule_refusal, rule_form}
use Rattle.rules_text.specs.declared.read.RuleLines.{RuleLines}

took_at : {A : Type 0} {a : A} {p l m : ℕ} → l ≡ m → took a p l ≡ took a p m
took_at e = cc

stop_at : {A : Type 0} {n l m : ℕ} → l ≡ m → ◌≡◌ {A = Took A} (stopped n l) (stopped n m)
stop_at e = cc

-- the values of lines that were read
abbrev pub values_in : List ℕ → RuleLines → RuleValues
values_in s r = (pattern_in s r, (r.action, (r.qos_policy, r.rate)))

rule_took : (s : List ℕ) (at line : ℕ)
    → rule_lines.read s at line
    ≡ cond (eqb (rule_at s at).number 0) (took (values_in s (rule_at s at)) (rule_at s at).next (line + 4)) (stopped (rule_at s at).number (line + 1 + (rule_at s at).line))
unfolding rule_lines action_form policy_form pair_form hex_form word_form number_form map_form on_took rule_at rule1 rule2 rule3 rule4
rule_took s at line =
    let P = hex_field s at (bytes "pattern=") 128 in
    let A = word_field s P.next (bytes "action=") (bytes "allow|block") in
    let Q = word_field s A.next (bytes "qos=") (bytes "any|min0|min1|min2|only0|only1|only2") in
    let R = number_field s Q.next (bytes "rate=") 0 65535 in
    by (eqb P.number 0)
    (λ p.
    by (eqb A.number 0)
    (λ a.
    by (eqb Q.number 0)
    (λ q.
    by (eqb R.number 0) (λ r. rw (p, on_took, a, on_took, q, on_took, r, on_took) (took_at (omega arith)))
    (λ r. rw (p, on_took, a, on_took, q, on_took, r, on_took, r) (stop_at (omega arith))))
    (λ q. rw (p, on_took, a, on_took, q, on_took, q) (stop_at (omega arith))))
    (λ a. rw (p, on_took, a, on_took, a) (stop_at (omega arith))))
    (λ p. rw (p, on_took, p) (stop_at (omega arith)))

module _ (before : List RuleText) (s : List ℕ) (at line : ℕ) {r : RuleLines} (e : r ≡ rule_at s at) where
  -- its lines were read: the rule is taken, or a number refuses it at the last of them
  pub rule_read : r.number ≡ 0
      → (rule_form before).read s at line
      ≡ cond (eqb (rule_refusal before (rule_from (values_in s r))) 0) (took (rule_from (values_in s r)) r.next (line + 4))
      (stopped (rule_refusal before (rule_from (values_in s r))) (line + 4))
  unfolding rule_form test_form map_form on_took
  rule_read z = rw (rule_took s at line, ← e, eq-eqb _ _ z, on_took)

  -- one of them was refused
  pub rule_unread : (r.number ≡ 0 → ⊥) → (rule_form before).read s at line ≡ stopped r.number (line + 1 + r.line)
  unfolding rule_form test_form map_form on_took
  rule_unread z = rw (rule_took s at line, ← e, ne_eqb _ _ z, on_took)
