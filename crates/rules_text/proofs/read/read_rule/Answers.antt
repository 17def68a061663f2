-- `rules_text::read::read_rule` meets its contract: each line, read or refused, as the definition has them; the buffer is written by the first line alone. Assumes
-- nothing.
use Prim.Native.Nat.{ℕ}
use mathlib.Core.Path.{◌≡◌, refl, sym, ◌∙◌}
use mathlib.Core.List.{List}
use native.Mathlib.Omega.{arith}
use lib.ListN.{length}
use borrow.Author.Tests.{eq-eqb, ne_eqb}
use Rattle.lines.specs.declared.read.Field.{Field}
use Rattle.rules_text.specs.RuleGroup.{RuleIn, rule_at, rule1, rule2, rule3, rule4, pattern_kept}
use Rattle.rules_text.specs.declared.read.RuleLines.{RuleLines}
use Rattle.rules_text.proofs.read.RuleLaws.{rule_within}
use Rattle.forms.proofs.LineBounds.{number_fits}
use borrow.Author.Rules.{rules}
use Rattle.rules_text.proofs.read.read_rule.Goals.{After-hex_field-hex, After-number_field-rate, After-word_field-action, After-word_field-qos}
use Rattle.rules_text.proofs.read.read_rule.Goals as goal

-- What a statement at a place may speak of, so that it need not count its way back: s, at and d are the text, where the rule begins and the buffer as it was
-- lent; x is the buffer as the first call left it, its fourth argument; then comes what each line up to there gave, by the letters of the definitions, p a q r.
abbrev Of : Type 1 → Type 1
Of X = List ℕ → ℕ → List ℕ → List ℕ → Field → X

-- What the contract's two definitions have become: m and x. At a line's place the lines before it were read, so the definition of that line alone is left; each
-- step below takes one more line, by the test of the line before and by what its own call gave.
record Left (s : List ℕ) (at : ℕ) (d x : List ℕ) (m : RuleLines) : Type 0 where
  rule : rule_at s at ≡ m
  pattern : x ≡ pattern_kept s at d

-- A return's promises. The line at which it stands was refused, or was the last: either ends the definition.
ends : {s : List ℕ} {at : ℕ} {d x : List ℕ} {m r : RuleLines} → Left s at d x m → r ≡ m → (r ≡ rule_at s at) × (RuleIn s r × (x ≡ pattern_kept s at d))
ends {at = at} w e = let g = e ∙ sym w.rule in (g, (rule_within _ at g, w.pattern))

abbrev upto_pattern_at_After_number_field_rate : (c : After-number_field-rate) → {X : Type 1} → Of X → X
upto_pattern_at_After_number_field_rate c P =
    let a = c.args in P a.text.now a.at a.pattern.now c.hex_field-hex.new.out c.hex_field-hex.result

abbrev upto_pattern_at_After_word_field_qos : (c : After-word_field-qos) → {X : Type 1} → Of X → X
upto_pattern_at_After_word_field_qos c P =
    let a = c.args in P a.text.now a.at a.pattern.now c.hex_field-hex.new.out c.hex_field-hex.result

abbrev upto_pattern_at_After_word_field_action : (c : After-word_field-action) → {X : Type 1} → Of X → X
upto_pattern_at_After_word_field_action c P =
    let a = c.args in P a.text.now a.at a.pattern.now c.hex_field-hex.new.out c.hex_field-hex.result

abbrev upto_pattern : (c : After-hex_field-hex) → {X : Type 1} → Of X → X
upto_pattern c P =
    let a = c.args in P a.text.now a.at a.pattern.now c.hex_field-hex.new.out c.hex_field-hex.result

abbrev upto_action_at_After_number_field_rate : (c : After-number_field-rate) → {X : Type 1} → Of (Field → X) → X
upto_action_at_After_number_field_rate c P = upto_pattern_at_After_number_field_rate c P c.word_field-action.result

abbrev upto_action_at_After_word_field_qos : (c : After-word_field-qos) → {X : Type 1} → Of (Field → X) → X
upto_action_at_After_word_field_qos c P = upto_pattern_at_After_word_field_qos c P c.word_field-action.result

abbrev upto_action : (c : After-word_field-action) → {X : Type 1} → Of (Field → X) → X
upto_action c P = upto_pattern_at_After_word_field_action c P c.word_field-action.result

abbrev upto_policy_at_After_number_field_rate : (c : After-number_field-rate) → {X : Type 1} → Of (Field → Field → X) → X
upto_policy_at_After_number_field_rate c P = upto_action_at_After_number_field_rate c P c.word_field-qos.result

abbrev upto_policy : (c : After-word_field-qos) → {X : Type 1} → Of (Field → Field → X) → X
upto_policy c P = upto_action_at_After_word_field_qos c P c.word_field-qos.result

abbrev upto_rate : (c : After-number_field-rate) → {X : Type 1} → Of (Field → Field → Field → X) → X
upto_rate c P = upto_policy_at_After_number_field_rate c P c.number_field-rate.result

left_pattern_at_After_number_field_rate : (c : After-number_field-rate) → upto_pattern_at_After_number_field_rate c (λ s at d x p. Left s at d x (rule1 s p))
unfolding rule_at
left_pattern_at_After_number_field_rate c =
    let l : upto_pattern_at_After_number_field_rate c (λ s at d x p. length d ≡ 128) = search rules in
    record { rule = rw (← rw l at c.hex_field-hex.ensures.value); pattern = c.hex_field-hex.ensures.kept }

left_pattern_at_After_word_field_qos : (c : After-word_field-qos) → upto_pattern_at_After_word_field_qos c (λ s at d x p. Left s at d x (rule1 s p))
unfolding rule_at
left_pattern_at_After_word_field_qos c =
    let l : upto_pattern_at_After_word_field_qos c (λ s at d x p. length d ≡ 128) = search rules in
    record { rule = rw (← rw l at c.hex_field-hex.ensures.value); pattern = c.hex_field-hex.ensures.kept }

left_pattern_at_After_word_field_action : (c : After-word_field-action) → upto_pattern_at_After_word_field_action c (λ s at d x p. Left s at d x (rule1 s p))
unfolding rule_at
left_pattern_at_After_word_field_action c =
    let l : upto_pattern_at_After_word_field_action c (λ s at d x p. length d ≡ 128) = search rules in
    record { rule = rw (← rw l at c.hex_field-hex.ensures.value); pattern = c.hex_field-hex.ensures.kept }

left_pattern : (c : After-hex_field-hex) → upto_pattern c (λ s at d x p. Left s at d x (rule1 s p))
unfolding rule_at
left_pattern c =
    let l : upto_pattern c (λ s at d x p. length d ≡ 128) = search rules in
    record { rule = rw (← rw l at c.hex_field-hex.ensures.value); pattern = c.hex_field-hex.ensures.kept }

left_action_at_After_number_field_rate : (c : After-number_field-rate) → upto_action_at_After_number_field_rate c (λ s at d x p a. Left s at d x (rule2 s p a))
unfolding rule1
left_action_at_After_number_field_rate c = rw (eq-eqb _ _ c.if-hex-ne0.false, ← c.word_field-action.ensures.value) at (left_pattern_at_After_number_field_rate c)

left_action_at_After_word_field_qos : (c : After-word_field-qos) → upto_action_at_After_word_field_qos c (λ s at d x p a. Left s at d x (rule2 s p a))
unfolding rule1
left_action_at_After_word_field_qos c = rw (eq-eqb _ _ c.if-hex-ne0.false, ← c.word_field-action.ensures.value) at (left_pattern_at_After_word_field_qos c)

left_action : (c : After-word_field-action) → upto_action c (λ s at d x p a. Left s at d x (rule2 s p a))
unfolding rule1
left_action c = rw (eq-eqb _ _ c.if-hex-ne0.false, ← c.word_field-action.ensures.value) at (left_pattern_at_After_word_field_action c)

left_policy_at_After_number_field_rate : (c : After-number_field-rate) → upto_policy_at_After_number_field_rate c (λ s at d x p a q. Left s at d x (rule3 s p a q))
unfolding rule2
left_policy_at_After_number_field_rate c = rw (eq-eqb _ _ c.if-action-ne0.false, ← c.word_field-qos.ensures.value) at (left_action_at_After_number_field_rate c)

left_policy : (c : After-word_field-qos) → upto_policy c (λ s at d x p a q. Left s at d x (rule3 s p a q))
unfolding rule2
left_policy c = rw (eq-eqb _ _ c.if-action-ne0.false, ← c.word_field-qos.ensures.value) at (left_action_at_After_word_field_qos c)

left_rate : (c : After-number_field-rate) → upto_rate c (λ s at d x p a q r. Left s at d x (rule4 p a q r))
unfolding rule3
left_rate c = rw (eq-eqb _ _ c.if-qos-ne0.false, ← c.number_field-rate.ensures.value) at (left_policy_at_After_number_field_rate c)

pub returns-then-hex-ne0 : goal.returns-then-hex-ne0
unfolding rule1
returns-then-hex-ne0 c = let h = ends (rw (ne_eqb _ _ c.if-hex-ne0.true) at (left_pattern (goal.at.returns-then-hex-ne0 c).After-hex_field-hex))
    c.rule_stopped.ensures in record { value = h.0; within = h.1.0; kept = h.1.1 }

pub returns-then-action-ne0 : goal.returns-then-action-ne0
unfolding rule2
returns-then-action-ne0 c = let h = ends
    (rw (ne_eqb _ _ c.if-action-ne0.true) at (left_action (goal.at.returns-then-action-ne0 c).After-word_field-action))
    c.rule_stopped-then-action-ne0.ensures in record { value = h.0; within = h.1.0; kept = h.1.1 }

pub returns-then-qos-ne0 : goal.returns-then-qos-ne0
unfolding rule3
returns-then-qos-ne0 c = let h = ends (rw (ne_eqb _ _ c.if-qos-ne0.true) at (left_policy (goal.at.returns-then-qos-ne0 c).After-word_field-qos))
    c.rule_stopped-then-qos-ne0.ensures in record { value = h.0; within = h.1.0; kept = h.1.1 }

pub returns-then-rate-ne0 : goal.returns-then-rate-ne0
unfolding rule4
returns-then-rate-ne0 c = let h = ends (rw (ne_eqb _ _ c.if-rate-ne0.true) at (left_rate (goal.at.returns-then-rate-ne0 c).After-number_field-rate))
    c.rule_stopped-then-rate-ne0.ensures in record { value = h.0; within = h.1.0; kept = h.1.1 }

pub overflow_cast-result : goal.overflow_cast-result
overflow_cast-result c =
    let h = number_fits _ _ _ 0 65535 c.number_field-rate.ensures.value c.if-rate-ne0.false in omega arith

pub returns : goal.returns
unfolding rule4
returns c = let h = ends (rw (eq-eqb _ _ c.if-rate-ne0.false, ← c.action_at.ensures, ← c.policy_at.ensures) at (left_rate (goal.at.returns c).After-number_field-rate))
    refl in record { value = h.0; within = h.1.0; kept = h.1.1 }
