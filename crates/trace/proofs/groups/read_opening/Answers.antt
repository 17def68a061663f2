-- `trace::groups::read_opening` meets its contract: each line, read or refused, as the definition has them. Assumes nothing.
use mathlib.Core.Path.{◌≡◌, refl, sym, ◌∙◌}
use mathlib.Core.List.{List}
use Prim.Native.Nat.{ℕ}
use borrow.Author.Tests.{eq-eqb, ne_eqb}
use Rattle.trace.specs.Groups.{OpeningIn, opening_of, opening1, opening2}
use Rattle.trace.specs.declared.groups.OpeningLines.{OpeningLines}
use Rattle.trace.proofs.groups.GroupLaws.{opening_within}
use Rattle.trace.proofs.groups.read_opening.Goals.{After-number_field-rules, After-word_field-default}
use Rattle.trace.proofs.groups.read_opening.Goals as goal

-- A return's promises. The line at which it stands was refused, or was the last: either ends the definition.
ends : {s : List ℕ} {m o : OpeningLines} → opening_of s ≡ m → o ≡ m → (o ≡ opening_of s) × OpeningIn s o
ends {s} w e = let g = e ∙ sym w in (g, opening_within s g)

-- the text, from the place just after the first line's call; and that place, from just after the second's
abbrev text_at_After_number_field_rules : (c : After-number_field-rules) → List ℕ
text_at_After_number_field_rules c = c.args.text.now

-- the text, from the place just after the first line's call; and that place, from just after the second's
abbrev text : (c : After-word_field-default) → List ℕ
text c = c.args.text.now

-- what the definition has become at a line: those before it were read, so that line alone is left
left_default_at_After_number_field_rules : (c : After-number_field-rules) → opening_of (text_at_After_number_field_rules c) ≡ opening1 (text_at_After_number_field_rules c) c.word_field-default.result
unfolding opening_of
left_default_at_After_number_field_rules c = rw (← c.word_field-default.ensures.value)

-- what the definition has become at a line: those before it were read, so that line alone is left
left_default : (c : After-word_field-default) → opening_of (text c) ≡ opening1 (text c) c.word_field-default.result
unfolding opening_of
left_default c = rw (← c.word_field-default.ensures.value)

left_rules : (c : After-number_field-rules) → opening_of (text_at_After_number_field_rules c) ≡ opening2 c.word_field-default.result c.number_field-rules.result
unfolding opening1
left_rules c = rw (eq-eqb _ _ c.if-default-ne0.false, ← c.number_field-rules.ensures.value) at (left_default_at_After_number_field_rules c)

pub returns-then-default-ne0 : goal.returns-then-default-ne0
unfolding opening1
returns-then-default-ne0 c = let h = ends
    (rw (ne_eqb _ _ c.if-default-ne0.true) at (left_default (goal.at.returns-then-default-ne0 c).After-word_field-default))
    c.opening_stopped.ensures in record { value = h.0; within = h.1 }

pub returns-then-rules-ne0 : goal.returns-then-rules-ne0
unfolding opening2
returns-then-rules-ne0 c = let h = ends
    (rw (ne_eqb _ _ c.if-rules-ne0.true) at (left_rules (goal.at.returns-then-rules-ne0 c).After-number_field-rules))
    c.opening_stopped-then-rules-ne0.ensures in record { value = h.0; within = h.1 }

pub returns : goal.returns
unfolding opening2
returns c = let h = ends
    (rw (eq-eqb _ _ c.if-rules-ne0.false, ← c.action_at.ensures) at (left_rules (goal.at.returns c).After-number_field-rules)) refl in
    record { value = h.0; within = h.1 }
