-- `patterns::check_pattern` meets its contract: the tests that a taken pattern passes are those of the definition. Assumes nothing.
use Rattle.std.proofs.Common.{◌≡◌, ℕ, true, false, List, sym, ◌∙◌, arith, rules, tests}
use Rattle.slices.specs.Bytes.{has}
use Rattle.topics.specs.Utf8.{is_utf8}
use Rattle.topics.proofs.patterns.PatternLaws.{refused_valid}
use Rattle.topics.proofs.patterns.check_pattern.Goals.{Else-has_byte, Else-not-is_utf8}
use Rattle.topics.proofs.patterns.check_pattern.Goals as goal

-- no zero byte
abbrev pattern_at_at_Else_not_is_utf8 : (c : Else-not-is_utf8) → List ℕ
pattern_at_at_Else_not_is_utf8 c = c.args.pattern.now

-- no zero byte
abbrev pattern_at : (c : Else-has_byte) → List ℕ
pattern_at c = c.args.pattern.now

cleared : (c : Else-has_byte) → has 0 (pattern_at c) ≡ false
cleared c = sym c.has_byte.ensures ∙ c.if-has_byte.false

told : (c : Else-not-is_utf8) → is_utf8 (pattern_at_at_Else_not_is_utf8 c) ≡ true
told c = sym c.is_utf8.ensures ∙ c.if-not-is_utf8.false

pub returns-then-not-validate_mqtt_wildcard : goal.returns-then-not-validate_mqtt_wildcard
returns-then-not-validate_mqtt_wildcard c =
    let valid = sym c.validate_mqtt_wildcard.ensures ∙ c.if-not-validate_mqtt_wildcard.true in
    rw (
      refused_valid (pattern_at (goal.at.returns-then-not-validate_mqtt_wildcard c).Else-has_byte) (search (rules, tests)) (omega arith)
          (cleared (goal.at.returns-then-not-validate_mqtt_wildcard c).Else-has_byte)
          (told (goal.at.returns-then-not-validate_mqtt_wildcard c).Else-not-is_utf8) (omega arith),
      valid,
    )

pub returns : goal.returns
returns c =
    let valid = sym c.validate_mqtt_wildcard.ensures ∙ c.if-not-validate_mqtt_wildcard.false in
    rw (
      refused_valid (pattern_at (goal.at.returns c).Else-has_byte) (search (rules, tests)) (omega arith) (cleared (goal.at.returns c).Else-has_byte)
          (told (goal.at.returns c).Else-not-is_utf8) (omega arith),
      valid,
    )
