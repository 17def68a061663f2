-- What the reader of a settings text hands back are the settings that the text gives: a held rule says what its lines said, as a pattern that is taken has at most 64 bytes, and there are at most 32.
-- Assumes nothing.
use Prim.Native.Nat.{ℕ, ◌≤◌}
use mathlib.Core.Path.{◌≡◌, refl}
use mathlib.Core.List.{List, map}
use borrow.Author.Tests.{eqb-true}
use lib.Dec.{eqb}
use lib.ListN.{length, take}
use Rattle.laws.proofs.Cases.{by}
use Rattle.topics.specs.Patterns.{pattern_refusal}
use Rattle.topics.proofs.patterns.PatternLaws.{accepted_length}
use Rattle.forms.specs.Form.{Took, took, stopped, FitAll, fit_none, fit_more, number_form, pair_form, map_form, test_form, many_form}
use Rattle.forms.proofs.RealLaws.{RealTook}
use Rattle.rules_text.specs.RuleText.{RuleText, rule_in, rule_refusal, rule_form}
use Rattle.settings.specs.Kept.{settings_read, rules_from, read_of, SettingsRead}
use Rattle.settings.specs.Loaded.{rule_held, table_of}
use Rattle.settings.specs.SettingsText.{Settings, body_in, head_lines, settings_lines, settings_form, settings_of}
use Rattle.settings.specs.Told.{settings_given}
use Rattle.settings.proofs.SettingsRound.{settings_back, settings_real}
use Rattle.settings.proofs.rules.TableLaws.{held_pattern, table_used}

-- a rule that is taken has a pattern that is
taken_pattern : (before : List RuleText) (a : RuleText) → rule_refusal before a ≡ 0 → pattern_refusal a.pattern ≡ 0
unfolding rule_refusal
taken_pattern before a = by (eqb (pattern_refusal a.pattern) 0) (λ t e. eqb-true _ _ t) (λ t. rw t (λ e. e))

rule_short : (before : List RuleText) (a : RuleText) → (rule_form before).fits a → length a.pattern ≤ 64
unfolding rule_form test_form
rule_short before a f = (accepted_length a.pattern (taken_pattern before a f.1)).1

held_rule : (a : RuleText) → length a.pattern ≤ 64 → rule_in (rule_held a) ≡ a
held_rule a h = rw (held_pattern a h)

held_rules : {before rs : List RuleText} → FitAll rule_form before rs → map rule_in (map rule_held rs) ≡ rs
held_rules fit_none = refl
held_rules (fit_more {before = before} {a = a} {rest = rest} f g) = rw (held_rule a (rule_short before a f), held_rules g)

-- settings that fit
module _ (v : Settings) (f : settings_form.fits v) where
  fits_few : length v.rules ≤ 32
  unfolding settings_form map_form settings_lines pair_form head_lines body_in number_form
  fits_few = f.0.0.1.1.1.1.1.1

  fits_back : map rule_in (take (length v.rules) (table_of v.rules)) ≡ v.rules
  unfolding settings_form map_form settings_lines pair_form many_form
  fits_back = rw (table_used v.rules) (held_rules f.0.1.1)

-- what was read, by whether it was refused
pub record Given (s : List ℕ) (r : SettingsRead) : Type 0 where
  pub place : ℕ
  pub settings : settings_of s ≡ took (settings_given r) place r.line
  pub few : r.rule_count ≤ 32

given_from : (s : List ℕ) (from : ℕ) (t : Took Settings) → RealTook 36 t → settings_of s ≡ t → {r : SettingsRead} → r ≡ settings_read from t → r.number ≡ 0 → Given s r
unfolding settings_read
given_from s from (took v p l) k e q z =
    let f = (settings_back s e).1 in
    record { place = p; settings = rw (q, fits_back v f) e; few = rw q (fits_few v f) }
given_from s from (stopped n l) k e q z = absurd ((k n l refl).0 (rw q at z))

stopped-from : (s : List ℕ) (from : ℕ) (t : Took Settings) → settings_of s ≡ t → {r : SettingsRead} → r ≡ settings_read from t → (r.number ≡ 0 → ⊥)
    → settings_of s ≡ stopped r.number r.line
unfolding settings_read
stopped-from s from (took v p l) e q z = absurd (z (rw q))
stopped-from s from (stopped n l) e q z = rw q e

module _ (s : List ℕ) {r : SettingsRead} (q : r ≡ read_of s) where
  pub given : r.number ≡ 0 → Given s r
  unfolding read_of
  given z = given_from s (rules_from s) (settings_of s) (settings_real s) refl q z

  pub not_given : (r.number ≡ 0 → ⊥) → settings_of s ≡ stopped r.number r.line
  unfolding read_of
  not_given z = stopped-from s (rules_from s) (settings_of s) refl q z
