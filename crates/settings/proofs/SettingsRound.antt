-- Settings there and back, over whole texts: what is written of settings that fit is read as them, and a text that is taken is what is written of its settings. Assumes nothing.
use Prim.Native.Nat.{ℕ, zero, suc, ◌≤◌, ◌<◌}
use mathlib.Core.Path.{◌≡◌, refl, sym}
use mathlib.Core.List.{List}
use native.Mathlib.Omega.{arith}
use lib.Dec.{eqb}
use lib.ListN.{length}
use Rattle.laws.specs.Lists.{every}
use Rattle.laws.proofs.Cases.{by, whichever}
use Rattle.slices.specs.Bytes.{bytes, same}
use Rattle.topics.specs.declared.matching.Matching.TheVariants.{Port}
use Rattle.lines.specs.ReadWord.{word_index, different}
use Rattle.lines.specs.Word.{first_word, rest_words}
use Rattle.forms.specs.Form.{took, Round, word_form, pair_form, many_form}
use Rattle.forms.proofs.FormRound.{number_round, word_round, none_round, pair_round, map_round, many_round, numbered_round, whole_there, whole_back}
use Rattle.forms.proofs.RealLaws.{Refusal, Real, RealTook, number_real, word_real, none_real, pair_real, map_real, numbered_real, many_real, whole_real}
use Rattle.rules_text.specs.RuleText.{rule_form}
use Rattle.rules_text.proofs.RuleRound.{action_round, rule_round, action_real, rule_real}
use Rattle.settings.specs.SettingsText.{Settings, form_place, form_at, form_number, form_among, form_form, matching_number, matching_at, match_in, body_in, head_lines}
use Rattle.settings.specs.SettingsText.{rules_after, Lines, settings_lines, settings_from, lines_of, settings_form, settings_of}

-- the places of words and what they stand for
place_back : (k : ℕ) → k < 2 → form_place (form_at k) ≡ k
place_back k h = omega arith

matching_at_lem : (k : ℕ) → k < 2 → matching_number (matching_at k) ≡ k
matching_at_lem zero h = refl
matching_at_lem (suc zero) h = refl
matching_at_lem (suc (suc k)) h = absurd (omega arith)

form_round : Round form_form
unfolding form_form form_among word_form every first_word rest_words different word_index same
form_round = numbered_round _ _ (map_round form_at form_place (word_form (bytes "form=") (bytes "1|2")) place_back (word_round (bytes "form=") (bytes "1|2") refl refl refl))

match_round : (form : ℕ) → Round (match_in form)
unfolding match_in word_form every first_word rest_words different word_index same
match_round form =
    by (eqb form 2)
    (λ t.
    rw t
    (map_round matching_at matching_number (word_form (bytes "match=") (bytes "port|standard")) matching_at_lem (word_round (bytes "match=") (bytes "port|standard") refl refl refl)))
    (λ t. rw t (none_round Port))

body_round : (form : ℕ) → Round (body_in form)
unfolding body_in every
body_round form =
    pair_round _ _ (action_round (bytes "default=") refl)
    (λ d.
    pair_round _ _ (match_round form)
    (λ m.
    pair_round _ _ (number_round (bytes "threshold=") 2 16 refl)
    (λ t. pair_round _ _ (number_round (bytes "window=") 1000000 600000000 refl) (λ w. number_round (bytes "rules=") 0 32 refl))))

pub head_round : Round head_lines
unfolding head_lines
head_round = pair_round form_form body_in form_round body_round

lines_round : Round settings_lines
unfolding settings_lines
lines_round = pair_round head_lines _ head_round (λ h. many_round rule_form rule_round (rules_after h))

lines_back : (x : Lines) → settings_lines.fits x → lines_of (settings_from x) ≡ x
unfolding settings_lines pair_form many_form
lines_back x h = let n : length x.1 ≡ rules_after x.0 = h.1.0 in rw n

settings_round : Round settings_form
unfolding settings_form
settings_round = map_round settings_from lines_of settings_lines lines_back lines_round

-- what is written of settings that fit is read as them
pub settings_there : (v : Settings) → settings_form.fits v → length (settings_form.text v) ≤ 65536
    → settings_of (settings_form.text v) ≡ took v (length (settings_form.text v)) (settings_form.count v)
unfolding settings_of
settings_there v h n = whole_there settings_form settings_round v h n

-- a text that is taken is what is written of its settings, which fit
pub settings_back : (s : List ℕ) {v : Settings} {p l : ℕ} → settings_of s ≡ took v p l → (settings_form.text v ≡ s) × settings_form.fits v
unfolding settings_of
settings_back s e = let b = whole_back settings_form settings_round s e in (sym b.0, b.1)

-- what stops a reader has a number up to 36
number_kept : (n : ℕ) → Refusal 36 n → Refusal 36 (form_number n)
number_kept n h = whichever (Refusal 36) (eqb n 23) ((λ z. omega arith), omega arith) h

line : 26 ≤ 36
line = omega arith

match_real : (form : ℕ) → Real 36 (match_in form)
unfolding match_in
match_real form =
    by (eqb form 2) (λ t. rw t (map_real _ _ _ (word_real line (bytes "match=") (bytes "port|standard")))) (λ t. rw t (none_real Port))

body_real : (form : ℕ) → Real 36 (body_in form)
unfolding body_in
body_real form =
    pair_real _ _ (action_real line (bytes "default="))
    (λ d.
    pair_real _ _ (match_real form)
    (λ m.
    pair_real _ _ (number_real line (bytes "threshold=") 2 16)
    (λ t. pair_real _ _ (number_real line (bytes "window=") 1000000 600000000) (λ w. number_real line (bytes "rules=") 0 32))))

pub head_real : Real 36 head_lines
unfolding head_lines form_form form_among
head_real = pair_real _ _ (numbered_real form_number _ number_kept (map_real _ _ _ (word_real line (bytes "form=") (bytes "1|2")))) body_real

pub rules_real : (k : ℕ) → Real 36 (many_form rule_form k)
rules_real k = many_real rule_form (rule_real (omega arith)) k

-- what stops the lines has a number
form_real : Real 36 settings_form
unfolding settings_form settings_lines
form_real = map_real _ _ _ (pair_real _ _ head_real (λ h. rules_real (rules_after h)))

-- and so has what refuses a whole text
pub settings_real : (s : List ℕ) → RealTook 36 (settings_of s)
unfolding settings_of
settings_real s = whole_real settings_form (omega arith) form_real s
