-- What is told of a whole text: all of it is written where the lent buffer has room for what is told of any text, and nothing where it has not (`Says`, which the text in another form meets too).
-- Assumes nothing.
use Prim.Native.Nat.{ℕ, ◌*◌, ◌≤◌, ◌<◌}
use mathlib.Core.Path.{◌≡◌, refl, ◌∙◌}
use mathlib.Core.List.{List, map}
use native.Mathlib.Omega.{arith}
use borrow.Author.Tests.{le-leb, lt-leb}
use lib.ListN.{length, take, length-append, length-map}
use lib.Seq.{sets}
use Rattle.lines.specs.Wrote.{Wrote}
use Rattle.lines.proofs.put.WroteLaws.{wrote_room, wrote_then}
use Rattle.forms.specs.Form.{Took, took, stopped}
use Rattle.rules_text.specs.RuleText.{rule_in}
use Rattle.settings.specs.Kept.{read_of, SettingsRead}
use Rattle.settings.specs.SettingsText.{Settings, settings_of}
use Rattle.settings.specs.Told.{closing_told, head_told, rules_told, settings_told, told_of, told_text, told_as, told_room, in_room, told_end, kept_in, told_kept, settings_given}
use Rattle.settings.specs.declared.told.SettingsTold.{SettingsTold}
use Rattle.settings.proofs.told.GivenLaws.{given, not_given}

-- the settings, one part after the other
pub settings_wrote : (r : SettingsRead) {d e f : List ℕ} {at w x : ℕ} → r.rule_count ≤ 32
    → Wrote d e at (head_told r.form r.default_action r.matching r.threshold r.window r.rule_count) w
    × (length (head_told r.form r.default_action r.matching r.threshold r.window r.rule_count) ≤ 390)
    → Wrote e f w (rules_told 1 (map rule_in (take r.rule_count r.rules))) x
    × ((length (rules_told 1 (map rule_in (take r.rule_count r.rules))) ≤ r.rule_count * 320) × (length (take r.rule_count r.rules) ≡ r.rule_count))
    → Wrote d f at (settings_told (settings_given r)) x × (length (settings_told (settings_given r)) ≤ 10630)
unfolding settings_told
settings_wrote r n a b =
    let all : length (map rule_in (take r.rule_count r.rules)) ≡ r.rule_count = length-map (take r.rule_count r.rules) rule_in ∙ b.1.1 in
    rw all (wrote_then a.0 b.0, rw length-append (omega (arith, n, a.1, b.1.0)))

-- what a call promises that says a text t, and how it ended: its answer, the lent buffer after it, and that there is room for all
abbrev pub Says : List ℕ → SettingsTold → List ℕ → List ℕ → SettingsTold → Type 0
Says t end d e x = (x ≡ in_room (length d) end) × ((e ≡ kept_in d t) × (told_room ≤ length d → length t ≤ told_room))

pub says_nothing : (t : List ℕ) (end : SettingsTold) (d : List ℕ) → length d < 16384 → Says t end d d (record { number = 28; line = 0; length = 0 })
says_nothing t end d h = rw (lt-leb _ _ h) (refl, (refl, λ g. absurd (omega (arith, h, g))))

pub says_all : (t : List ℕ) (end : SettingsTold) (d : List ℕ) {e : List ℕ} → 16384 ≤ length d → e ≡ sets d 0 t → length t ≤ 16384 → Says t end d e end
says_all t end d h w n = rw (le-leb _ _ h) (refl, (w, λ g. n))

-- so of what is told of a text
abbrev pub Tells : List ℕ → List ℕ → List ℕ → SettingsTold → Type 0
Tells s d e x = (x ≡ told_end (length d) s) × ((e ≡ told_kept d s) × (told_room ≤ length d → length (told_text s) ≤ told_room))

pub told_nothing : (s d : List ℕ) → length d < 16384 → Tells s d d (record { number = 28; line = 0; length = 0 })
unfolding told_end told_kept
told_nothing s d h = says_nothing (told_text s) _ d h

-- where there is room, how many bytes are told
as_long : (t : Took Settings) (n : ℕ) → (told_as t n).length ≡ n
unfolding told_as
as_long (took v p l) n = refl
as_long (stopped k l) n = refl

pub told_long : (s : List ℕ) (room : ℕ) → told_room ≤ room → (told_end room s).length ≡ length (told_text s)
unfolding told_end
told_long s room h = rw (le-leb _ _ h) (as_long (settings_of s) (length (told_text s)))

module _ (s d : List ℕ) (h : 16384 ≤ length d) where
  told_all : (t : Took Settings) {e : List ℕ} {p : ℕ} → settings_of s ≡ t → Wrote d e 0 (told_of t) p → length (told_of t) ≤ 16384 → Tells s d e (told_as t p)
  unfolding told_end told_kept told_text
  told_all t {p = p} q w n =
      let k : p ≡ length (told_of t) = omega (arith, wrote_room w (omega (arith, h, n))) in
      rw (q, k) (says_all (told_of t) (told_as t (length (told_of t))) d h w.bytes n)

  module _ (r : SettingsRead) (q : r ≡ read_of s) where
    -- a text that is refused, and one that is not
    pub told_refused : {e : List ℕ} {p : ℕ} → (r.number ≡ 0 → ⊥) → Wrote d e 0 (closing_told r.number r.line) p × (length (closing_told r.number r.line) ≤ 60)
        → Tells s d e (record { number = r.number; line = r.line; length = p })
    unfolding told_of told_as
    told_refused z a = told_all (stopped r.number r.line) (not_given s q z) a.0 (omega (arith, a.1))

    pub told_accepted : {e f : List ℕ} {p x : ℕ} → r.number ≡ 0 → Wrote d e 0 (closing_told r.number r.line) p × (length (closing_told r.number r.line) ≤ 60)
        → Wrote e f p (settings_told (settings_given r)) x × (length (settings_told (settings_given r)) ≤ 10630)
        → Tells s d f (record { number = r.number; line = r.line; length = x })
    unfolding told_of told_as
    told_accepted z a b =
        let g = given s q z in
        let c = rw z at a in
        rw z (told_all (took (settings_given r) g.place r.line) g.settings (wrote_then c.0 b.0) (rw length-append (omega (arith, c.1, b.1))))
