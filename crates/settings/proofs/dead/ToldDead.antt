-- What is told of a whole text when it is asked for its rules that can never speak, or for two of its rules: all of it is written where the lent buffer has room for what is told of any text.
-- A text has at most 32 rules, and the numbers of its report are at most 32. Assumes nothing.
use Prim.Native.Nat.{ℕ, ◌≤◌, ◌<◌}
use mathlib.Core.Bool.{Bool}
use mathlib.Core.Path.{◌≡◌}
use mathlib.Core.List.{List, append-nil}
use native.Mathlib.Omega.{arith}
use borrow.Author.Tests.{eqb-true, eqb-false, ltb-true, eq-eqb, ne_eqb, le-leb}
use lib.Dec.{eqb, ltb}
use lib.ListN.{length, take, get_or, length-append, length-take}
use Rattle.laws.proofs.Cases.{by, by_le}
use Rattle.topics.specs.declared.matching.Matching.{Matching}
use Rattle.lines.specs.Wrote.{Wrote}
use Rattle.lines.proofs.put.WroteLaws.{wrote_room, wrote_then}
use Rattle.forms.specs.Form.{Took, stopped}
use Rattle.tables.specs.Covers.{rule_covers, first_number, cover_report}
use Rattle.tables.specs.Rules.{no_rule}
use Rattle.tables.specs.Scan.{find}
use Rattle.tables.specs.declared.rules.TopicRule.{TopicRule}
use Rattle.tables.proofs.covers.ReportLaws.{report_at, report_past}
use Rattle.settings.specs.Dead.{report_told, dead_of, dead_text, dead_end, dead_kept, pair_number, pair_of, pair_text, pair_end, pair_kept}
use Rattle.settings.specs.Kept.{settings_read, rules_from, read_of, SettingsRead}
use Rattle.settings.specs.SettingsText.{Settings}
use Rattle.settings.specs.Told.{closing_told, told_room}
use Rattle.settings.specs.declared.told.SettingsTold.{SettingsTold}
use Rattle.settings.proofs.told.GivenLaws.{given, not_given}
use Rattle.settings.proofs.told.TellLaws.{Says, says_nothing, says_all}

-- a text has at most 32 rules; one that is refused has none
none_read : (from : ℕ) {t : Took Settings} {n l : ℕ} → t ≡ stopped n l → (settings_read from t).rule_count ≤ 32
unfolding settings_read
none_read from e = rw e (omega arith)

pub few : (s : List ℕ) {r : SettingsRead} → r ≡ read_of s → r.rule_count ≤ 32
unfolding read_of
few s {r = r} q =
    by (eqb r.number 0)
    (λ t. (given s q (eqb-true r.number 0 t)).few)
    (λ f. let h = none_read (rules_from s) (not_given s q (eqb-false r.number 0 f)) in rw q h)

-- the numbers of a report are those of rules before it
number_most : {A : Type 0} (p : A → Bool) (l : List A) → first_number p l ≤ length l
unfolding first_number
number_most p l = by (ltb (find p l) (length l)) (λ h. rw (h, first_number) (omega (arith, ltb-true (find p l) (length l) h))) (λ h. rw (h, first_number) (omega arith))

module _ (matching : Matching) (rules : List TopicRule) (n : ℕ) (full : length rules ≡ 32) (most : n ≤ 32) where
  pub report_small : {covers : List ℕ} → covers ≡ cover_report matching rules n → (i : ℕ) → i < 32 → get_or covers i 0 ≤ 32
  report_small q i h =
      by_le n i (λ past. rw (q, report_past matching rules n full most i past) (omega arith))
      (λ at. rw (q, report_at matching rules n full most i at) (omega (arith, number_most (rule_covers matching (get_or rules i no_rule)) (take i rules), length-take i rules)))

-- what is told of a text that is refused, and of one that is not
module _ (r : SettingsRead) where
  pub dead_refused : {d e : List ℕ} {x : ℕ} → (r.number ≡ 0 → ⊥) → Wrote d e 0 (closing_told r.number r.line) x × (length (closing_told r.number r.line) ≤ 60)
      → Wrote d e 0 (dead_of r) x × (length (dead_of r) ≤ 16384)
  unfolding dead_of
  dead_refused z a = rw (ne_eqb r.number 0 z, append-nil (closing_told r.number r.line)) (a.0, omega (arith, a.1))

  pub dead_accepted : {covers d e f : List ℕ} {x y : ℕ} → r.number ≡ 0 → Wrote d e 0 (closing_told r.number r.line) x × (length (closing_told r.number r.line) ≤ 60)
      → covers ≡ cover_report r.matching r.rules r.rule_count → Wrote e f x (report_told r.rules covers) y × (length (report_told r.rules covers) ≤ 9650)
      → Wrote d f 0 (dead_of r) y × (length (dead_of r) ≤ 16384)
  unfolding dead_of
  dead_accepted z a q b = rw (eq-eqb r.number 0 z, ← q) (wrote_then a.0 b.0, rw length-append (omega (arith, a.1, b.1)))

-- a text that is written whole, with how it ended
said : (t : List ℕ) (n l : ℕ) (d : List ℕ) {e : List ℕ} {p : ℕ} → 16384 ≤ length d → Wrote d e 0 t p × (length t ≤ 16384)
    → Says t (record { number = n; line = l; length = length t }) d e (record { number = n; line = l; length = p })
said t n l d {p = p} h w =
    let k : p ≡ length t = omega (arith, wrote_room w.0 (omega (arith, h, w.1))) in
    rw k (says_all t (record { number = n; line = l; length = length t }) d h w.0.bytes w.1)

-- so of the rules that can never speak
abbrev pub TellsDead : List ℕ → List ℕ → List ℕ → SettingsTold → Type 0
TellsDead s d e x = (x ≡ dead_end (length d) s) × ((e ≡ dead_kept d s) × (told_room ≤ length d → length (dead_text s) ≤ told_room))

module _ (s d : List ℕ) where
  pub dead_nothing : length d < 16384 → TellsDead s d d (record { number = 28; line = 0; length = 0 })
  unfolding dead_end dead_kept
  dead_nothing h = says_nothing (dead_text s) _ d h

  pub dead_told : (r : SettingsRead) {e : List ℕ} {p : ℕ} → 16384 ≤ length d → r ≡ read_of s → Wrote d e 0 (dead_of r) p × (length (dead_of r) ≤ 16384)
      → TellsDead s d e (record { number = r.number; line = r.line; length = p })
  unfolding dead_end dead_kept dead_text
  dead_told r h q w = rw (← q) (said (dead_of r) r.number r.line d h w)

-- and of two rules
abbrev pub TellsPair : ℕ → ℕ → List ℕ → List ℕ → List ℕ → SettingsTold → Type 0
TellsPair later earlier s d e x =
    (x ≡ pair_end later earlier (length d) s) × ((e ≡ pair_kept later earlier d s) × (told_room ≤ length d → length (pair_text later earlier s) ≤ told_room))

module _ (later earlier : ℕ) (s d : List ℕ) where
  pub pair_nothing : length d < 16384 → TellsPair later earlier s d d (record { number = 28; line = 0; length = 0 })
  unfolding pair_end pair_kept
  pair_nothing h = says_nothing (pair_text later earlier s) _ d h

  pub pair_told : (r : SettingsRead) {e : List ℕ} {n p : ℕ} → 16384 ≤ length d → r ≡ read_of s → n ≡ pair_number r later earlier
      → Wrote d e 0 (pair_of later earlier r) p × (length (pair_of later earlier r) ≤ 16384) → TellsPair later earlier s d e (record { number = n; line = r.line; length = p })
  unfolding pair_end pair_kept pair_text
  pair_told r {n = n} h q en w = rw (← q, ← en) (said (pair_of later earlier r) n r.line d h w)

-- where there is room, how many bytes are told
pub dead_long : (s : List ℕ) (room : ℕ) → told_room ≤ room → (dead_end room s).length ≡ length (dead_text s)
unfolding dead_end
dead_long s room h = rw (le-leb _ _ h)

pub pair_long : (later earlier : ℕ) (s : List ℕ) (room : ℕ) → told_room ≤ room → (pair_end later earlier room s).length ≡ length (pair_text later earlier s)
unfolding pair_end
pair_long later earlier s room h = rw (le-leb _ _ h)
