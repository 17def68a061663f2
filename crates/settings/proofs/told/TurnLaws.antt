-- A text in another form, as it is handed to a person: the lent buffer has room for every text of every form, so that what the conversion wrote is all of it; where the conversion refused the text it
-- left the buffer as it was, and the two closing lines are written there. Assumes nothing.
use Prim.Native.Nat.{ℕ, ◌≤◌, ◌<◌}
use mathlib.Core.Path.{◌≡◌, refl, ◌∙◌}
use mathlib.Core.List.{List}
use native.Mathlib.Omega.{arith}
use borrow.Author.Tests.{eqb-true, eqb-false, le-leb}
use lib.Dec.{eqb}
use lib.ListN.{length}
use lib.Seq.{sets}
use Rattle.laws.proofs.Cases.{by}
use Rattle.lines.specs.Wrote.{Wrote}
use Rattle.lines.proofs.put.WroteLaws.{wrote_room}
use Rattle.forms.specs.Form.{Took, took, stopped}
use Rattle.settings.specs.Convert.{form_meant, end_at, converted_end, convert_end, converted_kept, convert_kept, in_form}
use Rattle.settings.specs.Loaded.{text_kept, monitor_of}
use Rattle.settings.specs.SettingsText.{Settings, form_refusal, settings_form, settings_of}
use Rattle.settings.specs.Told.{closing_told, turned_of, turned_text, turned_as, told_room, turned_end, turned_kept}
use Rattle.settings.specs.declared.convert.SettingsEnd.{SettingsEnd}
use Rattle.settings.specs.declared.told.SettingsTold.{SettingsTold}
use Rattle.settings.proofs.HomeAgain.{in_form-fits, text_in, written_in, form_refused, nothing_written}
use Rattle.settings.proofs.OneToOne.{settings_short, longest_at_most, whole, matches, sound}
use Rattle.settings.proofs.SettingsRound.{settings_back, settings_real}
use Rattle.settings.proofs.told.TellLaws.{says_nothing, says_all}

-- how a conversion ended is how the text is handed over, and so is what it wrote, or what is said in place of it
record Handed (form : ℕ) (t : Took Settings) (d : List ℕ) (x : SettingsEnd) (b : List ℕ) : Type 0 where
  ended : (n : ℕ) → record { number = x.number; line = x.line; length = n } ≡ turned_as form t n
  written : x.number ≡ 0 → (b ≡ sets d 0 (turned_of form t)) × ((x.length ≡ length (turned_of form t)) × (length (turned_of form t) ≤ 5547))
  refused : (x.number ≡ 0 → ⊥) → closing_told x.number x.line ≡ turned_of form t

module _ (s d : List ℕ) (form : ℕ) (h : 16384 ≤ length d) where
  handed_from : (t : Took Settings) → settings_of s ≡ t → Handed form t d (converted_end form (length d) t) (converted_kept form d t)
  unfolding converted_end end_at converted_kept text_kept turned_of turned_as
  handed_from (took v p l) q =
      let e = whole s q in
      let g = form_meant form v.form in
      by (eqb (form_refusal g v.matching) 0)
      (λ t.
      let k = eqb-true (form_refusal g v.matching) 0 t in
      let f = in_form-fits g v k (settings_back s e).1 in
      let n : length (settings_form.text (in_form g v)) ≤ 5547 = omega (arith, settings_short (in_form g v) f, longest_at_most g) in
      let w = written_in s e g k (length d) (omega (arith, n, h)) in
      record { ended = λ j. rw (w, k); written = λ z. (rw (w, k, text_in s e g k), (rw (w, k), rw k n)); refused = λ z. absurd (z (rw w)) })
      (λ t.
      let z = eqb-false (form_refusal g v.matching) 0 t in
      let w = form_refused g (monitor_of v) (length d) (sound s e).formed (rw (matches v)) z in
      record { ended = λ j. rw w; written = λ y. absurd (z (rw w at y)); refused = λ y. rw (w, t) })
  handed_from (stopped n l) q =
      let r = (settings_real s n l q).0 in
      record { ended = λ k. refl; written = λ z. absurd (r z); refused = λ z. refl }

  module _ {x : SettingsEnd} {b : List ℕ} (v : (x ≡ convert_end form (length d) s) × (b ≡ convert_kept form d s)) where
    handed : Handed form (settings_of s) d x b
    unfolding convert_end convert_kept
    handed = rw (v.0, v.1) (handed_from (settings_of s) refl)

-- what the call promises of a text, a form and a lent buffer
abbrev pub Turns : List ℕ → ℕ → List ℕ → List ℕ → SettingsTold → Type 0
Turns s form d e x = (x ≡ turned_end form (length d) s) × ((e ≡ turned_kept form d s) × (told_room ≤ length d → length (turned_text form s) ≤ told_room))

pub turned_nothing : (s d : List ℕ) (form : ℕ) → length d < 16384 → Turns s form d d (record { number = 28; line = 0; length = 0 })
unfolding turned_end turned_kept
turned_nothing s d form h = says_nothing (turned_text form s) _ d h

-- where there is room, how many bytes are said
turned_as_lem : (form : ℕ) (t : Took Settings) (n : ℕ) → (turned_as form t n).length ≡ n
unfolding turned_as
turned_as_lem form (took v p l) n = refl
turned_as_lem form (stopped k l) n = refl

pub turned_long : (s : List ℕ) (form room : ℕ) → told_room ≤ room → (turned_end form room s).length ≡ length (turned_text form s)
unfolding turned_end
turned_long s form room h = rw (le-leb _ _ h) (turned_as_lem form (settings_of s) (length (turned_text form s)))

module _ (s d : List ℕ) (form : ℕ) (h : 16384 ≤ length d) {x : SettingsEnd} {b : List ℕ} (v : (x ≡ convert_end form (length d) s) × (b ≡ convert_kept form d s)) where
  -- nothing refuses it
  pub turned_whole : x.number ≡ 0 → Turns s form d b (record { number = x.number; line = x.line; length = x.length })
  unfolding turned_end turned_kept turned_text
  turned_whole z =
      let a = handed s d form h v in
      let w = a.written z in
      rw (w.1.0, a.ended (length (turned_of form (settings_of s))))
      (says_all (turned_of form (settings_of s)) (turned_as form (settings_of s) (length (turned_of form (settings_of s)))) d h w.0 (omega (arith, w.1.1)))

  -- a number does, and the buffer is as it was
  pub turned_refused : {e : List ℕ} {p : ℕ} → (x.number ≡ 0 → ⊥) → Wrote b e 0 (closing_told x.number x.line) p × (length (closing_told x.number x.line) ≤ 60)
      → Turns s form d e (record { number = x.number; line = x.line; length = p })
  unfolding turned_end turned_kept turned_text
  turned_refused {p = p} z w =
      let a = handed s d form h v in
      let stays : b ≡ d = v.1 ∙ nothing_written s d form (rw v.0 at z) in
      let y = rw (stays, a.refused z) at w in
      let n : p ≡ length (turned_of form (settings_of s)) = omega (arith, wrote_room y.0 (omega (arith, h, y.1))) in
      rw (n, a.ended (length (turned_of form (settings_of s))))
      (says_all (turned_of form (settings_of s)) (turned_as form (settings_of s) (length (turned_of form (settings_of s)))) d h y.0.bytes (omega (arith, y.1)))
