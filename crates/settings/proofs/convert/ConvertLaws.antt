-- A text loaded and written back: its own refusal (`convert_refused`), or the end of the writing (`convert_ends`), each with the lent buffer then.
-- Assumes nothing.
use Prim.Native.Nat.{ℕ}
use mathlib.Core.Path.{◌≡◌, refl}
use mathlib.Core.List.{List}
use lib.ListN.{length}
use Rattle.forms.specs.Form.{Took, took, stopped}
use Rattle.forms.proofs.RealLaws.{RealTook}
use Rattle.settings.specs.Convert.{form_meant, end_at, converted_end, convert_end, converted_kept, convert_kept}
use Rattle.settings.specs.Loaded.{loaded_of, written_of, text_kept, LoadedSettings, Written}
use Rattle.settings.specs.SettingsText.{Settings, settings_of}
use Rattle.settings.proofs.SettingsRound.{settings_real}

module _ (form : ℕ) (d : List ℕ) where
  -- a text that is refused, with number and line
  refused : (t : Took Settings) {x : LoadedSettings} → x ≡ loaded_of t → (x.number ≡ 0 → ⊥)
      → (record { number = x.number; line = x.line; length = 0 } ≡ converted_end form (length d) t) × (d ≡ converted_kept form d t)
  unfolding loaded_of converted_end converted_kept
  refused (took v p l) e z = absurd (z (rw e))
  refused (stopped n l) e z = (rw e, refl)

  -- one that is taken: what the writing of its monitor gives
  taken : (t : Took Settings) → RealTook 36 t → {x : LoadedSettings} → x ≡ loaded_of t → x.number ≡ 0
      → (end_at x.line (written_of (form_meant form x.form) x.monitor (length d)) ≡ converted_end form (length d) t)
      × (text_kept (form_meant form x.form) x.monitor d ≡ converted_kept form d t)
  unfolding loaded_of converted_end converted_kept
  taken (took v p l) r e z = (rw e, rw e)
  taken (stopped n l) r e z = absurd ((r n l refl).0 (rw e at z))

  module _ (s : List ℕ) {x : LoadedSettings} (e : x ≡ loaded_of (settings_of s)) where
    -- the text is refused
    pub convert_refused : (x.number ≡ 0 → ⊥)
        → (record { number = x.number; line = x.line; length = 0 } ≡ convert_end form (length d) s) × (d ≡ convert_kept form d s)
    unfolding convert_end convert_kept
    convert_refused z = refused (settings_of s) e z

    -- it is taken, and its monitor was written in the form that is meant
    module _ {g : ℕ} {w : Written} {b : List ℕ} (z : x.number ≡ 0) (m : g ≡ form_meant form x.form)
        (v : (w ≡ written_of g x.monitor (length d)) × (b ≡ text_kept g x.monitor d)) where
      -- the end is that of the writing, at the last line of the text, and the buffer is what the writing left
      pub convert_ends : (end_at x.line w ≡ convert_end form (length d) s) × (b ≡ convert_kept form d s)
      unfolding convert_end convert_kept
      convert_ends = let t = taken (settings_of s) (settings_real s) e z in (rw (v.0, m) t.0, rw (v.1, m) t.1)
