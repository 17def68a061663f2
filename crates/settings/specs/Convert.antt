-- A text loaded and written back in a form, 0 for its own. The text's own refusals come first, with their lines; then those of the writing: 37 at the text's last line, since it is about what the text
-- says, and the others, which are about what was asked for and lent, of no line.
-- Assumes nothing.
use Rattle.std.specs.Prelude.{cond, ◌||◌, List, ℕ, eqb}
use Rattle.forms.specs.Form.{Took, took, stopped}
use Rattle.settings.specs.Loaded.{monitor_of, written_of, text_kept, Written}
use Rattle.settings.specs.SettingsText.{Settings, settings_of}
use Rattle.settings.specs.declared.convert.SettingsEnd.{SettingsEnd}

-- the form that is meant
abbrev pub form_meant : ℕ → ℕ → ℕ
form_meant form own = cond (eqb form 0) own form

-- the line at which a writing stands that ended in some number
abbrev pub line_for : ℕ → ℕ → ℕ
line_for line number = cond (eqb number 0 || eqb number 37) line 0

-- how a text that was read ends, by its last line and what the writing gave
unfoldable pub end_at : ℕ → Written → SettingsEnd
end_at line w = record { number = w.number; line = line_for line w.number; length = w.length }

unfoldable pub converted_end : ℕ → ℕ → Took Settings → SettingsEnd
converted_end form room (took v p l) = end_at l (written_of (form_meant form v.form) (monitor_of v) room)
converted_end form room (stopped n l) = record { number = n; line = l; length = 0 }

-- the answer, and the lent buffer
unfoldable pub convert_end : ℕ → ℕ → List ℕ → SettingsEnd
convert_end form room s = converted_end form room (settings_of s)

unfoldable pub converted_kept : ℕ → List ℕ → Took Settings → List ℕ
converted_kept form d (took v p l) = text_kept (form_meant form v.form) (monitor_of v) d
converted_kept form d (stopped n l) = d

unfoldable pub convert_kept : ℕ → List ℕ → List ℕ → List ℕ
convert_kept form d s = converted_kept form d (settings_of s)

-- the same settings, to be put in another form
abbrev pub in_form : ℕ → Settings → Settings
in_form form v =
    record { form = form; default = v.default; matching = v.matching; threshold = v.threshold; window = v.window; rules = v.rules }
