-- What is claimed of settings and their text (requests C-13 and C-18). Both laws are over whole texts. The proofs are in proofs/OneToOne.antt.
-- Assumes nothing.
use Rattle.std.specs.Prelude.{cond, List, ◌≡◌, ℕ, ◌≤◌, eqb, length}
use Rattle.std.proofs.lemmas.List.Edits.{sets}
use Rattle.forms.specs.Form.{took}
use Rattle.monitor.specs.Prepared.{Prepared}
use Rattle.monitor.specs.Ranged.{Ranged}
use Rattle.monitor.specs.Reached.{Reached}
use Rattle.monitor.specs.Sound.{Sound}
use Rattle.monitor.specs.declared.state.MqttMonitor.{MqttMonitor}
use Rattle.settings.specs.Convert.{convert_end, convert_kept}
use Rattle.settings.specs.Loaded.{settings_text, written_of, text_kept, monitor_of, loaded_of, SameSettings}
use Rattle.settings.specs.SettingsText.{Settings, form_refusal, settings_form, settings_of}

-- a text is accepted: it has these settings, and this is its last line
abbrev pub Accepted : List ℕ → Settings → ℕ → Type 0
Accepted s v line = settings_of s ≡ took v (length s) line

-- a text loads to a monitor with the settings of another, field by field
pub record LoadsTo (s : List ℕ) (m : MqttMonitor) : Type 0 where
  pub number : (loaded_of (settings_of s)).number ≡ 0
  pub same : SameSettings (loaded_of (settings_of s)).monitor m

-- how long the longest text of a form is
abbrev pub longest_in : ℕ → ℕ
longest_in form = cond (eqb form 2) 5547 5532

pub record OneToOne : Type 0 where
  -- what is written of any state that calls handed out, in any form that is known and has a word for its matcher, loads to a monitor with the same settings; its numbers are within their types, as
  -- those of every value of the code are
  pub written_loads : (form : ℕ) (m : MqttMonitor) → form_refusal form m.matching ≡ 0 → Reached m → Ranged m → LoadsTo (settings_text form m) m
  -- it is written, too: number 10 is never met there, and as many bytes as the form's longest text has are always room for it
  pub is_written :
      (form : ℕ) (m : MqttMonitor) (d : List ℕ) → form_refusal form m.matching ≡ 0 → Reached m → Ranged m → longest_in form ≤ length d
      → (written_of form m (length d) ≡ record { number = 0; length = length (settings_text form m) }) × (text_kept form m d ≡ sets d 0 (settings_text form m))
  -- any accepted text is written back byte for byte, in its own form, from the monitor that it loads to
  pub loaded_written : (s : List ℕ) {v : Settings} {line : ℕ} → Accepted s v line → settings_text v.form (monitor_of v) ≡ s
  -- so accepted texts and settings correspond one to one: texts with the same settings are one text, and settings that fit have one
  pub one_text : (s t : List ℕ) {v : Settings} {line other : ℕ} → Accepted s v line → Accepted t v other → s ≡ t
  pub a_text : (v : Settings) → settings_form.fits v → Accepted (settings_form.text v) v (settings_form.count v)
  -- a text that is loaded at all is accepted: nothing of it is left over
  pub whole : (s : List ℕ) {v : Settings} {place line : ℕ} → settings_of s ≡ took v place line → Accepted s v line
  -- none of form 1 is longer than 5,532 bytes, and none of form 2 than 5,547
  pub longest : (s : List ℕ) {v : Settings} {line : ℕ} → Accepted s v line → length s ≤ longest_in v.form
  -- `convert_settings`, asked for a text's own form, hands an accepted text back as it is, where there is room for it
  pub given_back :
      (s d : List ℕ) {v : Settings} {line : ℕ} → Accepted s v line → length s ≤ length d
      → (convert_end 0 (length d) s ≡ record { number = 0; line = line; length = length s }) × (convert_kept 0 d s ≡ sets d 0 s)

-- A loaded monitor is one that calls make: a constructor, the CONNECT settings, and its rules added one by one
pub record MadeByCalls : Type 0 where
  pub prepared : (s : List ℕ) {v : Settings} {line : ℕ} → Accepted s v line → Prepared (monitor_of v)
  pub reached : (s : List ℕ) {v : Settings} {line : ℕ} → Accepted s v line → Reached (monitor_of v)
  -- so it is sound, and number 10 is never met in it or after it
  pub sound : (s : List ℕ) {v : Settings} {line : ℕ} → Accepted s v line → Sound (monitor_of v)
  -- and its numbers are within their types
  pub ranged : (s : List ℕ) {v : Settings} {line : ℕ} → Accepted s v line → Ranged (monitor_of v)
