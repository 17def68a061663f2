-- What is claimed of a settings text in another form (request C-18), over whole texts and of `convert_settings` as it answers. The proofs are in proofs/HomeAgain.antt.
-- Assumes nothing.
use Rattle.std.specs.Prelude.{true, List, ◌≡◌, ℕ, ◌≤◌, length}
use Rattle.std.proofs.lemmas.List.Edits.{sets}
use Rattle.slices.specs.Bytes.{bytes}
use Rattle.topics.specs.declared.matching.Matching.TheVariants.{Port, Standard}
use Rattle.forms.specs.Form.{stopped}
use Rattle.monitor.specs.State.{well_formed}
use Rattle.monitor.specs.declared.state.MqttMonitor.{MqttMonitor}
use Rattle.settings.specs.Convert.{convert_end, convert_kept, in_form}
use Rattle.settings.specs.Loaded.{unwritten, written_of, monitor_of}
use Rattle.settings.specs.OneToOne.{Accepted}
use Rattle.settings.specs.SettingsText.{Settings, form_among}

-- a text, whose last line this is, turns into another where a form is asked for: in whatever buffer is lent that has room for it, it stands at the beginning then, and what is behind it stays
pub record Turns (form : ℕ) (s : List ℕ) (line : ℕ) (t : List ℕ) : Type 0 where
  pub turned :
      (d : List ℕ) → length t ≤ length d
      → (convert_end form (length d) s ≡ record { number = 0; line = line; length = length t }) × (convert_kept form d s ≡ sets d 0 t)

-- an accepted text goes into a form and comes home: it turns into another one, which is accepted with the same settings, loads to the same monitor, and turns into the first one again
pub record ComesHome (form : ℕ) (s : List ℕ) (v : Settings) (line : ℕ) : Type 0 where
  pub other : List ℕ
  pub other_line : ℕ
  pub there : Turns form s line other
  pub accepted : Accepted other (in_form form v) other_line
  pub same_monitor : monitor_of (in_form form v) ≡ monitor_of v
  pub back : Turns v.form other other_line s

-- an accepted text of form 2 that says standard
pub record SaysStandard (s : List ℕ) (line : ℕ) : Type 0 where
  pub settings : Settings
  pub accepted : Accepted s settings line
  pub form_2 : settings.form ≡ 2
  pub standard : settings.matching ≡ Standard

pub record HomeAgain : Type 0 where
  -- form 1 means port
  pub form_1_port : (s : List ℕ) {v : Settings} {line : ℕ} → Accepted s v line → v.form ≡ 1 → v.matching ≡ Port
  -- form 1 to form 2 and back is the same bytes
  pub one_and_back : (s : List ℕ) {v : Settings} {line : ℕ} → Accepted s v line → v.form ≡ 1 → ComesHome 2 s v line
  -- so is form 2 that says port, to form 1 and back
  pub two_and_back : (s : List ℕ) {v : Settings} {line : ℕ} → Accepted s v line → v.form ≡ 2 → v.matching ≡ Port → ComesHome 1 s v line
  -- to the form that it has, a text is itself
  pub own_form : (s : List ℕ) {v : Settings} {line : ℕ} → Accepted s v line → Turns v.form s line s
  -- 37 exactly for an accepted text of form 2 that says standard, asked for in form 1: at its last line, with room or without
  pub says_37 : (s : List ℕ) (room : ℕ) {line : ℕ} → SaysStandard s line → convert_end 1 room s ≡ record { number = 37; line = line; length = 0 }
  pub only_37 : (s : List ℕ) (form room : ℕ) → (convert_end form room s).number ≡ 37 → (form ≡ 1) × SaysStandard s (convert_end form room s).line
  -- so is a monitor that matches by the standard, where it is to be written in form 1: after 10, and before 28
  pub writes_37 : (m : MqttMonitor) (room : ℕ) → well_formed m ≡ true → m.matching ≡ Standard → written_of 1 m room ≡ unwritten 37
  -- whatever refuses a text, nothing is written
  pub nothing_written : (s d : List ℕ) (form : ℕ) → ((convert_end form (length d) s).number ≡ 0 → ⊥) → convert_kept form d s ≡ d
  -- a hub that knows form 1 alone, as all did before this request, refuses whatever is accepted in form 2 at its first line, with 29
  pub older_hubs : (s : List ℕ) {v : Settings} {line : ℕ} → Accepted s v line → v.form ≡ 2 → (form_among (bytes "1")).read s 0 0 ≡ stopped 29 1
