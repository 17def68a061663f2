-- What was read of a settings text, loaded: the monitor that has it is the definition's, of a refused text too, whose settings are those of a fresh monitor that denies all; and number 10 refuses none
-- (`load_formed`). Assumes nothing.
use Prim.Native.Nat.{ℕ}
use mathlib.Core.Path.{◌≡◌, refl, ap, ◌∙◌}
use mathlib.Core.Bool.{true}
use mathlib.Core.List.{List}
use Rattle.topics.specs.declared.matching.Matching.TheVariants.{Port}
use Rattle.forms.specs.Form.{Took, took, stopped}
use Rattle.tables.specs.declared.rules.TopicAction.TheVariants.{Block}
use Rattle.monitor.specs.Calls.{fresh}
use Rattle.monitor.specs.State.{well_formed, with_rules, with_settings}
use Rattle.monitor.proofs.SoundCalls.{sound_fresh}
use Rattle.settings.specs.Kept.{settings_read, rules_from, read_of, SettingsRead}
use Rattle.settings.specs.Loaded.{monitor_of, loaded_of, LoadedSettings}
use Rattle.settings.specs.SettingsText.{Settings, settings_of}
use Rattle.settings.proofs.OneToOne.{whole, sound}

-- what a load hands back, by what was read
abbrev loaded_as : SettingsRead → LoadedSettings
loaded_as x =
    record {
      number = x.number;
      line = x.line;
      form = x.form;
      monitor = with_settings (with_rules (fresh x.matching x.default_action) x.rules x.rule_count) x.threshold x.window;
    }

by_read : (from : ℕ) (t : Took Settings) {x : SettingsRead} → x ≡ settings_read from t → loaded_as x ≡ loaded_of t
unfolding settings_read loaded_of monitor_of fresh
by_read from (took v p l) e = rw e
by_read from (stopped n l) e = rw e

pub load_reads : (s : List ℕ) {x : SettingsRead} → x ≡ read_of s → loaded_as x ≡ loaded_of (settings_of s)
unfolding read_of
load_reads s e = by_read (rules_from s) (settings_of s) e

formed_from : (s : List ℕ) (t : Took Settings) → settings_of s ≡ t → well_formed (loaded_of t).monitor ≡ true
unfolding loaded_of
formed_from s (took v p l) q = (sound s (whole s q)).formed
formed_from s (stopped n l) q = (sound_fresh Port Block).formed

pub load_formed : (s : List ℕ) {x : SettingsRead} → x ≡ read_of s → well_formed (loaded_as x).monitor ≡ true
load_formed s e = ap (λ (r : LoadedSettings). well_formed r.monitor) (load_reads s e) ∙ formed_from s (settings_of s) refl
