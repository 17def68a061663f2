-- Requests C-13 and C-18: what is claimed of settings that come back after a power cut. Accepted texts and settings correspond one to one (`settings`' specs/OneToOne.antt), a text goes into another
-- form and comes home (specs/HomeAgain.antt), a loaded monitor is one that calls make, and demand 3 holds from it as from any fresh monitor with rules. The proofs are in proofs/Settings.antt.
-- Assumes nothing.
use Rattle.std.specs.Prelude.{List, ℕ}
use Rattle.monitor.specs.Runs.{shipped}
use Rattle.settings.specs.HomeAgain.{HomeAgain}
use Rattle.settings.specs.Loaded.{monitor_of}
use Rattle.settings.specs.OneToOne.{Accepted, OneToOne, MadeByCalls}
use Rattle.settings.specs.SettingsText.{Settings}
use Rattle.theorems.specs.Shipped.{UpperFrom, LowerFrom, LaterFrom}

-- demand 3 from the monitor that an accepted text loads to
pub record LoadedLimits : Type 0 where
  pub upper : (s : List ℕ) {v : Settings} {line : ℕ} → Accepted s v line → UpperFrom shipped (monitor_of v)
  pub lower_first : (s : List ℕ) {v : Settings} {line : ℕ} → Accepted s v line → LowerFrom shipped (monitor_of v)
  pub lower_later : (s : List ℕ) {v : Settings} {line : ℕ} → Accepted s v line → LaterFrom shipped (monitor_of v)

pub record SavedSettings : Type 0 where
  pub one_to_one : OneToOne
  pub home_again : HomeAgain
  pub made : MadeByCalls
  pub limits : LoadedLimits
