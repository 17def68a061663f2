-- Each promise of `boot` leaves one answer and asks nothing (specs/One.antt). Assumes nothing.
use mathlib.Core.Path.{sym, ◌∙◌}
use Rattle.boot.specs.contracts.saving.hub_settings as saving-hub_settings
use Rattle.boot.proofs.saving.hub_settings.Reads as saving-hub_settings-reads
use Rattle.theorems.specs.One.{Any, OneLeft}

pub one-saving-hub_settings : OneLeft saving-hub_settings.ended saving-hub_settings-reads.Post (λ κs e. e.1.1.0.now)
one-saving-hub_settings κs a x y e f p q = (p.0 ∙ sym q.0, p.1 ∙ sym q.1)

pub any-saving-hub_settings : Any saving-hub_settings.ended saving-hub_settings-reads.Asked
any-saving-hub_settings κs a = tt
