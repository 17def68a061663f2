use mathlib.Core.Path.{refl}
use native.Mathlib.Omega.{arith}
use Rattle.hubpackets.proofs.packets_of.Goals as goal

pub loop-place-init : goal.loop-place-init
loop-place-init c = (refl, omega arith)
