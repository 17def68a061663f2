-- A refusal has a number, and no two the same one. Assumes nothing.
use mathlib.Core.Path.{◌≡◌, refl}
use native.Mathlib.Omega.{arith}
use Rattle.packets.specs.Refusal.{refusal_number}
use Rattle.packets.specs.declared.refusal.PacketRefusal.{PacketRefusal}
use Rattle.packets.specs.declared.refusal.PacketRefusal.TheVariants.{Incomplete, Malformed, TooLong}

pub refusal_some : (e : PacketRefusal) → refusal_number e ≡ 0 → ⊥
refusal_some Incomplete z = omega arith
refusal_some Malformed z = omega arith
refusal_some TooLong z = omega arith

pub refusal_same : (e f : PacketRefusal) → refusal_number e ≡ refusal_number f → e ≡ f
refusal_same Incomplete Incomplete z = refl
refusal_same Incomplete Malformed z = absurd (omega arith)
refusal_same Incomplete TooLong z = absurd (omega arith)
refusal_same Malformed Incomplete z = absurd (omega arith)
refusal_same Malformed Malformed z = refl
refusal_same Malformed TooLong z = absurd (omega arith)
refusal_same TooLong Incomplete z = absurd (omega arith)
refusal_same TooLong Malformed z = absurd (omega arith)
refusal_same TooLong TooLong z = refl
