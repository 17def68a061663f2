-- What is told of an answer is all of it: no two answers are told alike. Assumes nothing.
use mathlib.Core.Path.{◌≡◌, refl, sym, ap}
use Prim.Native.Nat.{ℕ}
use native.Mathlib.Omega.{arith}
use Rattle.std.specs.Prelude.{Result, Ok, Err}
use Rattle.packets.specs.Refusal.{refusal_number}
use Rattle.packets.specs.declared.refusal.PacketRefusal.{PacketRefusal}
use Rattle.packets.specs.declared.refusal.PacketRefusal.TheVariants.{Incomplete, Malformed, TooLong}
use Rattle.packets.proofs.RefusalLaws.{refusal_some, refusal_same}
use Rattle.packets_text.specs.PacketText.{lines_told, ToldLines}
use Rattle.packets_text.specs.Refusal.{lines_number}
use Rattle.packets_text.specs.declared.refusal.LinesRefusal.{LinesRefusal}
use Rattle.packets_text.specs.declared.refusal.LinesRefusal.TheVariants.{Packet, NoRoom}

-- a packet's own number is not 28
own_number : (e : PacketRefusal) → refusal_number e ≡ 28 → ⊥
own_number Incomplete z = omega arith
own_number Malformed z = omega arith
own_number TooLong z = omega arith

some : (e : LinesRefusal) → lines_number e ≡ 0 → ⊥
some (Packet e) z = refusal_some e z
some NoRoom z = omega arith

same : (e f : LinesRefusal) → lines_number e ≡ lines_number f → e ≡ f
same (Packet e) (Packet f) z = ap Packet (refusal_same e f z)
same (Packet e) NoRoom z = absurd (own_number e z)
same NoRoom (Packet f) z = absurd (own_number f (sym z))
same NoRoom NoRoom z = refl

pub lines_once : (r s : Result ℕ LinesRefusal) → lines_told r ≡ lines_told s → r ≡ s
lines_once (Ok n) (Ok m) e = ap (λ (t : ToldLines). Ok t.length) e
lines_once (Ok n) (Err b) e = absurd (some b (sym (ap (λ (t : ToldLines). t.number) e)))
lines_once (Err a) (Ok m) e = absurd (some a (ap (λ (t : ToldLines). t.number) e))
lines_once (Err a) (Err b) e = ap Err (same a b (ap (λ (t : ToldLines). t.number) e))
