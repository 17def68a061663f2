use native.Mathlib.Omega.{arith}
use Rattle.laws.proofs.Every.{every_at}
use Rattle.lines.specs.ReadHex.{is_hex}
use Rattle.lines.proofs.value.HexLaws.{unhexed_next, unhexed_all, hex_taken}
use Rattle.lines.proofs.value.put_unhex.Goals as goal

pub hex_value-requires : goal.hex_value-requires
hex_value-requires c = every_at is_hex _ 0 _ (hex_taken _ _ c.requires).1 (omega arith)

pub hex_value-requires-in-loop-i : goal.hex_value-requires-in-loop-i
hex_value-requires-in-loop-i c = every_at is_hex _ 0 _ (hex_taken _ _ c.requires).1 (omega arith)

pub bounds-out-i : goal.bounds-out-i
bounds-out-i c =
    let h = hex_taken _ _ c.requires in
    omega (arith, c.loop-i.invariant.same)

pub loop-i-preserved : goal.loop-i-preserved
loop-i-preserved c = unhexed_next c.loop-i.invariant (omega arith) (cc)

pub returns : goal.returns
returns c = unhexed_all c.loop-i.invariant (let h = hex_taken _ _ c.requires in omega arith)
