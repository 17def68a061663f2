-- `lines::put::put_hex` meets its contract. The invariant: the hex of the bytes so far was written. Assumes nothing.
use lib.ListN.{take}
use Rattle.lines.specs.Hex.{hex_text}
use Rattle.lines.specs.Wrote.{Wrote}
use Rattle.lines.proofs.put.put_hex.Given as goal

abbrev pub invariant-loop-b : goal.invariant-loop-b
invariant-loop-b l = Wrote l.initial.out l.out l.at (hex_text (take l.b-index l.s)) l.p
