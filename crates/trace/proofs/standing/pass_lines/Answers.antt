-- `trace::standing::pass_lines` meets its contract: a length that is small, or a write that fits. Assumes nothing.
use mathlib.Core.Bool.{true, false}
use mathlib.Core.Path.{◌≡◌}
use native.Mathlib.Omega.{arith}
use Rattle.lines.proofs.put.WroteLaws.{wrote_room}
use Rattle.trace.proofs.standing.pass_lines.Goals as goal

pub returns-then-not-write : goal.returns-then-not-write
returns-then-not-write c = let e : c.args.write ≡ false = c.if-not-write.true in record { next = omega arith; bytes = rw (e) }

pub returns : goal.returns
returns c = let e : c.args.write ≡ true = c.if-not-write.false in record { next = wrote_room c.put_bytes.ensures (c.requires.room e); bytes = rw (e) c.put_bytes.ensures.bytes }
