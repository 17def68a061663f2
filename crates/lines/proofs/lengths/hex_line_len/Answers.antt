-- `lines::lengths::hex_line_len` meets its contract, by the length of its line. Assumes nothing.
use native.Mathlib.Omega.{arith}
use Rattle.lines.proofs.lengths.LineLaws.{hex_line-length}
use Rattle.lines.proofs.lengths.hex_line_len.Goals as goal

pub returns : goal.returns
returns c = omega (arith, hex_line-length c.args.key.now c.args.s.now)
