-- `lines::lengths::flag_line_len` meets its contract, by the length of its line. Assumes nothing.
use native.Mathlib.Omega.{arith}
use Rattle.lines.proofs.lengths.LineLaws.{flag_line-length}
use Rattle.lines.proofs.lengths.flag_line_len.Goals as goal

pub returns : goal.returns
returns c = λ on. omega (arith, flag_line-length c.args.key.now on)
