-- `lines::lengths::word_line_len` meets its contract, by the length of its line. Assumes nothing.
use mathlib.Core.Path.{ap}
use native.Mathlib.Omega.{arith}
use lib.ListN.{length}
use Rattle.lines.proofs.lengths.LineLaws.{word_line-length}
use Rattle.lines.proofs.lengths.word_line_len.Goals as goal

pub returns : goal.returns
returns c = omega (arith, word_line-length c.args.key.now c.args.words.now c.args.k, ap length c.word_part.ensures)
