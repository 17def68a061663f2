-- `lines::put::put_word_line` meets its contract: three writes, one after the other. Assumes nothing.
use Rattle.lines.specs.Line.{word_line}
use Rattle.lines.proofs.put.WroteLaws.{wrote_then}
use Rattle.lines.proofs.put.put_word_line.Goals as goal

pub returns : goal.returns
unfolding word_line
returns c =
    wrote_then (wrote_then c.put_bytes-value.ensures c.put_word-end.ensures) c.put_end.ensures
