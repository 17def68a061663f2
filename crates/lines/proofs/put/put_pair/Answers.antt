-- `lines::put::put_pair` meets its contract: two writes, one after the other. Assumes nothing.
use Rattle.lines.specs.Hex.{hex_text}
use Rattle.lines.proofs.put.WroteLaws.{wrote_then}
use Rattle.lines.proofs.put.put_pair.Goals as goal

pub returns : goal.returns
unfolding hex_text
returns c =
    rw (← c.hex_digit.ensures, ← c.hex_digit-2.ensures)
    (wrote_then c.put_byte-high.ensures c.put_byte.ensures)
