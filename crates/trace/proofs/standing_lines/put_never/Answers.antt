-- `trace::standing_lines::put_never` meets its contract: three writes, one after the other. Assumes nothing.
use Rattle.lines.proofs.put.WroteLaws.{wrote_then}
use Rattle.trace.specs.Standing.{opening_text}
use Rattle.trace.proofs.standing_lines.put_never.Goals as goal

pub returns : goal.returns
unfolding opening_text
returns c =
    wrote_then (wrote_then c.put_bytes-after_key.ensures c.put_bytes-after_time.ensures) c.put_bytes.ensures
