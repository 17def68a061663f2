-- `utf8::is_utf8` meets its contract: the slice behind ASCII is what is left after it (`tail_whole`), and decides (`utf8_behind`). Assumes nothing.
use Rattle.laws.proofs.Lists.{tail_whole}
use Rattle.topics.proofs.utf8.AsciiLaws.{utf8_behind}
use Rattle.topics.proofs.utf8.is_utf8.Goals as goal

pub returns : goal.returns
returns c = rw (← utf8_behind _, ← c.ascii_end-from.ensures.value, ← tail_whole _ _) c.decodes.ensures
