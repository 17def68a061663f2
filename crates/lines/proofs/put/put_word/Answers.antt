-- `lines::put::put_word` meets its contract: what is written is the word. Assumes nothing.
use Rattle.lines.proofs.put.put_word.Goals as goal

pub returns : goal.returns
returns c = rw c.word_part.ensures at c.put_bytes.ensures
