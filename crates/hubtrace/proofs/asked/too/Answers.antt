-- `asked::too` meets its contract, by cases on what the first word asked for. Assumes nothing.
use Rattle.hubtrace.proofs.asked.too.Goals as goal

pub returns-in-For : goal.returns-in-For
returns-in-For c = rw c.in-For.is c.beside.ensures
