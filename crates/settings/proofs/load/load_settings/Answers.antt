-- `settings::load::load_settings` meets its contract: a fresh monitor with what was read stored into it; of a refused text one that denies all. Assumes nothing.
use Rattle.monitor.specs.Calls.{fresh}
use Rattle.settings.proofs.load.LoadedLaws.{load_reads}
use Rattle.settings.proofs.load.load_settings.Goals as goal

pub returns-in-Ok : goal.returns-in-Ok
unfolding fresh
returns-in-Ok c = rw (c.fresh-m.ensures, c.copy_from_slice.ensures.after) (load_reads _ c.in-Ok.ensures)

pub returns-in-Err : goal.returns-in-Err
unfolding fresh
returns-in-Err c = rw c.fresh-m.ensures (load_reads _ c.in-Err.ensures)
