-- `alerts::raise_all` meets its contract: five lists of one kind or none, one after the other. Assumes nothing.
use Rattle.monitor.proofs.alerts.AlertLaws.{raised_five}
use Rattle.monitor.proofs.alerts.raise_all.Goals as goal

pub returns : goal.returns
returns c =
    raised_five _ _ c.args.found.now c.none-raised.ensures c.raise_if.ensures c.raise_if-2.ensures c.raise_if-3.ensures c.raise_if-4.ensures
    c.raise_if-5.ensures
