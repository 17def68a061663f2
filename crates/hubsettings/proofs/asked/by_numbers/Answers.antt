-- `asked::by_numbers` meets its contract: nothing without a comma, else the two numbers. Assumes nothing.
use mathlib.Core.Path.{sym}
use lib.Seq.{length-take-le}
use Rattle.hubsettings.proofs.AskedLaws.{numbers_none, numbers_both}
use Rattle.hubsettings.proofs.asked.by_numbers.Goals as goal

pub returns-then-comma-s : goal.returns-then-comma-s
returns-then-comma-s c = numbers_none _ c.find_byte-comma.ensures.value c.if-comma-s.true

pub slice_bounds-decimal-end : goal.slice_bounds-decimal-end
slice_bounds-decimal-end c = sym (length-take-le _ _ c.find_byte-comma.ensures.within.1)

pub returns : goal.returns
returns c =
    numbers_both _ c.find_byte-comma.ensures.value c.if-comma-s.false c.decimal-later.ensures c.decimal-earlier.ensures c.pair.ensures
