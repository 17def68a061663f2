-- `hubpackets::stop` meets its contract. Assumes nothing.
use mathlib.Core.Path.{sym}
use lib.Seq.{length-take-le}
use native.Mathlib.Omega.{arith}
use Rattle.hubpackets.proofs.stop.Goals as goal

pub slice_bounds-said-end : goal.slice_bounds-said-end
slice_bounds-said-end c = omega (arith, c.put_number_line-b.ensures.next, c.put_number_line-a.ensures.next)

pub slice_bounds-write_all-end : goal.slice_bounds-write_all-end
slice_bounds-write_all-end c =
    sym (length-take-le _ _ (omega (arith, c.put_number_line-b.ensures.next, c.put_number_line-a.ensures.next)))
