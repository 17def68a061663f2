-- `covering::first_cut` meets its contract. The invariant: the first of the tries that are left is the first of all five. Assumes nothing.
use Rattle.std.proofs.Common.{◌≡◌, ◌-◌}
use Rattle.topics.specs.Covering.{only_later, first_cut}
use Rattle.topics.proofs.covering.first_cut.Given as goal

abbrev pub invariant-loop-longer : goal.invariant-loop-longer
invariant-loop-longer l =
    first_cut (only_later l.empty_last l.dollar l.earlier l.later) (5 - l.longer) l.name ≡ first_cut (only_later l.empty_last l.dollar l.earlier l.later) 5 l.name
