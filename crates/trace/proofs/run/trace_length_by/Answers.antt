-- `trace::run::trace_length_by` meets its contract: a pass that only counts. Assumes nothing.
use mathlib.Core.Bool.{false≢true}
use Rattle.trace.proofs.run.trace_length_by.Goals as goal

pub pass-requires : goal.pass-requires
pass-requires c = λ w. absurd (false≢true w)
