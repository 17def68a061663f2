-- `trace::run::run_trace_by` meets its contract: 28 leaves the buffer as it was; else one pass writes all. Assumes nothing.
use mathlib.Core.Bool.{true, false}
use mathlib.Core.Path.{◌≡◌, sym, ◌∙◌}
use lib.Dec.{leb}
use lib.ListN.{length}
use borrow.Author.Tests.{leb-true}
use Rattle.trace.specs.Trace.{trace_text, trace_end, trace_kept}
use Rattle.trace.proofs.run.run_trace_by.Goals as goal

pub returns-then-not-fits : goal.returns-then-not-fits
unfolding trace_end trace_kept
returns-then-not-fits c = let e : leb (length (trace_text c.args.matching c.args.text.now)) (length c.args.out.now) ≡ false = sym c.fits.ensures
    ∙ c.if-not-fits.true in record { end = rw (e); bytes = rw (e) }

pub pass-requires : goal.pass-requires
pass-requires c = λ w. leb-true _ _ (sym c.fits.ensures ∙ c.if-not-fits.false)

pub returns : goal.returns
unfolding trace_end trace_kept
returns c = let e : leb (length (trace_text c.args.matching c.args.text.now)) (length c.args.out.now) ≡ true = sym c.fits.ensures
    ∙ c.if-not-fits.false in record { end = rw (e) c.pass.ensures.end; bytes = rw (e) c.pass.ensures.bytes }
