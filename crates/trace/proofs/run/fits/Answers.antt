-- `trace::run::fits` meets its contract: an ample room is enough (Bound), and otherwise it is counted. Assumes nothing.
use Prim.Native.Nat.{◌*◌}
use mathlib.Core.Path.{sym, ap, ◌∙◌}
use lib.Dec.{leb}
use lib.ListN.{length}
use borrow.Author.Tests.{le-leb, leb-true}
use Rattle.laws.proofs.Tests.{both}
use Rattle.trace.specs.Trace.{trace_text}
use Rattle.trace.specs.declared.run.TraceEnd.{TraceEnd}
use Rattle.trace.proofs.Bound.{trace_within}
use Rattle.trace.proofs.run.fits.Goals as goal

pub returns-then-ample : goal.returns-then-ample
returns-then-ample c =
    let given = c.args in
    let s = given.text.now in
    let room = given.room in
    let t = both (leb 109 room) (leb (12 * length s) room) (sym c.ample.ensures ∙ c.if-ample.true) in
    sym (le-leb (length (trace_text given.matching s)) room (trace_within given.matching s room (leb-true _ _ t.1) (leb-true _ _ t.0)))

pub returns : goal.returns
returns c = ap (λ (e : TraceEnd). leb e.length c.args.room) c.trace_length_by.ensures
