-- `covering::tried_with` meets its contract: the sample stands at the beginning of the buffer (`Sampled`), and the try that is found begins it. Assumes nothing.
use Rattle.std.proofs.Common.{replicate, sym, refl, ap, ◌∙◌, arith, length-take-le}
use Rattle.topics.specs.Covering.{as_witness}
use Rattle.topics.proofs.covering.WayLaws.{Sampled, sampled_front, tried_front}
use Rattle.topics.proofs.covering.tried_with.Goals.{After-put_sample-len}
use Rattle.topics.proofs.covering.tried_with.Goals as goal

-- the buffer after `put_sample`
front : (c : After-put_sample-len) → Sampled c.args.letter c.args.later.now c.put_sample-len.result c.put_sample-len.new.out
front c =
    sampled_front _ c.args.later.now (replicate 128 0) c.min-n.ensures refl c.put_sample-len.ensures.count c.put_sample-len.ensures.bytes

pub slice_bounds-bytes-end : goal.slice_bounds-bytes-end
slice_bounds-bytes-end c = omega (arith, (front c).long, (front c).fits)

pub slice_bounds-first_cut-end : goal.slice_bounds-first_cut-end
slice_bounds-first_cut-end c =
    let f = front (goal.at.slice_bounds-first_cut-end c).After-put_sample-len in
    sym (length-take-le _ _ (omega (arith, f.long, f.fits)))

pub returns : goal.returns
returns c =
    c.as_witness.ensures ∙ ap as_witness (tried_front _ _ _ _ _ (front (goal.at.returns c).After-put_sample-len) c.first_cut-k.ensures.within c.first_cut-k.ensures.cut)
