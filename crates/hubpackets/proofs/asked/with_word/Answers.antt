-- `hubpackets::asked::with_word` meets its contract. Assumes nothing.
use mathlib.Core.Path.{sym, ◌∙◌}
use Rattle.laws.proofs.Lists.{tail_whole}
use Rattle.slices.specs.Bytes.{bytes}
use Rattle.slices.proofs.bytes.WalkLaws.{begins_fits}
use Rattle.hubpackets.specs.Asked.{asked_with}
use native.Mathlib.Omega.{arith}
use Rattle.hubpackets.proofs.asked.with_word.Goals as goal

pub slice_bounds-decimal-count : goal.slice_bounds-decimal-count
slice_bounds-decimal-count c = let h = begins_fits (bytes "--at=") _ (sym c.starts_with.ensures ∙ c.if-not-starts_with.false) in omega (arith, h)

pub slice_bounds-decimal-start : goal.slice_bounds-decimal-start
slice_bounds-decimal-start c = let h = begins_fits (bytes "--at=") _ (sym c.starts_with.ensures ∙ c.if-not-starts_with.false) in omega (arith, h)

pub slice_bounds-decimal-end : goal.slice_bounds-decimal-end
slice_bounds-decimal-end c = let h = begins_fits (bytes "--at=") _ (sym c.starts_with.ensures ∙ c.if-not-starts_with.false) in omega (arith, h)

pub returns-in-Value : goal.returns-in-Value
unfolding asked_with
returns-in-Value c =
    let word = c.args.word.now in
    let first = sym c.same_bytes.ensures ∙ c.if-same_bytes.false in
    let second = sym c.same_bytes-2.ensures ∙ c.if-same_bytes-2.false in
    let third = sym c.same_bytes-3.ensures ∙ c.if-same_bytes-3.false in
    let key = sym c.starts_with.ensures ∙ c.if-not-starts_with.false in
    let time = sym c.decimal.ensures ∙ c.in-Value.is in
    rw (first, second, third, key, ← tail_whole word 5, time)

pub returns-in-Bad : goal.returns-in-Bad
unfolding asked_with
returns-in-Bad c =
    let word = c.args.word.now in
    let first = sym c.same_bytes.ensures ∙ c.if-same_bytes.false in
    let second = sym c.same_bytes-2.ensures ∙ c.if-same_bytes-2.false in
    let third = sym c.same_bytes-3.ensures ∙ c.if-same_bytes-3.false in
    let key = sym c.starts_with.ensures ∙ c.if-not-starts_with.false in
    let time = sym c.decimal.ensures ∙ c.in-Bad.is in
    rw (first, second, third, key, ← tail_whole word 5, time)
