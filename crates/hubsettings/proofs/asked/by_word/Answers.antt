-- `asked::by_word` meets its contract: each return by the tests that lead to it. Assumes nothing.
use mathlib.Core.Path.{sym, ◌∙◌}
use Rattle.laws.proofs.Lists.{tail_whole}
use Rattle.slices.specs.Bytes.{bytes}
use Rattle.slices.proofs.bytes.WalkLaws.{begins_fits}
use Rattle.hubsettings.specs.Asked.{asked_by}
use native.Mathlib.Omega.{arith}
use Rattle.hubsettings.proofs.asked.by_word.Goals as goal

pub returns-then-same_bytes : goal.returns-then-same_bytes
unfolding asked_by
returns-then-same_bytes c = rw (sym c.same_bytes.ensures ∙ c.if-same_bytes.true)

pub returns-then-same_bytes-2 : goal.returns-then-same_bytes-2
unfolding asked_by
returns-then-same_bytes-2 c =
    rw (sym c.same_bytes.ensures ∙ c.if-same_bytes.false, sym c.same_bytes-2.ensures ∙ c.if-same_bytes-2.true)

pub returns-then-same_bytes-3 : goal.returns-then-same_bytes-3
unfolding asked_by
returns-then-same_bytes-3 c =
    let first = sym c.same_bytes.ensures ∙ c.if-same_bytes.false in
    let second = sym c.same_bytes-2.ensures ∙ c.if-same_bytes-2.false in
    rw (first, second, sym c.same_bytes-3.ensures ∙ c.if-same_bytes-3.true)

pub returns-then-not-starts_with : goal.returns-then-not-starts_with
unfolding asked_by
returns-then-not-starts_with c =
    let first = sym c.same_bytes.ensures ∙ c.if-same_bytes.false in
    let second = sym c.same_bytes-2.ensures ∙ c.if-same_bytes-2.false in
    let third = sym c.same_bytes-3.ensures ∙ c.if-same_bytes-3.false in
    rw (first, second, third, sym c.starts_with.ensures ∙ c.if-not-starts_with.true)

pub slice_bounds-by_numbers-count : goal.slice_bounds-by_numbers-count
slice_bounds-by_numbers-count c = let h = begins_fits (bytes "--dead=") _ (sym c.starts_with.ensures ∙ c.if-not-starts_with.false) in omega (arith, h)

pub slice_bounds-by_numbers-start : goal.slice_bounds-by_numbers-start
slice_bounds-by_numbers-start c = let h = begins_fits (bytes "--dead=") _ (sym c.starts_with.ensures ∙ c.if-not-starts_with.false) in omega (arith, h)

pub slice_bounds-by_numbers-end : goal.slice_bounds-by_numbers-end
slice_bounds-by_numbers-end c = let h = begins_fits (bytes "--dead=") _ (sym c.starts_with.ensures ∙ c.if-not-starts_with.false) in omega (arith, h)

pub returns : goal.returns
unfolding asked_by
returns c =
    let word = c.args.word.now in
    let first = sym c.same_bytes.ensures ∙ c.if-same_bytes.false in
    let second = sym c.same_bytes-2.ensures ∙ c.if-same_bytes-2.false in
    let third = sym c.same_bytes-3.ensures ∙ c.if-same_bytes-3.false in
    let key = sym c.starts_with.ensures ∙ c.if-not-starts_with.false in
    rw (first, second, third, key, ← tail_whole word 7) c.by_numbers.ensures
