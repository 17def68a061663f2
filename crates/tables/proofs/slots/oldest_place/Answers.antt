use Rattle.std.proofs.Common.{rules, ◌≡◌, ◌∙◌, ◌+◌, ◌-◌, List, [], ◌∷◌, ℕ, refl, arith, length, get_or, ap}
use Rattle.tables.specs.Scan.{least_of, least_place, any}
use Rattle.tables.proofs.ScanLaws.{least_last, least_front, least_stays}
use Rattle.tables.proofs.slots.oldest_place.Goals as goal

no_least : {X : Type 0} (f : X → ℕ) (xs : List X) → length xs ≡ 0 → 0 ≡ least_place (least_of f any xs)
unfolding least_of
no_least f [] e = refl
no_least f (x ∷ xs) e = absurd (omega arith)

pub loop-i-preserved-then-then-least : goal.loop-i-preserved-then-then-least
loop-i-preserved-then-then-least g c =
    let f = g.T.Record.stamp in
    let d = c.index-slots-i.result in
    let e : c.stamp-then.result ≡ f (get_or c.args.slots.now (c.loop-i.i - 1) d) = c.stamp-then.ensures ∙ ap f c.index-slots-i.is in
    rw e (least_front f c.args.slots.now c.loop-i.i d c.loop-i.invariant (search rules) (omega (arith, e, c.if-then-least.true)))

pub loop-i-preserved : goal.loop-i-preserved
loop-i-preserved g c =
    let f = g.T.Record.stamp in
    let d = c.index-slots-i.result in
    let e : c.stamp-then.result ≡ f (get_or c.args.slots.now (c.loop-i.i - 1) d) = c.stamp-then.ensures ∙ ap f c.index-slots-i.is in
    least_stays f c.args.slots.now c.loop-i.i d c.loop-i.invariant (search rules) (omega (arith, e, c.if-then-least.false))

pub returns-then-slots-eq0-clause-place : goal.returns-then-slots-eq0-clause-place
returns-then-slots-eq0-clause-place g c = no_least g.T.Record.stamp c.args.slots.now (search rules)

pub loop-i-init : goal.loop-i-init
loop-i-init g c =
    let f = g.T.Record.stamp in
    let d = c.index-slots-at.result in
    let e : c.stamp-least.result ≡ f (get_or c.args.slots.now (length c.args.slots.now - 1) d) = c.stamp-least.ensures ∙ ap f c.index-slots-at.is in
    let some : length c.args.slots.now - 1 + 1 ≡ length c.args.slots.now = omega (arith, c.if-slots-eq0.false) in
    rw e (least_last f c.args.slots.now (length c.args.slots.now - 1) d some)
