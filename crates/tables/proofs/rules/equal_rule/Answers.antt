use Rattle.std.proofs.Common.{arith, rules, tests, ◌&&◌, ◌≡◌, min, take, length, length-take}
use Rattle.std.proofs.lemmas.Iterator.{YieldsList-from_slice}
use Rattle.std.proofs.lemmas.Iterator.Search.{position_from_yields_List}
use Rattle.laws.proofs.Lists.{take_like}
use Rattle.slices.specs.Bytes.{same}
use Rattle.tables.specs.Rules.{pattern_of, equal_rule}
use Rattle.tables.proofs.ScanLaws.{place_found}
use Rattle.tables.proofs.rules.equal_rule.Goals as goal

pub returns : goal.returns
unfolding equal_rule
returns c =
    let n = c.places.result in
    let k = c.args.count in
    let e : length (take n c.args.rules.now) ≡ min k 32 = omega (arith, c.told-rules, c.places.ensures, length-take n c.args.rules.now) in
    let f =
    place_found (λ r. r.active && same (pattern_of r) c.args.pattern.now) (take n c.args.rules.now)
    (position_from_yields_List _ _ _ _ c.position.ensures.ran (YieldsList-from_slice (take n c.args.rules.now) cc) (λ x b q k. search (rules, tests))) e in
    rw (take_like c.args.rules.now n k (omega (arith, c.told-rules, c.places.ensures))) at f
