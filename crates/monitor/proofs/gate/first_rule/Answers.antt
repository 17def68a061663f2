-- `gate::first_rule` meets its contract: a chain's `position` is the place that the definition finds. Assumes nothing.
use Rattle.std.proofs.Common.{arith, rules, tests, ◌&&◌, ◌≡◌, min, take, length, length-take}
use Rattle.std.proofs.lemmas.Iterator.Search.{position_from_yields_List}
use Rattle.std.proofs.lemmas.Iterator.{YieldsList-from_slice}
use Rattle.laws.proofs.Lists.{take_like}
use Rattle.topics.specs.Matching.{matches_by}
use Rattle.tables.specs.Rules.{pattern_of, first_rule}
use Rattle.tables.proofs.ScanLaws.{place_found}
use Rattle.monitor.proofs.gate.first_rule.Goals as goal

pub returns : goal.returns
unfolding first_rule
returns c =
    let n = c.places.result in
    let k = c.args.count in
    let e : length (take n c.args.rules.now) ≡ min k 32 = omega (arith, c.told-rules, c.places.ensures, length-take n c.args.rules.now) in
    let f =
    place_found (λ r. r.active && matches_by c.args.matching c.args.topic.now (pattern_of r)) (take n c.args.rules.now)
    (position_from_yields_List _ _ _ _ c.position.ensures.ran (YieldsList-from_slice (take n c.args.rules.now) cc) (λ x b q k. search (rules, tests))) e in
    rw (take_like c.args.rules.now n k (omega (arith, c.told-rules, c.places.ensures))) at f
