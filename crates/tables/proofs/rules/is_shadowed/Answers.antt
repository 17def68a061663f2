use Rattle.std.proofs.Common.{rules, tests, ◌≡◌, ◌∙◌, ◌&&◌}
use Rattle.std.specs.List.{list_any}
use Rattle.std.proofs.lemmas.Iterator.{YieldsList-from_slice}
use Rattle.std.proofs.lemmas.Iterator.Search.{any_from_yields_List}
use Rattle.topics.specs.Matching.{port_matches}
use Rattle.tables.specs.Rules.{pattern_of}
use Rattle.tables.proofs.rules.ShadowLaws.{shadowed_any}
use Rattle.tables.proofs.rules.is_shadowed.Goals as goal

pub returns-then-later : goal.returns-then-later
returns-then-later c =
    let p = pattern_of c.args.later.now in
    let e : c.any.result ≡ list_any (λ r. r.active && port_matches p (pattern_of r)) c.args.earlier.now =
    any_from_yields_List _ _ _ _ c.any.ensures.ran (YieldsList-from_slice c.args.earlier.now cc) (λ x b q k. search (rules, tests)) in
    rw c.if-later.true (e ∙ shadowed_any p c.args.earlier.now)
