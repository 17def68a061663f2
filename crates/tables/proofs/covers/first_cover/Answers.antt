use Rattle.std.proofs.Common.{rules, tests}
use Rattle.std.proofs.lemmas.Iterator.{YieldsList-from_slice}
use Rattle.std.proofs.lemmas.Iterator.Search.{position_from_yields_List}
use Rattle.tables.specs.Covers.{rule_covers}
use Rattle.tables.proofs.covers.CoverLaws.{number_some, number_none}
use Rattle.tables.proofs.covers.first_cover.Goals as goal

pub returns-in-Some : goal.returns-in-Some
returns-in-Some c =
    number_some (rule_covers c.args.matching c.args.later.now) c.args.earlier.now
    (position_from_yields_List _ _ _ _ c.position.ensures.ran (YieldsList-from_slice c.args.earlier.now cc) (λ x b q k. search (rules, tests))) c.in-Some.is

pub returns-in-None : goal.returns-in-None
returns-in-None c =
    number_none (rule_covers c.args.matching c.args.later.now) c.args.earlier.now
    (position_from_yields_List _ _ _ _ c.position.ensures.ran (YieldsList-from_slice c.args.earlier.now cc) (λ x b q k. search (rules, tests))) c.in-None.is
