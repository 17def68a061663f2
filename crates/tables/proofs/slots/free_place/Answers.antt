use Rattle.std.proofs.Common.{rules, tests, not, refl}
use Rattle.std.proofs.lemmas.Iterator.{YieldsList-from_slice}
use Rattle.std.proofs.lemmas.Iterator.Search.{position_from_yields_List}
use Rattle.tables.proofs.ScanLaws.{place_found}
use Rattle.tables.proofs.slots.free_place.Goals as goal

pub returns : goal.returns
returns g c =
    place_found (λ r. not (g.T.Record.live r)) c.args.slots.now
    (position_from_yields_List _ _ _ _ c.position.ensures.ran (YieldsList-from_slice c.args.slots.now cc) (λ x b q k. search (rules, tests))) refl
