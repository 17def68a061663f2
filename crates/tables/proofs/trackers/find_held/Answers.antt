use Rattle.std.proofs.Common.{rules, tests}
use Rattle.std.proofs.lemmas.Iterator.{YieldsList-from_slice}
use Rattle.std.proofs.lemmas.Iterator.Search.{position_from_yields_List}
use Rattle.tables.specs.Trackers.{holds_tracker}
use Rattle.tables.proofs.ScanLaws.{place_found}
use Rattle.tables.proofs.trackers.find_held.Goals as goal

pub returns : goal.returns
returns c =
    place_found (holds_tracker c.args.id.now) c.args.trackers.now
    (position_from_yields_List _ _ _ _ c.position.ensures.ran (YieldsList-from_slice c.args.trackers.now cc) (λ x b q k. search (rules, tests))) c.told-trackers
