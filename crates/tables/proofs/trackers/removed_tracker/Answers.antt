use Rattle.std.proofs.Common.{rules, tests, ◌&&◌}
use Rattle.std.proofs.lemmas.Iterator.{YieldsList-from_slice}
use Rattle.std.proofs.lemmas.Iterator.Search.{position_from_yields_List}
use Rattle.tables.specs.Identity.{is_removed}
use Rattle.tables.specs.Trackers.{removed_tracker}
use Rattle.tables.proofs.ScanLaws.{place_found}
use Rattle.tables.proofs.trackers.removed_tracker.Goals as goal

pub returns : goal.returns
unfolding removed_tracker
returns c =
    place_found (λ r. r.active && is_removed c.args.id.now r.id) c.args.trackers.now
    (position_from_yields_List _ _ _ _ c.position.ensures.ran (YieldsList-from_slice c.args.trackers.now cc) (λ x b q k. search (rules, tests))) c.told-trackers
