-- `state::trackers_fine` meets its contract: the chain's word is `every`. Assumes nothing.
use Rattle.std.proofs.Common.{◌∙◌, rules, tests}
use Rattle.std.proofs.lemmas.Iterator.{YieldsList-from_slice}
use Rattle.std.proofs.lemmas.Iterator.Search.{all_from_yields_List}
use Rattle.laws.proofs.Every.{list_all_every}
use Rattle.tables.specs.Trackers.{tracker_fine}
use Rattle.monitor.proofs.state.trackers_fine.Goals as goal

pub returns : goal.returns
returns c =
    all_from_yields_List tracker_fine _ _ _ c.all.ensures.ran (YieldsList-from_slice c.args.trackers.now cc) (λ x b q k. search (rules, tests))
    ∙ list_all_every tracker_fine c.args.trackers.now
