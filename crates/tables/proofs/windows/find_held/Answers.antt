use Rattle.std.proofs.Common.{rules, tests}
use Rattle.std.proofs.lemmas.Iterator.{YieldsList-from_slice}
use Rattle.std.proofs.lemmas.Iterator.Search.{position_from_yields_List}
use Rattle.tables.specs.Windows.{holds_client}
use Rattle.tables.proofs.ScanLaws.{place_found}
use Rattle.tables.proofs.windows.find_held.Goals as goal

pub returns : goal.returns
returns c =
    place_found (holds_client c.args.hashes) c.args.clients.now
    (position_from_yields_List _ _ _ _ c.position.ensures.ran (YieldsList-from_slice c.args.clients.now cc) (λ x b q k. search (rules, tests))) c.told-clients
