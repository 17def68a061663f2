use Rattle.std.proofs.Common.{rules, tests}
use Rattle.std.proofs.lemmas.Iterator.{YieldsList-from_slice}
use Rattle.std.proofs.lemmas.Iterator.Search.{position_from_yields_List}
use Rattle.tables.specs.Buckets.{holds_bucket}
use Rattle.tables.proofs.ScanLaws.{place_found}
use Rattle.tables.proofs.buckets.find_held.Goals as goal

pub returns : goal.returns
returns c =
    place_found (holds_bucket c.args.id.now) c.args.buckets.now
    (position_from_yields_List _ _ _ _ c.position.ensures.ran (YieldsList-from_slice c.args.buckets.now cc) (λ x b q k. search (rules, tests))) c.told-buckets
