use Rattle.std.proofs.Common.{rules, ◌∙◌, refl}
use Rattle.tables.proofs.ScanLaws.{placed_some, placed_none}
use Rattle.tables.proofs.buckets.PlaceLaws.{at_free, at_expired, at_least}
use Rattle.tables.proofs.buckets.newcomer.Goals as goal

pub returns-in-Some : goal.returns-in-Some
returns-in-Some c =
    let h = placed_some c.free_place.ensures c.in-Some.is in
    c.granted.ensures ∙ at_free _ _ _ _ h.0 h.1

pub returns-then-is_expired : goal.returns-then-is_expired
returns-then-is_expired c =
    let h = placed_none c.free_place.ensures c.in_default.is in
    c.granted-then-is_expired.ensures
    ∙ at_expired _ _ _ _ refl h c.oldest_place-oldest.ensures.place (search rules) (search rules)

pub returns : goal.returns
returns c =
    let h = placed_none c.free_place.ensures c.in_default.is in
    rw c.new.ensures (at_least _ _ _ _ refl h c.oldest_place-oldest.ensures.place (search rules) (search rules))
