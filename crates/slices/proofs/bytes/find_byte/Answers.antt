use Rattle.std.proofs.Common.{rules}
use Rattle.slices.proofs.bytes.PlaceLaws.{place_found}
use Rattle.slices.proofs.bytes.find_byte.Goals as goal

pub overflow_add-result : goal.overflow_add-result
overflow_add-result c = let h = (place_found _ _ _ c.min-from.ensures c.bytes_before.ensures).1.1 in search (rules, h)

pub returns : goal.returns
returns c = let h = place_found _ _ _ c.min-from.ensures c.bytes_before.ensures in record { value = h.0; within = h.1 }
