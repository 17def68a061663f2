-- `hubpackets::inspected::load_read` meets its contract. Assumes nothing.
use Rattle.streams.proofs.StreamLaws.{read_part}
use Rattle.hubpackets.specs.Inspected.{loaded_from}
use Rattle.hubpackets.proofs.inspected.load_read.Goals as goal

pub returns-in_default : goal.returns-in_default
unfolding loaded_from
returns-in_default c = rw c.in_default.is c.load_settings.ensures

pub slice_bounds-load_settings-end-2 : goal.slice_bounds-load_settings-end-2
slice_bounds-load_settings-end-2 c = read_part _ _ _ c.in-Ok.is c.requires

pub returns : goal.returns
unfolding loaded_from
returns c = rw c.in-Ok.is c.load_settings-2.ensures
