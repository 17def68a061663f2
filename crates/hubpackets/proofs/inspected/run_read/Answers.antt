-- `hubpackets::inspected::run_read` meets its contract: `run_packets` does, and the records of a run fit. A failed read leaves no capture to run. Assumes nothing.
use Rattle.streams.proofs.StreamLaws.{read_part}
use Rattle.hubpackets.specs.Inspected.{end_to, records_to}
use Rattle.hubpackets.proofs.Recorded.{recorded}
use borrow.Author.Rules.{rules}
use Rattle.hubpackets.proofs.inspected.run_read.Goals as goal

pub returns-in_default : goal.returns-in_default
unfolding end_to records_to
returns-in_default c = let failed = c.in_default.is in record { end = rw failed; counted = search rules; records = rw failed }

pub slice_bounds-run_packets-end : goal.slice_bounds-run_packets-end
slice_bounds-run_packets-end c = read_part _ _ _ c.in-Ok.is c.requires

pub returns : goal.returns
returns c = let h = recorded _ _ _ _ c.args.out.now _ _ c.in-Ok.is c.run_packets.ensures.end c.run_packets.ensures.bytes in record { end = h.0; counted = h.1.0; records = h.1.1 }
