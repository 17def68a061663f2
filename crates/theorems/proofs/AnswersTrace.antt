-- One answer for every public function of `trace`, and nothing asked of its caller (specs/One.antt). Assumes nothing.
use mathlib.Core.Path.{ap₂, sym, ◌∙◌}
use mathlib.Core.List.{List}
use Prim.Native.Nat.{ℕ}
use Rattle.trace.specs.contracts.groups.read_opening as groups-read_opening
use Rattle.trace.proofs.groups.read_opening.Reads as groups-read_opening-reads
use Rattle.trace.specs.contracts.groups.read_message as groups-read_message
use Rattle.trace.proofs.groups.read_message.Reads as groups-read_message-reads
use Rattle.trace.specs.contracts.«record».put_record as record-put_record
use Rattle.trace.proofs.«record».put_record.Reads as record-put_record-reads
use Rattle.trace.specs.contracts.«record».put_closing as record-put_closing
use Rattle.trace.proofs.«record».put_closing.Reads as record-put_closing-reads
use Rattle.trace.specs.contracts.«record».record_len as record-record_len
use Rattle.trace.proofs.«record».record_len.Reads as record-record_len-reads
use Rattle.trace.specs.contracts.«record».closing_len as record-closing_len
use Rattle.trace.proofs.«record».closing_len.Reads as record-closing_len-reads
use Rattle.trace.specs.contracts.«record».write_record as record-write_record
use Rattle.trace.proofs.«record».write_record.Reads as record-write_record-reads
use Rattle.trace.specs.contracts.run.load as run-load
use Rattle.trace.proofs.run.load.Reads as run-load-reads
use Rattle.trace.specs.contracts.run.trace_length as run-trace_length
use Rattle.trace.proofs.run.trace_length.Reads as run-trace_length-reads
use Rattle.trace.specs.contracts.run.trace_length_by as run-trace_length_by
use Rattle.trace.proofs.run.trace_length_by.Reads as run-trace_length_by-reads
use Rattle.trace.specs.contracts.run.run_trace as run-run_trace
use Rattle.trace.proofs.run.run_trace.Reads as run-run_trace-reads
use Rattle.trace.specs.contracts.run.run_trace_by as run-run_trace_by
use Rattle.trace.proofs.run.run_trace_by.Reads as run-run_trace_by-reads
use Rattle.trace.specs.contracts.seen.see_all as seen-see_all
use Rattle.trace.proofs.seen.see_all.Reads as seen-see_all-reads
use Rattle.trace.specs.contracts.standing.write_standing as standing-write_standing
use Rattle.trace.proofs.standing.write_standing.Reads as standing-write_standing-reads
use Rattle.theorems.specs.One.{Any, One, OneLeft}
use Rattle.theorems.proofs.AnswersLines.{wrote_once}
use Rattle.trace.proofs.record.RecordLaws.{written_once}
use Rattle.trace.proofs.run.LoadLaws.{loaded_once}

pub one-groups-read_opening : One groups-read_opening.ended groups-read_opening-reads.Post
one-groups-read_opening κs a x y e f p q = p.0 ∙ sym q.0

pub any-groups-read_opening : Any groups-read_opening.ended groups-read_opening-reads.Asked
any-groups-read_opening κs a = tt

pub one-groups-read_message : OneLeft groups-read_message.ended groups-read_message-reads.Post {L = List ℕ × List ℕ} (λ κs e. (e.1.1.0.now, e.1.1.1.0.now))
one-groups-read_message κs a x y e f p q = (p.0 ∙ sym q.0, ap₂ (λ u v. (u, v)) (p.1.1.0 ∙ sym q.1.1.0) (p.1.1.1 ∙ sym q.1.1.1))

pub any-groups-read_message : Any groups-read_message.ended groups-read_message-reads.Asked
any-groups-read_message κs a = tt

pub one-record-put_record : OneLeft record-put_record.ended record-put_record-reads.Post (λ κs e. e.0.now)
one-record-put_record κs a x y e f p q = wrote_once p q

pub any-record-put_record : Any record-put_record.ended record-put_record-reads.Asked
any-record-put_record κs a = tt

pub one-record-put_closing : OneLeft record-put_closing.ended record-put_closing-reads.Post (λ κs e. e.0.now)
one-record-put_closing κs a x y e f p q = wrote_once p q

pub any-record-put_closing : Any record-put_closing.ended record-put_closing-reads.Asked
any-record-put_closing κs a = tt

pub one-record-record_len : One record-record_len.ended record-record_len-reads.Post
one-record-record_len κs a x y e f p q = p.0 ∙ sym q.0

pub any-record-record_len : Any record-record_len.ended record-record_len-reads.Asked
any-record-record_len κs a = tt

pub one-record-closing_len : One record-closing_len.ended record-closing_len-reads.Post
one-record-closing_len κs a x y e f p q = p.0 ∙ sym q.0

pub any-record-closing_len : Any record-closing_len.ended record-closing_len-reads.Asked
any-record-closing_len κs a = tt

pub one-record-write_record : OneLeft record-write_record.ended record-write_record-reads.Post (λ κs e. e.0.now)
one-record-write_record κs a x y e f p q = (written_once _ _ (p.0 ∙ sym q.0), p.1 ∙ sym q.1)

pub any-record-write_record : Any record-write_record.ended record-write_record-reads.Asked
any-record-write_record κs a = tt

pub one-run-load : OneLeft run-load.ended run-load-reads.Post (λ κs e. e.1.1.0.now)
one-run-load κs a x y e f p q = loaded_once _ _ _ _ (p ∙ sym q)

pub any-run-load : Any run-load.ended run-load-reads.Asked
any-run-load κs a = tt

pub one-run-trace_length : One run-trace_length.ended run-trace_length-reads.Post
one-run-trace_length κs a x y e f p q = p ∙ sym q

pub any-run-trace_length : Any run-trace_length.ended run-trace_length-reads.Asked
any-run-trace_length κs a = tt

pub one-run-trace_length_by : One run-trace_length_by.ended run-trace_length_by-reads.Post
one-run-trace_length_by κs a x y e f p q = p ∙ sym q

pub any-run-trace_length_by : Any run-trace_length_by.ended run-trace_length_by-reads.Asked
any-run-trace_length_by κs a = tt

pub one-run-run_trace : OneLeft run-run_trace.ended run-run_trace-reads.Post (λ κs e. e.1.0.now)
one-run-run_trace κs a x y e f p q = (p.0 ∙ sym q.0, p.1 ∙ sym q.1)

pub any-run-run_trace : Any run-run_trace.ended run-run_trace-reads.Asked
any-run-run_trace κs a = tt

pub one-run-run_trace_by : OneLeft run-run_trace_by.ended run-run_trace_by-reads.Post (λ κs e. e.1.1.0.now)
one-run-run_trace_by κs a x y e f p q = (p.0 ∙ sym q.0, p.1 ∙ sym q.1)

pub any-run-run_trace_by : Any run-run_trace_by.ended run-run_trace_by-reads.Asked
any-run-run_trace_by κs a = tt

pub one-seen-see_all : One seen-see_all.ended seen-see_all-reads.Post
one-seen-see_all κs a x y e f p q = p ∙ sym q

pub any-seen-see_all : Any seen-see_all.ended seen-see_all-reads.Asked
any-seen-see_all κs a = tt

pub one-standing-write_standing : OneLeft standing-write_standing.ended standing-write_standing-reads.Post (λ κs e. e.1.1.0.now)
one-standing-write_standing κs a x y e f p q = (p.0 ∙ sym q.0, p.1.0 ∙ sym q.1.0)

pub any-standing-write_standing : Any standing-write_standing.ended standing-write_standing-reads.Asked
any-standing-write_standing κs a = tt
