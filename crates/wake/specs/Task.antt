-- A run of packets after a trace: the trace's own number where it is refused, else the run (request C-12) on the state that its messages leave.
-- Assumes nothing.
use Rattle.std.specs.Prelude.{cond, List, ℕ, eqb}
use Rattle.topics.specs.declared.matching.Matching.TheVariants.{Port}
use Rattle.trace.specs.Seen.{end_state}
use Rattle.trace.specs.Trace.{messages_of}
use Rattle.queue.specs.Queue.{Wake, QueueEnd, queue_end, queue_kept}
use Rattle.wake.specs.declared.task.QueueRun.{QueueRun}

-- what is handed back of how a run ended: of the state the two counts
abbrev pub run_of : QueueEnd → QueueRun
run_of e =
    record {
      number = e.number;
      place = e.place;
      done = e.done;
      length = e.length;
      inspected = e.monitor.total_inspected;
      total = e.monitor.total_alerts;
    }

-- a refused trace: nothing is done, and the messages before its bad line stay counted
abbrev pub no_run : List ℕ → QueueRun
no_run s =
    record {
      number = (messages_of Port s).number;
      place = 0;
      done = 0;
      length = 0;
      inspected = (end_state Port s).total_inspected;
      total = (end_state Port s).total_alerts;
    }

-- what is handed back
unfoldable pub task_end : List ℕ → Wake → QueueRun
task_end s w = cond (eqb (messages_of Port s).number 0) (run_of (queue_end (end_state Port s) w)) (no_run s)

-- the buffer afterwards
unfoldable pub task_kept : List ℕ → Wake → List ℕ → List ℕ
task_kept s w d = cond (eqb (messages_of Port s).number 0) (queue_kept (end_state Port s) w d) d
