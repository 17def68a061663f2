-- All that we claim, gathered from the files that prove it. Assumes nothing.
use Rattle.topics.proofs.covering.Counted.{old_count_meets}
use Rattle.topics.proofs.covering.Exact.{covers_exactly}
use Rattle.topics.proofs.matching.Difference.{port_differs}
use Rattle.topics.proofs.matching.Meaning.{meaning}
use Rattle.topics.proofs.utf8.Decoded.{exactly}
use Rattle.lines.proofs.Round.{round}
use Rattle.monitor.proofs.Chosen.{chosen}
use Rattle.monitor.proofs.Covered.{covered}
use Rattle.monitor.proofs.Denied.{denied_by_kind}
use Rattle.monitor.proofs.Four.{four_at_most, none_dropped}
use Rattle.monitor.proofs.Light.{light}
use Rattle.monitor.proofs.Reached.{sound_always, sendable_always}
use Rattle.monitor.proofs.Total.{total_is_sum}
use Rattle.monitor.proofs.Unbroken.{unbroken_always}
use Rattle.trace.proofs.AsRun.{same_read}
use Rattle.packets.proofs.Missing.{missing}
use Rattle.packets.proofs.Steps.{steps}
use Rattle.packets.proofs.Taken.{taken}
use Rattle.packets_text.proofs.ReadBack.{read_back}
use Rattle.queue.proofs.Enough.{enough}
use Rattle.queue.proofs.Joined.{calls_join}
use Rattle.queue.proofs.Singly.{as_singly}
use Rattle.theorems.specs.Claims.{Claims}
use Rattle.theorems.proofs.Corners.{corners}
use Rattle.theorems.proofs.Exactness.{exactness}
use Rattle.theorems.proofs.Guider.{guider_runs}
use Rattle.theorems.proofs.Loop.{loop_limits}
use Rattle.theorems.proofs.Lower.{lower_first, lower_later}
use Rattle.theorems.proofs.OldCount.{old_count_wrong}
use Rattle.theorems.proofs.Printed.{printed_limits}
use Rattle.theorems.proofs.Queued.{queued_limits}
use Rattle.theorems.proofs.RemovalRuns.{removal_runs}
use Rattle.theorems.proofs.Removals.{gives_removed, felt_under, removed_under, felt_shipped, removed_shipped, failed_free}
use Rattle.theorems.proofs.Settings.{saved_settings}
use Rattle.theorems.proofs.Shipped.{shipped_meets}
use Rattle.theorems.proofs.ShutOut.{shut_out}
use Rattle.theorems.proofs.Slips.{slips}
use Rattle.theorems.proofs.Standing.{standing}
use Rattle.theorems.proofs.Tight.{tight}
use Rattle.theorems.proofs.Upper.{gives_upper, upper}
use Rattle.theorems.proofs.Witness.{witness}

pub claims : Claims
claims =
    record {
      upper = upper;
      lower_first = lower_first;
      lower_later = lower_later;
      shipped = shipped_meets;
      exact = exactness;
      guider = guider_runs;
      removals = record { any_matcher = removed_under; shipped_calls = removed_shipped; gives_upper = gives_upper; failed_free = failed_free };
      spared = record { any_matcher = felt_under; shipped_calls = felt_shipped; gives_removed = gives_removed };
      removal_runs = removal_runs;
      standing = standing;
      met = tight;
      slips = slips;
      printed = printed_limits;
      printed_met = witness;
      looped = loop_limits;
      read_alike = same_read;
      settings = saved_settings;
      missing_bytes = missing;
      packet_steps = steps;
      packet_taken = taken;
      read_back = read_back;
      singly = as_singly;
      joined = calls_join;
      enough = enough;
      queued = queued_limits;
      light = light;
      chosen = chosen;
      sound = sound_always;
      unbroken = unbroken_always;
      sendable = sendable_always;
      denied = denied_by_kind;
      four = four_at_most;
      none_dropped = none_dropped;
      total = total_is_sum;
      meaning = meaning;
      difference = port_differs;
      covers_exactly = covers_exactly;
      covered = covered;
      old_count = old_count_meets;
      old_count_wrong = old_count_wrong;
      utf8 = exactly;
      round = round;
      corners = corners;
      shut_out = shut_out;
    }
