-- What we claim, in one record: a field for each claim, in the order of README's list, in words first. It can be read alone; each field names the statement that says it in full.
-- `claims` in proofs/Claims.antt proves it, so a claim whose theorem is gone breaks the check. That every public call's promise leaves one answer is claimed function by function,
-- in proofs/Answers*.antt; bin/answered holds that list to every public function.
-- Assumes nothing.
use Rattle.topics.specs.Covered.{CoversExactly, OldCountMeets}
use Rattle.topics.specs.Encoding.{Utf8Exactly}
use Rattle.topics.specs.Meaning.{Meaning, Difference}
use Rattle.lines.specs.Round.{Round}
use Rattle.monitor.specs.Chosen.{Chosen}
use Rattle.monitor.specs.Covered.{Covered}
use Rattle.monitor.specs.Light.{Light}
use Rattle.monitor.specs.Reached.{SoundAlways, UnbrokenAlways, SendableAlways}
use Rattle.monitor.specs.Told.{DeniedByKind, AtMostFour, NoneDropped, TotalIsSum}
use Rattle.trace.specs.AsRun.{ReadAlike}
use Rattle.packets.specs.Missing.{Missing}
use Rattle.packets.specs.Steps.{Steps}
use Rattle.packets.specs.Taken.{Taken}
use Rattle.packets_text.specs.ReadBack.{ReadBack}
use Rattle.queue.specs.Enough.{Enough}
use Rattle.queue.specs.Joined.{CallsJoin}
use Rattle.queue.specs.Singly.{AsSingly}
use Rattle.theorems.specs.Corners.{Corners}
use Rattle.theorems.specs.Guider.{Guider}
use Rattle.theorems.specs.Limits.{Upper, LowerFirst, LowerLater}
use Rattle.theorems.specs.LowerExact.{Exactness}
use Rattle.theorems.specs.OldCount.{OldCountWrong}
use Rattle.theorems.specs.Printed.{PrintedLimits, LoopLimits}
use Rattle.theorems.specs.Queued.{QueuedLimits}
use Rattle.theorems.specs.RemovalRuns.{RemovalRuns}
use Rattle.theorems.specs.Removals.{Removals}
use Rattle.theorems.specs.Settings.{SavedSettings}
use Rattle.theorems.specs.Shipped.{ShippedLimits}
use Rattle.theorems.specs.ShutOut.{ShutOut}
use Rattle.theorems.specs.Slips.{Slips}
use Rattle.theorems.specs.Spared.{Spared}
use Rattle.theorems.specs.Standing.{Standing}
use Rattle.theorems.specs.Tight.{Met, MetLater, Night}
use Rattle.theorems.specs.Witness.{Witness}

pub record Claims : Type 0 where
  -- DEMAND 3, of any fresh monitor and any run of inspections in order of time.
  -- From one message of an identity under a rate R to another D microseconds later, at most R + R x D / 1,000,000 are allowed, however many other topics shout
  pub upper : Upper
  -- while no more than 32 identities have reached the limiter, the first message of each is allowed
  pub lower_first : LowerFirst
  -- and a later one is denied only if R x (the time since the one before it) is below 1,000,000
  pub lower_later : LowerLater
  -- all of it of the shipped `inspect`, in monitors of either matcher, over their own runs
  pub shipped : ShippedLimits
  -- EXACT (request C-17): while no more than 32 identities have reached the limiter, a message is denied only if letting it pass would break the upper half, for some stretch of its
  -- identity's messages that ends with it; both lower halves follow from this, of any monitor, and where there is no room every monitor that keeps the upper half denies
  pub exact : Exactness
  -- the request's guider, every 0.4 s at a rate of 2: four of five pass, every second one before; so the step before does not meet it
  pub guider : Guider
  -- REMOVALS (request C-24): with K successful `remove_rate_bucket` between the two messages, of any topics, at most (K + 1) x R + R x D / 1,000,000 are allowed, of the shipped calls too; the upper
  -- half above is the case of no removal; removals that fail cost nothing. That these calls are what the public functions promise is in proofs/AnswersRuns.antt
  pub removals : Removals
  -- and fewer count: a removal after which the identity still has its bucket does not raise the bound
  pub spared : Spared
  -- that bound is met, for one removal and for two, by the topic's own and by another's; and what a removal with a slip would let pass
  pub removal_runs : RemovalRuns
  -- WHERE THE LIMIT STANDS for one topic on one hub, now: a Publish that `inspect` does not refuse is allowed exactly when the time that `standing` says has come, whatever else it says; before
  -- that it is denied by the kind that is said; trying does not prolong the wait, and a newcomer that was denied with 6 takes the place of the oldest and stands at most one token later;
  -- `tokens_left` says what is left after it
  pub standing : Standing
  -- demand 3's bounds are met: four messages where the bound is four; a later message at the very microsecond; the night that started this
  pub met : Met × MetLater × Night
  -- six slips of a limiter break the upper half
  pub slips : Slips
  -- WHAT IS PRINTED is what `inspect` answers, message by message, for every text and either matcher; and demand 3 holds of it, for each topic of at most 32 bytes
  pub printed : PrintedLimits
  -- a trace that prints `allowed=1` exactly as often as that lets it
  pub printed_met : Witness
  -- so too of the loop that `bin/measure loop` runs
  pub looped : LoopLimits
  -- what is read of a trace's text is the same for either matcher: rules, messages, end and line
  pub read_alike : ReadAlike
  -- SETTINGS (requests C-13 and C-18): what was written of any state that calls handed out loads to the same settings, field by field, the matcher among them, and any accepted text is written back
  -- byte for byte; so accepted texts and settings correspond one to one. A text of form 1 goes to form 2 and back to the same bytes, and so does one of form 2 that says port to form 1 and back; 37
  -- refuses exactly those that say standard. A loaded monitor is one that calls make, and demand 3 holds from it
  pub settings : SavedSettings
  -- PACKETS (request C-11). 31 exactly when bytes are missing: an answer that is not 31 stays as it is whatever follows, and one that is 31 becomes another when the bytes that are missing are there
  pub missing_bytes : Missing
  -- whoever steps through a packet that is not refused gets its messages, as many as it says and in their order
  pub packet_steps : Steps
  -- every message that comes out, at whatever place and step, lies within its packet, and `inspect` takes it: 9 cannot occur
  pub packet_taken : Taken
  -- and the trace's reader reads back the lines that are written of a packet as its messages, in order, and then what follows
  pub read_back : ReadBack
  -- A QUEUE (request C-12): a run of packets in one call answers, records and leaves the state as inspecting its messages singly. It does all messages of the packets before its place and none of any
  -- other; neither 9 nor the record's 10 occurs; the records fit, and the bytes behind them stay; 10 comes before everything; and it ends at the end of the bytes or at a packet that is refused
  pub singly : AsSingly
  -- whoever calls again where a call ended, with room or with the bytes that were missing, gets what one call gives
  pub joined : CallsJoin
  -- 28 says that there are less than 528 bytes of room for each message, and with 264 for each byte of the packets it does not occur
  pub enough : Enough
  -- calls one after the other are a run of inspections, and demand 3 holds of what they hand back
  pub queued : QueuedLimits
  -- this rests on messages that ask no table, those that are neither a Publish nor a CONNECT: what they answer follows from rules and counters, and only the counters change
  pub light : Light
  -- A MONITOR'S MATCHER is the one that its constructor chose: every call keeps it, runs take it throughout, and by it the rules are chosen level by level
  pub chosen : Chosen
  -- ONE INSPECTION AND MANY. Every state that calls hand out is sound, so number 10 is never met in one
  pub sound : SoundAlways
  -- and, without a load, of the monitor's own making: identities made of topics, rings that CONNECTs filled
  pub unbroken : UnbrokenAlways
  -- and no rule that one holds has a pattern that no client can send: each is UTF-8 without U+0000
  pub sendable : SendableAlways
  -- a message is denied exactly when kind 1, 2, 3, 5, 6, 9 or 10 was raised
  pub denied : DeniedByKind
  -- at most four alerts are raised
  pub four : AtMostFour
  -- and none is dropped: they tell of all that was found, in order
  pub none_dropped : NoneDropped
  -- the alert total is the sum of the alert counts since the monitor was made or reset, capped
  pub total : TotalIsSum
  -- MATCHING. On a pattern whose wildcards are well placed the byte matcher is document 01's definition, level by level, with either of its two flags
  pub meaning : Meaning
  -- and the port differs from the standard, section 4.7.2 included, exactly at a `+` on an empty last level and at a dollar name under a leading wildcard
  pub difference : Difference
  -- RULES THAT CAN NEVER SPEAK (request C-20). Of two patterns that `add_rule` takes, and under both flags of the matcher at once: `covers` answers yes exactly where the earlier one matches every
  -- name, of 1 to 128 bytes without zero, `+` or `#`, that the later one matches; where it answers no, the witness is such a name that only the later one matches
  pub covers_exactly : CoversExactly
  -- so of a monitor and its own matcher: for each rule the first earlier rule that matches every name that it matches is reported, exactly when there is one, and no message is ever ruled by a rule
  -- that is reported; of a later and an earlier rule a name that only the later one matches is handed back, or none, and then the earlier one matches every name of the later
  pub covered : Covered
  -- the old shadow count has all that is covered, with wildcards or without, in a port monitor; under the standard too, but where a `+` stands at an empty last level
  pub old_count : OldCountMeets
  -- and it is wrong: `a/#` behind `a/+` is counted and not covered, as the topic `a` shows; under the standard it also counts a plain pattern that is not covered, and misses one that is
  pub old_count_wrong : OldCountWrong
  -- STRINGS. Bytes pass the test of UTF-8 exactly where they are written, as RFC 3629 has it, for scalar values; and have a zero byte exactly where U+0000 is one of these
  pub utf8 : Utf8Exactly
  -- TEXT. What is written is read back, and what is read was written so
  pub round : Round
  -- DOCUMENT 01's corners, P1 to P12
  pub corners : Corners
  -- and what our statements shut out
  pub shut_out : ShutOut
