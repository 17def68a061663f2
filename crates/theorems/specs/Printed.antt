-- Demand 3 for the support desk: what a rate lets pass of one topic, in the verdicts that a trace prints and that the loop of `loops` counts. Nothing is said here of states or of
-- identities: a topic of at most 32 bytes is its own identity. (For a longer one, which may share its identity with another, specs/Limits.antt says the same of the same run.)
-- docs/LIMITS.md has worked numbers. The proofs are in proofs/Printed.antt and proofs/Loop.antt.
-- Assumes nothing.
use Rattle.std.specs.Prelude.{◌≡◌, Bool, true, cond, not, ◌&&◌, List, [], ◌∷◌, ◌++◌, ℕ, zero, suc, ◌+◌, ◌-◌, ◌*◌, ◌/◌, ◌≤◌, ◌<◌, min, length}
use Rattle.laws.specs.Lists.{every}
use Rattle.slices.specs.Bytes.{same, bytes}
use Rattle.lines.specs.Span.{part}
use Rattle.topics.specs.Matching.{matches_by}
use Rattle.topics.specs.declared.matching.Matching.{Matching}
use Rattle.monitor.specs.Prepared.{Prepared}
use Rattle.monitor.specs.State.{matcher_of}
use Rattle.monitor.specs.Runs.{Call, Reply, shipped, replies_by, is_inspected, is_passed}
use Rattle.monitor.specs.declared.state.MqttMonitor.{MqttMonitor}
use Rattle.trace.specs.AsRun.{AsRun, replies_of}
use Rattle.trace.specs.Trace.{loaded, messages_of}
use Rattle.loops.specs.Inspections.{from_at, loop_message, readied, loop_allowed}
use Rattle.theorems.specs.Run.{Matcher, time, used, is_publish, first_rate, rules_in, is_name, InOrder, arrived}

-- the reply to a Publish of a topic
abbrev pub publishes : List ℕ → Reply → Bool
publishes t r = is_publish r.call && same t (used r.call)

-- no reply is to one
abbrev pub is_quiet : List ℕ → List Reply → Bool
is_quiet t rs = every (λ r. not (publishes t r)) rs

-- how many of them passed
unfoldable pub passed_of : List ℕ → List Reply → ℕ
passed_of t [] = 0
passed_of t (r ∷ rs) = cond (publishes t r && is_passed r) 1 0 + passed_of t rs

-- the rate that a monitor's rules set for a topic: that of the first rule that matches; 0 where it is Block, or none matches, or the topic is empty or has a zero, `+` or `#`
unfoldable pub topic_rate : Matcher → MqttMonitor → List ℕ → ℕ
topic_rate matcher m t = cond (is_name t) (first_rate matcher t (rules_in m)) 0

-- the calls of replies
abbrev pub calls : List Reply → List Call
calls [] = []
calls (r ∷ rs) = r.call ∷ calls rs

-- how many topics, by their identities, have reached the limiter in them
abbrev pub crowd_of : Matcher → MqttMonitor → List Reply → ℕ
crowd_of matcher m rs = length (arrived matcher m [] (calls rs))

-- the time between two messages
abbrev pub between : Reply → Reply → ℕ
between a z = time z.call - time a.call

-- What a rate R lets pass of a topic t, in the replies of a run from a fresh monitor m
pub record TopicLimits (matcher : Matcher) (m : MqttMonitor) (t : List ℕ) (R : ℕ) (rs : List Reply) : Type 0 where
  -- from one Publish of the topic, `a`, to another, `z`, D microseconds later, both counted, at most R + R x D / 1,000,000, rounded down, pass, however many other topics shout
  pub upper :
      (first middle rest : List Reply) (a z : Reply) → rs ≡ first ++ a ∷ middle ++ z ∷ rest → publishes t a ≡ true → publishes t z ≡ true
      → passed_of t (a ∷ middle ++ z ∷ []) ≤ R + R * between a z / 1000000
  -- while no more than 32 topics have reached the limiter, its first Publish passes
  pub lower_first :
      (first rest : List Reply) (z : Reply) → rs ≡ first ++ z ∷ rest → crowd_of matcher m (first ++ z ∷ []) ≤ 32
      → is_quiet t first ≡ true → publishes t z ≡ true → is_passed z ≡ true
  -- and so does a later one, `z`, that comes G microseconds after the one before it, `y`, unless R x G is below 1,000,000
  pub lower_later :
      (first middle rest : List Reply) (y z : Reply) → rs ≡ first ++ y ∷ middle ++ z ∷ rest → crowd_of matcher m (first ++ y ∷ middle ++ z ∷ []) ≤ 32
      → publishes t y ≡ true → is_quiet t middle ≡ true → publishes t z ≡ true
      → 1000000 ≤ R * between y z → is_passed z ≡ true

-- TRACES. For either matcher and any text: what it prints are the replies of `inspect`, message by message (`as_run`); and where its timestamps never go back, each topic that its
-- rules limit is limited in them as demand 3 says
pub record Printed (matching : Matching) (s : List ℕ) : Type 0 where
  pub as_run : AsRun matching s
  pub limits :
      InOrder (messages_of matching s).sent → (t : List ℕ) → length t ≤ 32 → 0 < topic_rate (matches_by matching) (loaded matching s).monitor t
      → TopicLimits (matches_by matching) (loaded matching s).monitor t (topic_rate (matches_by matching) (loaded matching s).monitor t) (replies_of matching s)

-- how many replies passed
unfoldable pub passed : List Reply → ℕ
passed [] = 0
passed (r ∷ rs) = cond (is_passed r) 1 0 + passed rs

-- THE LOOP of `loops`, whose topics, width, size and rules are these
module _ (n : ℕ) (topics : List ℕ) (width size : ℕ) where
  -- the k-th message as a call
  abbrev pub call_at : ℕ → Call
  call_at k =
      record {
        msg = loop_message width size k;
        topic = part topics (from_at (length topics) width k) (from_at (length topics) width k + width);
        payload = bytes "on";
      }

  -- the first k of them
  unfoldable pub calls_to : ℕ → List Call
  calls_to zero = []
  calls_to (suc k) = calls_to k ++ (call_at k ∷ [])

  -- their replies
  abbrev pub loop_replies : ℕ → List Reply
  loop_replies k = replies_by shipped (readied n) (calls_to k)

  -- it is a run of `inspect` from a fresh monitor that refuses none; it counts the replies that passed, at most 2 ^ 64 - 1; and each topic is limited in them as demand 3 says
  pub record Looped (k : ℕ) : Type 0 where
    pub prepared : Prepared (readied n)
    pub inspected : every is_inspected (loop_replies k) ≡ true
    pub counts : loop_allowed n topics width size k ≡ min (passed (loop_replies k)) 18446744073709551615
    pub limits :
        (t : List ℕ) → length t ≤ 32 → 0 < topic_rate (matcher_of (readied n)) (readied n) t
        → TopicLimits (matcher_of (readied n)) (readied n) t (topic_rate (matcher_of (readied n)) (readied n) t) (loop_replies k)

-- of any text, and of any loop whose topics are lent whole
abbrev pub PrintedLimits : Type 0
PrintedLimits = (matching : Matching) (s : List ℕ) → Printed matching s

abbrev pub LoopLimits : Type 0
LoopLimits = (n : ℕ) (topics : List ℕ) (width size k : ℕ) → width ≤ 128 → width ≤ length topics → Looped n topics width size k
