-- Runs of a monitor (`monitor`'s specs/Runs.antt), and what demand 3 says of their messages: which of them reach the limiter, in document 01's own words and apart from what
-- `inspect` does, so that an `inspect` which asked the limiter of other messages would break the theorems. A call here is an inspection: of runs in which other calls stand too
-- (`monitor`'s specs/Acts.antt) all this is asked of their inspections.
-- Assumes nothing.
use Rattle.std.specs.Prelude.{◌≡◌, Bool, true, false, cond, not, ◌&&◌, List, [], ◌∷◌, ◌++◌, ℕ, ◌+◌, ◌≤◌, eqb, ltb, take}
use Rattle.laws.specs.Lists.{none}
use Rattle.topics.specs.Names.{bad_publish}
use Rattle.tables.specs.Identity.{id_of, is_of}
use Rattle.tables.specs.declared.identity.Id.{Id}
use Rattle.tables.specs.Rules.{pattern_of}
use Rattle.tables.specs.declared.rules.TopicAction.{TopicAction}
use Rattle.tables.specs.declared.rules.TopicAction.TheVariants.{Allow, Block}
use Rattle.tables.specs.declared.rules.TopicRule.{TopicRule}
use Rattle.monitor.specs.Inspect.{inspect_refusal}
use Rattle.monitor.specs.Message.{type_number, used_topic}
use Rattle.monitor.specs.Runs.{Call, answer}
use Rattle.monitor.specs.declared.state.MqttMonitor.{MqttMonitor}

-- a matcher of the rules: topic, then pattern
abbrev pub Matcher : Type 0
Matcher = List ℕ → List ℕ → Bool

-- a call's time
abbrev pub time : Call → ℕ
time c = c.msg.timestamp_us

-- whether its message is allowed
abbrev pub is_allowed : Matcher → MqttMonitor → Call → Bool
is_allowed matcher m c = (answer matcher m c).result.allowed

-- the topic that a call's message uses
abbrev pub used : Call → List ℕ
used c = take (used_topic c.msg) c.topic

-- it is a Publish
abbrev pub is_publish : Call → Bool
is_publish c = eqb (type_number c.msg.packet_type) 3

-- the rate that an action leaves: none under Block
abbrev pub rate_if : TopicAction → ℕ → ℕ
rate_if Allow rate = rate
rate_if Block rate = 0

-- the rate of the first of some rules that matches a topic; 0 where that is Block, or there is none
unfoldable pub first_rate : Matcher → List ℕ → List TopicRule → ℕ
first_rate matcher topic [] = 0
first_rate matcher topic (r ∷ rs) = cond (matcher topic (pattern_of r)) (rate_if r.action r.max_rate_per_sec) (first_rate matcher topic rs)

-- the rules of a state
abbrev pub rules_in : MqttMonitor → List TopicRule
rules_in m = take m.rule_count m.rules

-- a topic that may reach the limiter: not empty, free of zero, `+` and `#`
abbrev pub is_name : List ℕ → Bool
is_name topic = not (none topic) && not (bad_publish topic)

-- the rate under which a call's message reaches the limiter (document 01, "Buckets"): it is a Publish, not empty, free of zero, `+` and `#`, and its first matching rule is Allow
-- with this rate; 0 where it does not reach it, or is refused. Rules, and so rates, stay as they are over inspections
unfoldable pub rate_of : Matcher → MqttMonitor → Call → ℕ
rate_of matcher m c =
    cond (eqb (inspect_refusal m c.msg c.topic c.payload) 0 && is_publish c && is_name (used c)) (first_rate matcher (used c) (rules_in m)) 0

-- a call's message is of an identity and reaches the limiter. Identity is document 01's: length, first bytes up to 32 and three hashes, so two topics above 32 bytes may be one
unfoldable pub reaches : Matcher → MqttMonitor → Id → Call → Bool
reaches matcher m x c = ltb 0 (rate_of matcher m c) && is_of x (id_of (used c))

-- timestamps never going back
pub data InOrder : List Call → Type 0 where
  nothing : InOrder []
  single : (c : Call) → InOrder (c ∷ [])
  later : {c d : Call} {cs : List Call} → time c ≤ time d → InOrder (d ∷ cs) → InOrder (c ∷ d ∷ cs)

-- how many messages of an identity reach the limiter and are allowed in a run
unfoldable pub allowed_of : Matcher → MqttMonitor → Id → List Call → ℕ
allowed_of matcher m x [] = 0
allowed_of matcher m x (c ∷ cs) =
    cond (reaches matcher m x c && is_allowed matcher m c) 1 0 + allowed_of matcher (answer matcher m c).monitor x cs

-- all messages of an identity that reach the limiter in a run do so under one rate
pub data OneRate (matcher : Matcher) (m : MqttMonitor) (x : Id) (R : ℕ) : List Call → Type 0 where
  done : OneRate matcher m x R []
  next : {c : Call} {cs : List Call} → (reaches matcher m x c ≡ true → rate_of matcher m c ≡ R) → OneRate matcher m x R cs → OneRate matcher m x R (c ∷ cs)

-- an identity is among those of a list
unfoldable pub is_among : Id → List Id → Bool
is_among x [] = false
is_among x (y ∷ ys) = cond (is_of x y) true (is_among x ys)

-- one identity more, if it is new
abbrev pub noted : Id → List Id → List Id
noted x ys = cond (is_among x ys) ys (ys ++ (x ∷ []))

-- the identities that have reached the limiter in a run, in order of arrival, after those of a list
unfoldable pub arrived : Matcher → MqttMonitor → List Id → List Call → List Id
arrived matcher m ys [] = ys
arrived matcher m ys (c ∷ cs) = arrived matcher m (cond (ltb 0 (rate_of matcher m c)) (noted (id_of (used c)) ys) ys) cs

-- no message of an identity reaches the limiter in a run
pub data Silent (matcher : Matcher) (m : MqttMonitor) (x : Id) : List Call → Type 0 where
  done : Silent matcher m x []
  next : {c : Call} {cs : List Call} → reaches matcher m x c ≡ false → Silent matcher m x cs → Silent matcher m x (c ∷ cs)
