-- Runs in which buckets are removed, by computation (request C-24): two that reach the bound of Removals.antt, for one removal and for two; one in which another topic's removal costs the bucket; and
-- five on which a removal with a slip would let another number pass. bin/must-break puts such slips into the definitions and sees these runs fail. The proofs are in proofs/RemovalRuns.antt.
-- Assumes nothing.
use Rattle.std.specs.Prelude.{◌≡◌, true, List, [], ◌∷◌, ◌++◌, ℕ, ◌+◌, ◌-◌, ◌*◌, ◌/◌}
use Rattle.slices.specs.Bytes.{bytes}
use Rattle.tables.specs.Identity.{id_of}
use Rattle.monitor.specs.Acts.{Act, inspects, asks, removes, ours, inspections, messages, removals}
use Rattle.monitor.specs.Prepared.{Prepared}
use Rattle.monitor.specs.Runs.{shipped}
use Rattle.monitor.specs.State.{matcher_of}
use Rattle.theorems.specs.Removals.{passed_in}
use Rattle.theorems.specs.Run.{reaches, InOrder, OneRate}
use Rattle.theorems.specs.Slips.{own}
use Rattle.theorems.specs.Spared.{felt}
use Rattle.theorems.specs.Tight.{hub, publish, device, crowd}

-- how many messages of the topic `m/x` pass in a run from a fresh monitor with a rate
abbrev pub passing : ℕ → List Act → ℕ
passing rate run = passed_in (ours shipped) (reaches (matcher_of (hub rate)) (hub rate) (id_of (bytes "m/x"))) (hub rate) run

-- how many buckets are removed in it, and how many of these removals the topic felt
abbrev pub removed : ℕ → List Act → ℕ
removed rate run = removals (ours shipped) (hub rate) run

abbrev pub felt_in : ℕ → List Act → ℕ
felt_in rate run = felt (ours shipped) (id_of (bytes "m/x")) (hub rate) run

-- a message of the topic at a time, and the removal of its bucket
abbrev pub sends : ℕ → Act
sends t = inspects (own t)

abbrev pub frees : Act
frees = asks (removes (bytes "m/x"))

-- rate 2: a burst of two messages at 0, one removal or two with a burst behind each, and messages at 500000 and 1000000
abbrev pub burst : List Act
burst = sends 0 ∷ sends 0 ∷ []

abbrev pub rest : List Act
rest = sends 500000 ∷ sends 1000000 ∷ []

unfoldable pub once : List Act
once = burst ++ frees ∷ burst ++ rest

unfoldable pub twice : List Act
twice = burst ++ frees ∷ burst ++ frees ∷ burst ++ rest

-- the premises of the bound hold of such a run with K removals, from its first message to its last; and all its messages pass: (K + 1) x 2 + 2 x 1,000,000 / 1,000,000
pub record MetWith (K : ℕ) (run : List Act) : Type 0 where
  pub prepared : Prepared (hub 2)
  pub in_order : InOrder (messages run)
  pub one_rate : OneRate (matcher_of (hub 2)) (hub 2) (id_of (bytes "m/x")) 2 (messages run)
  pub reached_first : reaches (matcher_of (hub 2)) (hub 2) (id_of (bytes "m/x")) (own 0) ≡ true
  pub reached_last : reaches (matcher_of (hub 2)) (hub 2) (id_of (bytes "m/x")) (own 1000000) ≡ true
  pub count : removed 2 run ≡ K
  pub exactly : passing 2 run ≡ (K + 1) * 2 + 2 * (1000000 - 0) / 1000000

-- rate 1: 32 others come, the last takes the topic's bucket, and one of them is removed: the topic then takes the free place
abbrev pub crowded : List Act
crowded = sends 0 ∷ inspections (crowd 32 0) ++ asks (removes (device 31)) ∷ sends 0 ∷ sends 0 ∷ []

-- rate 1: another comes, and its bucket is removed
abbrev pub beside : List Act
beside = sends 0 ∷ inspects (publish (device 0) 0) ∷ asks (removes (device 0)) ∷ sends 0 ∷ []

-- the runs
pub record RemovalRuns : Type 0 where
  pub met_once : MetWith 1 once
  pub met_twice : MetWith 2 twice
  -- another topic's removal costs a bucket too, where the topic had lost its own: 1 + 1, and without it the bound is 1
  pub by_another : (removed 1 crowded ≡ 1) × (felt_in 1 crowded ≡ 1) × (passing 1 crowded ≡ 2)
  -- a removal frees the bucket that it names: the next message passes
  pub freed : passing 1 (sends 0 ∷ frees ∷ sends 0 ∷ []) ≡ 2
  -- and no other: beside a bucket that is removed this one stays spent, and its topic feels nothing
  pub spared : (removed 1 beside ≡ 1) × (felt_in 1 beside ≡ 0) × (passing 1 beside ≡ 1)
  -- an identity that was removed gets its rate, and not more
  pub no_more : passing 1 (sends 0 ∷ frees ∷ sends 0 ∷ sends 0 ∷ []) ≡ 2
  -- a removal that fails gives nothing: of a topic that holds no bucket
  pub unheld : (removed 1 (sends 0 ∷ asks (removes (device 0)) ∷ sends 0 ∷ []) ≡ 0) × (passing 1 (sends 0 ∷ asks (removes (device 0)) ∷ sends 0 ∷ []) ≡ 1)
  -- or of one whose bucket is gone already: two calls, one removal
  pub gone_already : (removed 1 (sends 0 ∷ frees ∷ frees ∷ sends 0 ∷ sends 0 ∷ []) ≡ 1) × (passing 1 (sends 0 ∷ frees ∷ frees ∷ sends 0 ∷ sends 0 ∷ []) ≡ 2)
