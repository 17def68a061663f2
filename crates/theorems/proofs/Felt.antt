-- The upper half of demand 3 over runs in which buckets are removed. Each inspection keeps the budget's invariant, and so does a removal that leaves the identity its bucket; one that
-- leaves it without raises the budget by one whole bucket (proofs/Budget.antt). Every other call leaves the buckets as they are. The run before the window brings the invariant to the
-- window's first message, where counting begins anew with one whole bucket, and at its last message what was used is at most that bucket, one for each removal that was felt, and
-- rate x D. Assumes nothing.
use mathlib.Core.Bool.{Bool, true, not, ◌&&◌, false≢true}
use mathlib.Core.List.{List, [], ◌∷◌, ◌++◌, append_assoc}
use mathlib.Core.Path.{◌≡◌, refl, ap, ◌∙◌}
use Prim.Native.Nat.{ℕ, ◌+◌, ◌*◌, ◌≤◌}
use native.Mathlib.Nat.{add-zero, sub-add_cancel}
use native.Mathlib.Omega.{arith}
use borrow.Author.Tests.{lt-ltb, ltb-true}
use lib.Dec.{ltb}
use lib.ListN.{length, set, length-set}
use Rattle.laws.proofs.Cases.{by}
use Rattle.laws.proofs.Lists.{each}
use Rattle.tables.specs.Buckets.{no_bucket, empty_bucket, holds_bucket}
use Rattle.tables.specs.Identity.{id_of, is_of}
use Rattle.tables.specs.Scan.{find}
use Rattle.tables.specs.declared.identity.Id.{Id}
use Rattle.tables.specs.declared.buckets.RateBucket.{RateBucket}
use Rattle.tables.proofs.buckets.BucketLaws.{one}
use Rattle.tables.proofs.buckets.StepLaws.{none_holds}
use Rattle.tables.proofs.identity.IdentityLaws.{OfTopic}
use Rattle.monitor.specs.Acts.{Other, Act, inspects, asks, Candidate, called, ours, after_act, after_acts, messages, others_in}
use Rattle.monitor.specs.Chosen.{Keeps}
use Rattle.monitor.specs.Prepared.{Prepared}
use Rattle.monitor.specs.Runs.{Call, Monitor, answer}
use Rattle.monitor.specs.Ended.{Inspected}
use Rattle.monitor.specs.declared.state.MqttMonitor.{MqttMonitor}
use Rattle.monitor.proofs.Acts.{Freed, kept, freed, beside}
use Rattle.theorems.specs.Removals.{passed_in}
use Rattle.theorems.specs.Run.{Matcher, time, is_allowed, used, rate_of, reaches, OneRate, next}
use Rattle.theorems.specs.Shipped.{passes}
use Rattle.theorems.specs.Spared.{is_felt, felt, UpperFelt}
use Rattle.theorems.proofs.Budget.{Inv, spare, bounded, quiet, reopen, spared, cleared, own, other}
use Rattle.theorems.proofs.Cuts.{Timed, timed_le, From, from_start, until, since, to_last, rate_first, rate_rest}
use Rattle.theorems.proofs.Holders.{Named}
use Rattle.theorems.proofs.Turns.{Like, Turn, idle, stepped, of_used, turn, goes_on, on, no_one, begin}

-- one inspection, by what it is to the limiter: a message of the identity is counted if it is allowed
counts : {x : Id} {R : ℕ} {T T' : List RateBucket} {rate s u B : ℕ} {c : Call} {ok : Bool}
    → Named T → (ltb 0 rate && is_of x (id_of (used c)) ≡ true → rate ≡ R) → s ≤ time c → Inv x R T s u B → Turn T rate c T' ok
    → Inv x R T' (time c) (u + 1000000 * one (ltb 0 rate && is_of x (id_of (used c)) && ok)) B
counts {u = u} n r h v (idle e) = rw (e, add-zero u) (quiet h v)
counts {x} {R} {rate = rate} {u = u} {c = c} n r h v (stepped pos st) =
    by (is_of x (id_of (used c)))
    (λ e.
    let q : rate ≡ R = r (rw (lt-ltb 0 rate pos) e) in
    rw (lt-ltb 0 rate pos, e) (own n x (of_used c) e (omega arith) h v (rw q at st)))
    (λ e. rw (lt-ltb 0 rate pos, e, add-zero u) (other n x (of_used c) e h v st))

-- another call's buckets are named
named_freed : {T T' : List RateBucket} {removed : Bool} → length T ≡ 32 → Named T → Freed T removed T' → Named T'
named_freed l n kept = n
named_freed {T} l n (freed k h) =
    record { name = each no_bucket T k empty_bucket (omega arith) (λ j b. b.active ≡ true → OfTopic b.id) (λ a. absurd (false≢true a)) (λ j _. n.name j) }

-- the account, said in another way
same_account : {x : Id} {R : ℕ} {T : List RateBucket} {now : ℕ} (u u' B B' : ℕ) → u ≡ u' → B ≡ B' → Inv x R T now u B → Inv x R T now u' B'
same_account u u' B B' p q v = rw (← p, ← q) v

-- a call that is no inspection: one that is felt is paid for by a whole bucket
frees_paid : {x : Id} {R : ℕ} {T T' : List RateBucket} {removed : Bool} {now u B : ℕ} → length T ≡ 32 → Freed T removed T' → Inv x R T now u B
    → Inv x R T' now u (B + 1000000 * R * one (removed && not (ltb (find (holds_bucket x) T') 32)))
frees_paid {R = R} {u = u} {B} l kept v = same_account u u B (B + 1000000 * R * 0) refl (omega arith) v
frees_paid {x} {R} {T} {u = u} {B} l (freed k h) v =
    let T' : List RateBucket = set T k empty_bucket in
    let l' : length T' ≡ 32 = length-set T k empty_bucket ∙ l in
    by (ltb (find (holds_bucket x) T') 32)
    (λ e. rw e (same_account u u B (B + 1000000 * R * 0) refl (omega arith) (spared x T k (omega arith) (rw l' (ltb-true (find (holds_bucket x) T') 32 e)) v)))
    (λ e. rw e (same_account u u (B + 1000000 * R) (B + 1000000 * R * 1) refl (omega arith) (cleared (none_holds T' x (rw l' e)) v)))

-- runs that begin in `m₀`, of whatever inspects as under a matcher for as long as the choice of `m₀` is kept
module _ (matcher : Matcher) (f : Monitor) {m₀ : MqttMonitor} (agrees : (m : MqttMonitor) → Keeps m₀ m → (c : Call) → f m c ≡ answer matcher m c) where
  agreed : {m : MqttMonitor} → Like m₀ m → (c : Call) → f m c ≡ answer matcher m c
  agreed {m} k c = agrees m k.same.choice_same c

  go_on : {m : MqttMonitor} → Like m₀ m → (a : Act) → Like m₀ (after_act (ours f) m a)
  go_on k (inspects c) = rw (agreed k c) (on matcher k c)
  go_on k (asks o) =
      let b = beside k.sound o in goes_on k b.same b.sound (named_freed k.sound.buckets_sound.size k.named b.frees)

  on_all : {m : MqttMonitor} → Like m₀ m → (acts : List Act) → Like m₀ (after_acts (ours f) m acts)
  unfolding after_acts
  on_all k [] = k
  on_all {m = m} k (a ∷ acts) = on_all {m = after_act (ours f) m a} (go_on k a) acts

  one_call : {x : Id} {R : ℕ} {m : MqttMonitor} → Like m₀ m → (c : Call) {s u B : ℕ} → s ≤ time c → (reaches matcher m₀ x c ≡ true → rate_of matcher m₀ c ≡ R)
      → Inv x R m.rate_buckets s u B
      → Inv x R (f m c).monitor.rate_buckets (time c) (u + 1000000 * one (reaches matcher m₀ x c && passes f m c)) B
  unfolding reaches
  one_call {m = m} k c h r v =
      let e : passes f m c ≡ is_allowed matcher m c = ap (λ (r : Inspected). r.result.allowed) (agreed k c) in
      rw (e, agreed k c) (counts k.named r h v (turn matcher k c))

  run : {x : Id} {R : ℕ} {m : MqttMonitor} → Like m₀ m → (acts : List Act) {s e u B : ℕ} → Timed s (messages acts) e → OneRate matcher m₀ x R (messages acts)
      → Inv x R m.rate_buckets s u B
      → Inv x R (after_acts (ours f) m acts).rate_buckets e (u + 1000000 * passed_in (ours f) (reaches matcher m₀ x) m acts) (B + 1000000 * R * felt (ours f) x m acts)
  unfolding after_acts messages passed_in others_in
  run {R = R} k [] {u = u} {B} h r v = same_account u (u + 1000000 * 0) B (B + 1000000 * R * 0) (omega arith) (omega arith) (quiet h v)
  run {x} {R} {m} k (inspects c ∷ acts) {u = u} {B} h (next q r) v =
      let n = passed_in (ours f) (reaches matcher m₀ x) (f m c).monitor acts in
      let d = felt (ours f) x (f m c).monitor acts in
      let p = one (reaches matcher m₀ x c && passes f m c) in
      same_account (u + 1000000 * p + 1000000 * n) (u + 1000000 * (p + n)) (B + 1000000 * R * d) (B + 1000000 * R * d) (omega arith) refl
      (run {m = after_act (ours f) m (inspects c)} (go_on k (inspects c)) acts h.1 r (one_call k c h.0 q v))
  run {x} {R} {m} k (asks o ∷ acts) {u = u} {B} h r v =
      let n = passed_in (ours f) (reaches matcher m₀ x) (called m o).monitor acts in
      let d = felt (ours f) x (called m o).monitor acts in
      let i = one (is_felt (ours f) x m o) in
      same_account (u + 1000000 * n) (u + 1000000 * n) (B + 1000000 * R * i + 1000000 * R * d) (B + 1000000 * R * (i + d)) refl (omega arith)
      (run (go_on k (asks o)) acts h r (frees_paid k.sound.buckets_sound.size (beside k.sound o).frees v))

-- runs cut in two
messages_two : (pre post : List Act) → messages (pre ++ post) ≡ messages pre ++ messages post
unfolding messages
messages_two [] post = refl
messages_two (inspects c ∷ pre) post = ap (λ l. c ∷ l) (messages_two pre post)
messages_two (asks o ∷ pre) post = messages_two pre post

messages_from : (before rest : List Act) (a : Call) → messages (before ++ inspects a ∷ rest) ≡ messages before ++ a ∷ messages rest
unfolding messages
messages_from before rest a = messages_two before (inspects a ∷ rest)

messages_to : (between : List Act) (z : Call) → messages (between ++ inspects z ∷ []) ≡ messages between ++ z ∷ []
unfolding messages
messages_to between z = messages_two between (inspects z ∷ [])

module _ (h : Candidate) where
  acts_two : (m : MqttMonitor) (pre post : List Act) → after_acts h m (pre ++ post) ≡ after_acts h (after_acts h m pre) post
  unfolding after_acts
  acts_two m [] post = refl
  acts_two m (a ∷ pre) post = acts_two (after_act h m a) pre post

  -- an inspection at the end is no other call
  others_last : (such : MqttMonitor → Other → Bool) (m : MqttMonitor) (acts : List Act) (z : Call) → others_in h such m (acts ++ inspects z ∷ []) ≡ others_in h such m acts
  unfolding others_in
  others_last such m [] z = refl
  others_last such m (inspects c ∷ acts) z = others_last such (h.inspect m c).monitor acts z
  others_last such m (asks o ∷ acts) z = ap (λ (n : ℕ). one (such m o) + n) (others_last such (h.ask m o).monitor acts z)

  -- nor is one at the beginning
  others_between : (such : MqttMonitor → Other → Bool) (m : MqttMonitor) (before between : List Act) (a z : Call)
      → others_in h such (after_acts h m before) (inspects a ∷ (between ++ inspects z ∷ [])) ≡ others_in h such (after_acts h m (before ++ inspects a ∷ [])) between
  unfolding others_in after_acts
  others_between such m before between a z = rw (acts_two m before (inspects a ∷ [])) (others_last such (h.inspect (after_acts h m before) a).monitor between z)

pub bound : (matcher : Matcher) (f : Monitor) (m : MqttMonitor) → Prepared m → ((n : MqttMonitor) → Keeps m n → (c : Call) → f n c ≡ answer matcher n c)
    → UpperFelt matcher (ours f) m
unfolding messages
bound matcher f m p agrees x R before between a z o r ra rz =
    let k = begin p in
    let rest : List Act = between ++ inspects z ∷ [] in
    let w : From 0 (messages before ++ a ∷ messages rest) = from_start (messages before ++ a ∷ messages rest) (rw (append_assoc, messages_from before rest a) at o) in
    let q : OneRate matcher m x R (messages before ++ a ∷ messages rest) = rw (append_assoc, messages_from before rest a) at r in
    let g : From (time a) (messages between ++ z ∷ []) = rw (messages_to between z) at (since a 0 (messages before) (messages rest) w) in
    let t : Timed (time a) (messages rest) (time z) = rw (messages_to between z) (to_last z (time a) (messages between) g) in
    let start : Inv x R m.rate_buckets 0 0 (1000000 * R) = spare (no_one p x) (omega arith) in
    let there = reopen (run matcher f agrees k before (until a 0 (messages before) (messages rest) w) (rate_first (messages before) (a ∷ messages rest) q) start) in
    let le : time a ≤ time z = timed_le (messages between) (until z (time a) (messages between) [] g) in
    -- in millionths; rounded down these are messages
    let paid = bounded (run matcher f agrees (on_all matcher f agrees k before) (inspects a ∷ rest) (omega arith, t) (rate_rest (messages before) q) there) in
    rw (← others_between (ours f) (is_felt (ours f) x) m before between a z) (omega (arith, paid, ap (λ (d : ℕ). R * d) (sub-add_cancel le)))
