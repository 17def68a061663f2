-- Runs in which no more than 32 identities have reached the limiter: every call keeps `Seats` (proofs/Seats.antt), so that a first message finds a free place and passes.
-- Assumes nothing.
use mathlib.Core.Bool.{Bool, true, cond}
use mathlib.Core.List.{List, [], ◌∷◌}
use mathlib.Core.Path.{◌≡◌, refl, ◌∙◌}
use Prim.Native.Nat.{ℕ, ◌≤◌}
use native.Mathlib.Nat.{le_trans}
use native.Mathlib.Omega.{arith}
use borrow.Author.Tests.{lt-ltb}
use lib.Dec.{ltb}
use lib.ListN.{length}
use Rattle.laws.proofs.Cases.{by}
use Rattle.tables.specs.Identity.{id_of, is_of}
use Rattle.tables.specs.declared.identity.Id.{Id}
use Rattle.tables.specs.declared.buckets.RateBucket.{RateBucket}
use Rattle.tables.proofs.identity.IdentityLaws.{OfTopic}
use Rattle.tables.proofs.buckets.StepLaws.{Absent, Step, hit, put}
use Rattle.monitor.specs.declared.state.MqttMonitor.{MqttMonitor}
use Rattle.monitor.specs.Runs.{Call, after_by, after}
use Rattle.monitor.specs.Prepared.{Prepared}
use Rattle.monitor.proofs.Prepared.{all_free}
use Rattle.theorems.specs.Run.{Matcher, time, used, rate_of, arrived, is_among, noted}
use Rattle.theorems.proofs.Holders.{clash, Named, mine}
use Rattle.theorems.proofs.Seats.{Seats, Room, room, noted-le, free_seat, newcomer_room}
use Rattle.theorems.proofs.Turns.{Like, Turn, idle, stepped, of_used, turn, on, free_place}

-- the identities after one call
abbrev pub arrives : ℕ → Call → List Id → List Id
arrives rate c l = cond (ltb 0 rate) (noted (id_of (used c)) l) l

pub arrives-le : (rate : ℕ) (c : Call) (l : List Id) → length l ≤ length (arrives rate c l)
arrives-le rate c l = by (ltb 0 rate) (λ e. rw e (noted-le (id_of (used c)) l)) (λ e. rw e (omega arith))

-- one call
pub room_turn : {T T' : List RateBucket} {l : List Id} {rate : ℕ} {c : Call} {ok : Bool} → length T ≡ 32 → Seats T l → length (arrives rate c l) ≤ 32
    → Turn T rate c T' ok → Room T T' (arrives rate c l)
room_turn n s h (idle e) = rw e (record { seats = s; still = record { stays = λ z a. a } })
room_turn {rate = rate} {c = c} n s h (stepped pos st) =
    let e = lt-ltb 0 rate pos in rw e (room n (of_used c) s (rw e at h) st)

-- a call that reaches the limiter is a step
pub step_of : {T T' : List RateBucket} {rate : ℕ} {c : Call} {ok : Bool} → ltb 0 rate ≡ true → Turn T rate c T' ok → Step T (id_of (used c)) rate (time c) T' ok
step_of h (idle e) = clash h (rw e)
step_of h (stepped pos st) = st

-- runs
pub arrived-le : (matcher : Matcher) (m₀ : MqttMonitor) (cs : List Call) (l : List Id) → length l ≤ length (arrived matcher m₀ l cs)
unfolding arrived
arrived-le matcher m₀ [] l = omega arith
arrived-le matcher m₀ (c ∷ cs) l =
    le_trans (arrives-le (rate_of matcher m₀ c) c l) (arrived-le matcher m₀ cs (arrives (rate_of matcher m₀ c) c l))

pub seated_run : (matcher : Matcher) {m₀ m : MqttMonitor} → Like m₀ m → (cs : List Call) {l : List Id} → Seats m.rate_buckets l → length (arrived matcher m₀ l cs) ≤ 32
    → Seats (after matcher m cs).rate_buckets (arrived matcher m₀ l cs)
unfolding arrived after_by
seated_run matcher k [] s h = s
seated_run matcher {m₀ = m₀} {m = m} k (c ∷ cs) {l = l} s h =
    let one = room_turn k.sound.buckets_sound.size s (le_trans (arrived-le matcher m₀ cs (arrives (rate_of matcher m₀ c) c l)) h) (turn matcher k c) in
    seated_run matcher {m = (Rattle.monitor.specs.Runs.answer matcher m c).monitor} (on matcher k c) cs one.seats h

-- a run begins with no one seated
pub seats_none : {m : MqttMonitor} → Prepared m → Seats m.rate_buckets []
unfolding is_among
seats_none p = rw (all_free p) (record { there = λ z o h. clash h refl; vacant = λ j _. free_place j })

-- the first message of an identity passes
pub first_allowed : {T : List RateBucket} → Named T → (x : Id) {y : Id} → OfTopic y → is_of x y ≡ true → {rate t : ℕ} {l : List Id} {T' : List RateBucket} {ok : Bool}
    → length T ≡ 32 → Seats T l → length (noted y l) ≤ 32 → Absent x T → Step T y rate t T' ok → ok ≡ true
first_allowed n x o e z s h a (hit i q w) = clash (mine n x o e i ∙ w) (a.none i)
first_allowed n x o e z s h a (put i ok q v seat) = let m = newcomer_room s o v in (free_seat s (omega arith) seat).allowed
