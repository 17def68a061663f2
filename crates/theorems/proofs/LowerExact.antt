-- The lower half, exact. After a run the identity has not come, or one of its messages began an account (proofs/Account.antt) that all since have gone on with; so a message that is denied finds that
-- from there on as many have passed as the upper half allows. Assumes nothing.
use mathlib.Core.Bool.{Bool, true, false, ◌&&◌}
use mathlib.Core.List.{List, [], ◌∷◌, ◌++◌, append_assoc, append-nil}
use mathlib.Core.Logic.{⊎_elim}
use mathlib.Core.Path.{◌≡◌, refl, sym, ap, ◌∙◌}
use Prim.Native.Nat.{ℕ, ◌+◌, ◌*◌, ◌<◌, ◌≤◌}
use native.Mathlib.Nat.{sub-add_cancel, add-zero, le_trans}
use native.Mathlib.Omega.{arith}
use borrow.Author.Tests.{lt-ltb, ltb-true}
use lib.Dec.{ltb}
use lib.ListN.{length}
use Rattle.laws.proofs.Tests.{both}
use Rattle.laws.proofs.Cases.{by}
use Rattle.tables.specs.Identity.{id_of, is_of}
use Rattle.tables.specs.declared.identity.Id.{Id}
use Rattle.tables.specs.declared.buckets.RateBucket.{RateBucket}
use Rattle.tables.proofs.buckets.BucketLaws.{one}
use Rattle.tables.proofs.buckets.StepLaws.{Absent, Step}
use Rattle.monitor.specs.Runs.{Call, answer, after_by, after}
use Rattle.monitor.specs.declared.state.MqttMonitor.{MqttMonitor}
use Rattle.monitor.proofs.Replies.{after_two}
use Rattle.theorems.specs.LowerExact.{NoRoom, LowerExact}
use Rattle.theorems.specs.Run.{Matcher, time, is_allowed, used, rate_of, reaches, OneRate, next, allowed_of, arrived, noted}
use Rattle.theorems.proofs.Account.{Account, quiet, own, begins, other, same_account}
use Rattle.theorems.proofs.Cuts.{Timed, timed_le, From, from_start, until, since, arrived_two, rate_first, rate_rest, rate_head}
use Rattle.theorems.proofs.Holders.{clash, Named, absent_other}
use Rattle.theorems.proofs.Seated.{arrives, arrives-le, room_turn, arrived-le, seated_run, first_allowed, step_of, seats_none}
use Rattle.theorems.proofs.Seats.{Seats}
use Rattle.theorems.proofs.Turns.{Like, Turn, idle, stepped, of_used, rate_like, turn, on, on_run, no_one, begin}

-- one message more at a run's end
pub allowed_last : (matcher : Matcher) (m : MqttMonitor) (x : Id) (cs : List Call) (c : Call)
    → allowed_of matcher m x (cs ++ c ∷ []) ≡ allowed_of matcher m x cs + one (reaches matcher (after matcher m cs) x c && is_allowed matcher (after matcher m cs) c)
unfolding allowed_of after_by
allowed_last matcher m x [] c = omega arith
allowed_last matcher m x (d ∷ cs) c = let e = allowed_last matcher (answer matcher m d).monitor x cs c in omega arith

allowed_single : (matcher : Matcher) (m : MqttMonitor) (x : Id) (c : Call) → allowed_of matcher m x (c ∷ []) ≡ one (reaches matcher m x c && is_allowed matcher m c)
unfolding allowed_of
allowed_single matcher m x c = add-zero _

module _ (matcher : Matcher) (m₀ : MqttMonitor) (x : Id) (R : ℕ) where
  -- what is known after a run: the identity has not come, or one of its messages began the account
  data Story (done : List Call) (T : List RateBucket) (now : ℕ) : Type 0 where
    unseen : Absent x T → Story done T now
    told :
        (pre mid : List Call) (y : Call) → done ≡ pre ++ y ∷ mid → reaches matcher m₀ x y ≡ true
        → Account x R T now (R * time y + 1000000 * allowed_of matcher (after matcher m₀ pre) x (y ∷ mid)) → Story done T now

  -- what a call adds
  abbrev adds : List Call → Call → ℕ
  adds done c = one (reaches matcher (after matcher m₀ done) x c && is_allowed matcher (after matcher m₀ done) c)

  -- a message that begins an account
  anew : (done : List Call) {T : List RateBucket} {now : ℕ} (c : Call) → reaches matcher m₀ x c ≡ true → (n : ℕ) → adds done c ≡ n
      → Account x R T now (R * time c + 1000000 * n) → Story (done ++ c ∷ []) T now
  anew done c r n e v =
      told done [] c refl r
      (same_account (R * time c + 1000000 * n) (R * time c + 1000000 * allowed_of matcher (after matcher m₀ done) x (c ∷ []))
      (let q = allowed_single matcher (after matcher m₀ done) x c in omega arith) v)

  -- an account that goes on
  on_with : (done : List Call) {T : List RateBucket} {now : ℕ} (c : Call) (pre mid : List Call) (y : Call) → done ≡ pre ++ y ∷ mid → reaches matcher m₀ x y ≡ true
      → (n : ℕ) → adds done c ≡ n
      → Account x R T now (R * time y + 1000000 * allowed_of matcher (after matcher m₀ pre) x (y ∷ mid) + 1000000 * n) → Story (done ++ c ∷ []) T now
  on_with done c pre mid y e r n q v =
      let m : after matcher (after matcher m₀ pre) (y ∷ mid) ≡ after matcher m₀ done = sym (ap (after matcher m₀) e ∙ after_two (answer matcher) m₀ pre (y ∷ mid)) in
      let a : ℕ = allowed_of matcher (after matcher m₀ pre) x (y ∷ mid) in
      let b : ℕ = allowed_of matcher (after matcher m₀ pre) x (y ∷ (mid ++ c ∷ [])) in
      let z : b ≡ a + adds done c = rw m at (allowed_last matcher (after matcher m₀ pre) x (y ∷ mid) c) in
      told pre (mid ++ c ∷ []) y (ap (λ d. d ++ c ∷ []) e ∙ append_assoc pre (y ∷ mid) (c ∷ [])) r
      (same_account (R * time y + 1000000 * a + 1000000 * n) (R * time y + 1000000 * b) (omega arith) v)

  -- one call, by what it is to the limiter
  turns : (done : List Call) {T T' : List RateBucket} {l : List Id} {s rate : ℕ} {c : Call} {ok : Bool}
      → Named T → length T ≡ 32 → Seats T l → length (arrives rate c l) ≤ 32 → s ≤ time c
      → (ltb 0 rate && is_of x (id_of (used c)) ≡ true → (reaches matcher m₀ x c ≡ true) × (rate ≡ R))
      → adds done c ≡ one (ltb 0 rate && is_of x (id_of (used c)) && ok)
      → Story done T s → Turn T rate c T' ok → Story (done ++ c ∷ []) T' (time c)
  turns done n z f g h r q (unseen a) (idle e) = unseen a
  turns done {c = c} n z f g h r q (told pre mid y d w v) (idle e) =
      on_with done c pre mid y d w 0 (rw e at q) (same_account _ _ (omega arith) (quiet h v))
  turns done {rate = rate} {c = c} {ok = ok} n z f g h r q (unseen a) (stepped pos st) =
      let p = lt-ltb 0 rate pos in
      by (is_of x (id_of (used c)))
      (λ e.
      let b = r (rw p e) in
      let o : ok ≡ true = first_allowed n x (of_used c) e z f (rw p at g) a st in
      anew done c b.0 1 (rw (p, e, o) at q) (begins n x (of_used c) e (omega arith) a o (rw b.1 at st)))
      (λ e. unseen (absent_other n x (of_used c) e a st))
  turns done {rate = rate} {c = c} {ok = ok} n z f g h r q (told pre mid y d w v) (stepped pos st) =
      let p = lt-ltb 0 rate pos in
      by (is_of x (id_of (used c)))
      (λ e.
      let b = r (rw p e) in
      let k : adds done c ≡ one ok = rw (p, e) at q in
      ⊎_elim (λ a. on_with done c pre mid y d w (one ok) k a) (λ a. anew done c b.0 (one ok) k a) (own n x (of_used c) e (omega arith) h v (rw b.1 at st)).goes)
      (λ e. on_with done c pre mid y d w 0 (rw (p, e) at q) (same_account _ _ (omega arith) (other n x (of_used c) e h z f (rw p at g) v st)))

  module _ (done : List Call) (k : Like m₀ (after matcher m₀ done)) (c : Call) where
    adds_like : adds done c ≡ one (ltb 0 (rate_of matcher m₀ c) && is_of x (id_of (used c)) && is_allowed matcher (after matcher m₀ done) c)
    unfolding reaches
    adds_like = rw (rate_like matcher k c)

    one_more : {l : List Id} {s : ℕ} → s ≤ time c → (reaches matcher m₀ x c ≡ true → rate_of matcher m₀ c ≡ R) → Seats (after matcher m₀ done).rate_buckets l
        → length (arrives (rate_of matcher m₀ c) c l) ≤ 32 → Story done (after matcher m₀ done).rate_buckets s
        → Story (done ++ c ∷ []) (answer matcher (after matcher m₀ done) c).monitor.rate_buckets (time c)
    unfolding reaches
    one_more h r f g v = turns done k.named k.sound.buckets_sound.size f g h (λ e. (e, r e)) adds_like v (turn matcher k c)

  wait_story : {done : List Call} {T : List RateBucket} {s t : ℕ} → s ≤ t → Story done T s → Story done T t
  wait_story h (unseen a) = unseen a
  wait_story h (told pre mid y e r v) = told pre mid y e r (quiet h v)

  -- a run, after another
  goes_on : (done cs : List Call) {l : List Id} {s e : ℕ} → Like m₀ (after matcher m₀ done) → Timed s cs e → OneRate matcher m₀ x R cs
      → Seats (after matcher m₀ done).rate_buckets l → length (arrived matcher m₀ l cs) ≤ 32 → Story done (after matcher m₀ done).rate_buckets s
      → Story (done ++ cs) (after matcher m₀ (done ++ cs)).rate_buckets e
  unfolding arrived after_by
  goes_on done [] k h r f g v = rw (append-nil done) (wait_story h v)
  goes_on done (c ∷ cs) {l} k h (next q r) f g v =
      let w : after matcher m₀ (done ++ c ∷ []) ≡ (answer matcher (after matcher m₀ done) c).monitor = after_two (answer matcher) m₀ done (c ∷ []) in
      let fits = le_trans (arrived-le matcher m₀ cs (arrives (rate_of matcher m₀ c) c l)) g in
      let k' : Like m₀ (after matcher m₀ (done ++ c ∷ [])) = rw w (on matcher k c) in
      let f' : Seats (after matcher m₀ (done ++ c ∷ [])).rate_buckets (arrives (rate_of matcher m₀ c) c l) = rw w (room_turn k.sound.buckets_sound.size f fits (turn matcher k c)).seats in
      let v' : Story (done ++ c ∷ []) (after matcher m₀ (done ++ c ∷ [])).rate_buckets (time c) = rw w (one_more done k c h.0 q f fits v) in
      rw (append_assoc done (c ∷ []) cs) at (goes_on (done ++ c ∷ []) cs k' h.1 r f' g v')

  -- the last call, denied: its account leaves no room
  ends : {before : List Call} {T T' : List RateBucket} {l : List Id} {z : Call} {ok : Bool}
      → Named T → length T ≡ 32 → Seats T l → length (noted (id_of (used z)) l) ≤ 32 → is_of x (id_of (used z)) ≡ true → 0 < R → From 0 (before ++ z ∷ [])
      → Story before T (time z) → Step T (id_of (used z)) R (time z) T' ok → ok ≡ false
      → NoRoom (reaches matcher m₀ x) (λ earlier. allowed_of matcher (after matcher m₀ earlier) x) R before z
  ends {z = z} n len f g e pos o (unseen a) st d = clash (first_allowed n x (of_used z) e len f g a st) d
  ends {before = before} {z = z} n len f g e pos o (told pre mid y c r v) st d =
      let w : From 0 (pre ++ y ∷ (mid ++ z ∷ [])) = rw (append_assoc pre (y ∷ mid) (z ∷ [])) at (rw c at o) in
      let h : time y ≤ time z = timed_le mid (until z (time y) mid [] (since y 0 pre (mid ++ z ∷ []) w)) in
      let b = (own n x (of_used z) e pos (omega arith) v st).room d in
      record {
        earlier = pre;
        first = y;
        stretch = mid;
        cut = c;
        mine = r;
        passed = omega (arith, ap (λ (k : ℕ). R * k) (sub-add_cancel h));
      }

pub lower_exact : LowerExact
unfolding reaches arrived after_by
lower_exact matcher m p x R before z o h u rz d =
    let b = both (ltb 0 (rate_of matcher m z)) (is_of x (id_of (used z))) rz in
    let k = begin p in
    let kz = on_run matcher k before in
    let f = from_start (before ++ z ∷ []) o in
    let l = arrived matcher m [] before in
    let c : length (arrives (rate_of matcher m z) z l) ≤ 32 = rw arrived_two at h in
    let c1 : length l ≤ 32 = le_trans (arrives-le (rate_of matcher m z) z l) c in
    let s = seated_run matcher k before (seats_none p) c1 in
    let e : rate_of matcher m z ≡ R = rate_head (rate_rest before u) rz in
    let story = goes_on matcher m x R [] before k (until z 0 before [] f) (rate_first before (z ∷ []) u) (seats_none p) c1 (unseen (no_one p x)) in
    ends matcher m x R kz.named kz.sound.buckets_sound.size s (rw b.0 at c) b.1 (omega (arith, ltb-true 0 (rate_of matcher m z) b.0)) f story
    (rw e at (step_of b.0 (turn matcher kz z))) d
