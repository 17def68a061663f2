-- The lower half's invariant, and that a message keeps it. While no more than 32 identities have come, each is still in the table and the places from their number on are
-- free (`Seats`): so a newcomer finds a free place, and no one is replaced. Assumes nothing.
use mathlib.Core.Bool.{Bool, true, false}
use mathlib.Core.List.{List, [], ◌∷◌, ◌++◌}
use mathlib.Core.Logic.{◌⊎◌, inl, inr, ⊎_elim}
use mathlib.Core.Path.{◌≡◌, refl, sym, ap, ◌∙◌}
use Prim.Native.Nat.{ℕ, ◌+◌, ◌<◌, ◌≤◌}
use native.Mathlib.Omega.{arith}
use borrow.Author.Tests.{eqb-true, eqb-false, ltb-true, ltb-false}
use lib.Dec.{eqb, ltb}
use lib.ListN.{length, set, length-append}
use lib.Seq.{get_or-set_same, get_or-set_other}
use Rattle.laws.proofs.Tests.{fails}
use Rattle.laws.proofs.Cases.{by}
use Rattle.laws.proofs.Lists.{each}
use Rattle.tables.specs.Buckets.{no_bucket, holds_bucket, spend, made}
use Rattle.tables.specs.Identity.{is_of}
use Rattle.tables.specs.declared.identity.Id.{Id}
use Rattle.tables.specs.declared.buckets.RateBucket.{RateBucket}
use Rattle.tables.proofs.identity.IdentityLaws.{OfTopic, of_true, is_of_refl}
use Rattle.tables.proofs.buckets.StepLaws.{bucket_at, Absent, Seat, free, worn, first, Step, hit, put}
use Rattle.theorems.specs.Run.{is_among, noted}
use Rattle.theorems.proofs.Holders.{clash, same_holder, held_live, no_holder, made_holder}

-- an identity is in a table
abbrev pub Present : Id → List RateBucket → Type 0
Present x T = Absent x T → ⊥

-- the identities of a list are in the table, and the places from its length on are free
pub record Seats (T : List RateBucket) (l : List Id) : Type 0 where
  pub there : (z : Id) → OfTopic z → is_among z l ≡ true → Present z T
  pub vacant : (j : ℕ) → length l ≤ j → (bucket_at T j).active ≡ false

-- whoever was in the table is in it still
pub record Stays (T T' : List RateBucket) : Type 0 where
  pub stays : (z : Id) → Absent z T' → Absent z T

-- who is among a list with one more
among_more : (z y : Id) (l : List Id) → is_among z (l ++ (y ∷ [])) ≡ true → (is_among z l ≡ true) ⊎ (is_of z y ≡ true)
unfolding is_among
among_more z y [] h = by (is_of z y) (λ e. inr e) (λ e. clash h (rw e))
among_more z y (w ∷ l) h = by (is_of z w) (λ e. inl (rw e)) (λ e. ⊎_elim (λ r. inl (rw e r)) inr (among_more z y l (rw e at h)))

-- one identity more is noted only if it is new
pub noted-le : (y : Id) (l : List Id) → length l ≤ length (noted y l)
noted-le y l = by (is_among y l) (λ e. rw e (omega arith)) (λ e. rw (e, length-append l (y ∷ [])) (omega arith))

-- a store that takes no one's place
module _ (T : List RateBucket) (i : ℕ) (c : RateBucket) (l : i < length T) where
  unset : ((z : Id) → holds_bucket z c ≡ false → holds_bucket z (bucket_at T i) ≡ false) → Stays T (set T i c)
  unset f =
      record {
        stays =
            λ z a.
            record {
              none =
                  λ j. by (eqb j i)
                  (λ e. let k : j ≡ i = eqb-true j i e in rw k (f z (ap (holds_bucket z) (sym (get_or-set_same T i c no_bucket l)) ∙ a.none i)))
                  (λ e. ap (holds_bucket z) (sym (get_or-set_other T i j c no_bucket (eqb-false j i e))) ∙ a.none j);
            };
      }

  -- it makes its identity present
  stored_present : (z : Id) → holds_bucket z c ≡ true → Present z (set T i c)
  stored_present z h a = clash h (ap (holds_bucket z) (sym (get_or-set_same T i c no_bucket l)) ∙ a.none i)

-- who was among those noted is present, with one identity more that is
learns : {T T' : List RateBucket} {l : List Id} {y : Id} → OfTopic y → Stays T T' → Present y T' → Seats T l
    → (z : Id) → OfTopic z → is_among z (noted y l) ≡ true → Present z T'
learns {T} {T'} {l} {y} o s p f z q h a =
    by (is_among y l)
    (λ e. f.there z q (rw e at h) (s.stays z a))
    (λ e. ⊎_elim (λ r. f.there z q r (s.stays z a)) (λ r. p (rw (of_true q o r) at a)) (among_more z y l (rw e at h)))

-- a newcomer's seat while a place is free: it is the first free one, and the message is allowed
pub record FreeSeat (T : List RateBucket) (l : List Id) (i : ℕ) (ok : Bool) : Type 0 where
  pub allowed : ok ≡ true
  pub empty : (bucket_at T i).active ≡ false
  pub low : i ≤ length l

pub free_seat : {T : List RateBucket} {l : List Id} {t i : ℕ} {ok : Bool} → Seats T l → length l < length T → Seat T t i ok → FreeSeat T l i ok
free_seat {l = l} {i = i} s h (free e before) =
    record {
      allowed = refl;
      empty = e;
      low = by (ltb (length l) i) (λ g. clash (before (length l) (ltb-true _ _ g)) (s.vacant (length l) (omega arith))) (λ g. ltb-false _ _ g);
    }
free_seat {l = l} s h (worn live least e) = clash (live (length l) h) (s.vacant (length l) (omega arith))

-- who is absent was not noted, so that there is room for one more
pub newcomer_room : {T : List RateBucket} {l : List Id} {y : Id} → Seats T l → OfTopic y → Absent y T → length (noted y l) ≡ length l + 1
newcomer_room {l = l} {y = y} s o a = rw (fails (is_among y l) (λ e. s.there y o e a), length-append l (y ∷ []))

-- one message
pub record Room (T T' : List RateBucket) (l : List Id) : Type 0 where
  pub seats : Seats T' l
  pub still : Stays T T'

pub room : {T : List RateBucket} {l : List Id} {y : Id} {rate t : ℕ} {ok : Bool} {T' : List RateBucket}
    → length T ≡ 32 → OfTopic y → Seats T l → length (noted y l) ≤ 32 → Step T y rate t T' ok → Room T T' (noted y l)
room {T} {l = l} {y = y} {t = t} n o s h (hit i q w) =
    let c : RateBucket = (spend (bucket_at T i) t).bucket in
    let k : Stays T (set T i c) = unset T i c q (λ z e. sym (same_holder z (bucket_at T i) t) ∙ e) in
    let m = noted-le y l in
    record {
      seats =
          record {
            there = learns o k (stored_present T i c q y (same_holder y (bucket_at T i) t ∙ w)) s;
            vacant =
                each no_bucket T i c q (λ j d. length (noted y l) ≤ j → d.active ≡ false)
                (λ g. clash (held_live y (bucket_at T i) w) (s.vacant i (omega arith))) (λ j _ g. s.vacant j (omega arith));
          };
      still = k;
    }
room {T} {l = l} {y = y} {rate} {t} n o s h (put i ok q a seat) =
    let c : RateBucket = made y rate (first ok rate) t in
    let m = newcomer_room s o a in
    let f = free_seat s (omega arith) seat in
    let k : Stays T (set T i c) = unset T i c q (λ z _. no_holder z (bucket_at T i) f.empty) in
    record {
      seats =
          record {
            there = learns o k (stored_present T i c q y (made_holder y y rate (first ok rate) t ∙ is_of_refl y)) s;
            vacant = each no_bucket T i c q (λ j d. length (noted y l) ≤ j → d.active ≡ false) (λ g. absurd (omega (arith, f.low))) (λ j _ g. s.vacant j (omega arith));
          };
      still = k;
    }
