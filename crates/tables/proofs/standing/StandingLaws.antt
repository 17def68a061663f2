-- What a look ahead answers of a held identity, and the live buckets of a table: how many there are, and the oldest. Assumes nothing.
use mathlib.Core.Bool.{Bool, true, false, cond}
use mathlib.Core.List.{List, ◌∷◌}
use mathlib.Core.Path.{◌≡◌, refl, ap, ◌∙◌}
use Prim.Native.Nat.{ℕ, suc, ◌-◌, ◌<◌, ◌≤◌}
use native.Mathlib.Omega.{arith}
use borrow.Author.Tests.{lt-ltb, le-leb, lt-leb}
use lib.ListN.{length, get_or, drop, drop_of_length-le}
use lib.Seq.{drop-cons}
use Rattle.std.specs.Prelude.{Option, Some, None}
use Rattle.std.specs.List.{count_by}
use Rattle.std.proofs.lemmas.List.Recursion.{is_count_by}
use Rattle.laws.proofs.Cases.{by}
use Rattle.tables.specs.Buckets.{no_bucket, holds_bucket}
use Rattle.tables.specs.Scan.{find, placed, absent, least, in_front, skipped, least_of}
use Rattle.tables.specs.Standing.{opening_of, prospect_in, taken_in, oldest_live}
use Rattle.tables.specs.declared.identity.Id.{Id}
use Rattle.tables.specs.declared.buckets.RateBucket.{RateBucket}
use Rattle.tables.proofs.buckets.PlaceLaws.{time_of}

-- an identity that is held at a place
pub prospect_held : (bs : List RateBucket) (id : Id) {i : ℕ} → i ≡ find (holds_bucket id) bs → i < length bs
    → prospect_in bs id ≡ record { held = true; opening = opening_of (get_or bs i no_bucket) }
unfolding prospect_in
prospect_held bs id place h = let g : find (holds_bucket id) bs < length bs = omega arith in rw (lt-ltb _ _ g, ← place)

-- the live buckets, counted by a chain
pub taken_by : (bs : List RateBucket) → taken_in bs ≡ count_by (λ b. b.active) bs
unfolding taken_in
taken_by = is_count_by taken_in (λ b. b.active) refl (λ b bs. by b.active (λ e. rw e (omega arith)) (λ e. rw e refl))

abbrev is_live : RateBucket → Bool
is_live b = b.active

-- the latest time of 64 bits
abbrev last : ℕ
last = 18446744073709551615

-- a loop that counts down from the end of a table of 32: the first place of the least time among the live buckets from `i` on, and that time, if one is live
pub data LiveFrom (bs : List RateBucket) : Option ℕ → ℕ → ℕ → Type 0 where
  none : {i : ℕ} → least_of time_of is_live (drop i bs) ≡ absent → LiveFrom bs None last i
  some : {at time i : ℕ} → i ≤ at → at < 32 → least_of time_of is_live (drop i bs) ≡ least (at - i) time → LiveFrom bs (Some at) time i

module _ (bs : List RateBucket) (all : length bs ≡ 32) where
  pub live_start : LiveFrom bs None last 32
  unfolding least_of
  live_start = none (rw (drop_of_length-le bs {i = 32} (omega arith)))

  module _ (i : ℕ) (z : 0 < i) (h : i ≤ 32) where
    abbrev here : RateBucket
    here = get_or bs (i - 1) no_bucket

    one_more : least_of time_of is_live (drop (i - 1) bs) ≡ cond (is_live here) (in_front (time_of here) (least_of time_of is_live (drop i bs))) (skipped (least_of time_of is_live (drop i bs)))
    unfolding least_of
    one_more =
        let s : suc (i - 1) ≡ i = omega arith in
        rw (drop-cons bs (i - 1) no_bucket (omega arith) ∙ ap (λ (k : ℕ). here ∷ drop k bs) s)

    -- a live bucket that is no younger takes the place
    pub live_wins : {o : Option ℕ} {time : ℕ} → LiveFrom bs o time i → here.active ≡ true → time_of here ≤ time → LiveFrom bs (Some (i - 1)) (time_of here) (i - 1)
    live_wins (none a) l w =
        let o : i - 1 - (i - 1) ≡ 0 = omega arith in
        some (omega arith) (omega arith) (rw (one_more, l, a, o))
    live_wins (some f g a) l w =
        let o : i - 1 - (i - 1) ≡ 0 = omega arith in
        some (omega arith) (omega arith) (rw (one_more, l, a, le-leb _ _ w, o))

    -- else the one found behind it stays
    pub live_dead : {o : Option ℕ} {time : ℕ} → LiveFrom bs o time i → here.active ≡ false → LiveFrom bs o time (i - 1)
    live_dead (none a) d = none (rw (one_more, d, a))
    live_dead (some {at} f g a) d =
        let o : at - (i - 1) ≡ suc (at - i) = omega arith in
        some (omega arith) g (rw (one_more, d, a, o))

    pub live_younger : {o : Option ℕ} {time : ℕ} → LiveFrom bs o time i → here.active ≡ true → time < time_of here → time_of here ≤ last → LiveFrom bs o time (i - 1)
    live_younger (none a) l w m = absurd (omega arith)
    live_younger (some {at} f g a) l w m =
        let o : at - (i - 1) ≡ suc (at - i) = omega arith in
        some (omega arith) g (rw (one_more, l, a, lt-leb _ _ w, o))

  pub live_done : {o : Option ℕ} {time i : ℕ} → LiveFrom bs o time i → i ≤ 0 → o ≡ placed 32 (oldest_live bs)
  unfolding oldest_live
  live_done {i} (none a) z =
      let o : i ≡ 0 = omega arith in
      let b : least_of time_of is_live (drop 0 bs) ≡ absent = rw o at a in
      rw (b, all)
  live_done {i} (some {at} {time} f l a) z =
      let o : i ≡ 0 = omega arith in
      let b : least_of time_of is_live (drop 0 bs) ≡ least (at - 0) time = rw o at a in
      let e : at - 0 ≡ at = omega arith in
      rw (b, e, lt-ltb _ _ l)
