-- The byte matcher at what is left of a topic and a pattern at an index each: one law for each way through the loop of `walk`, with the branches' facts as premises.
-- Assumes nothing.
use Rattle.std.proofs.Common.{◌≡◌, ℕ, ◌+◌, ◌<◌, ◌≤◌, min, Bool, true, false, eqb, List, [], ◌∷◌, length, get_or, drop, sym, refl, arith, drop_of_length-le}
use Rattle.std.proofs.Common.{drop-drop, eq-eqb, ne_eqb}
use Rattle.laws.proofs.Cases.{by}
use Rattle.slices.specs.Bytes.{to_byte, find_byte}
use Rattle.slices.proofs.bytes.WalkLaws.{opened}
use Rattle.topics.specs.Matching.{from_slash, takes_none, takes_end, match_bytes}

-- at the end of a list each definition knows its answer
pub end_end : (f : Bool) (p : List ℕ) (j : ℕ) → length p ≤ j → takes_none (drop j p) ≡ takes_end f (drop j p)
unfolding takes_none takes_end
end_end f p j l = rw (drop_of_length-le p l)

pub match_end : (f : Bool) (t p : List ℕ) (i : ℕ) → length t ≤ i → match_bytes f (drop i t) p ≡ takes_end f p
unfolding match_bytes takes_end
match_end f t [] i l = rw (drop_of_length-le t l)
match_end f t (c ∷ p) i l = rw (drop_of_length-le t l)

-- the bytes from the first slash on are those from its place on
slash_to : (l : List ℕ) → drop (to_byte 47 l) l ≡ from_slash l
unfolding from_slash to_byte
slash_to [] = refl
slash_to (c ∷ l) = by (eqb c 47) (λ e. rw (e, from_slash, to_byte)) (λ e. rw (e, from_slash, to_byte) (slash_to l))

pub slash_found : (s : List ℕ) (i : ℕ) {r : ℕ} → i ≤ length s → r ≡ find_byte 47 s i → drop r s ≡ from_slash (drop i s)
unfolding find_byte
slash_found s i h e =
    let k : min i (length s) ≡ i = omega arith in
    rw (e, k, ← slash_to (drop i s)) (sym (drop-drop (to_byte 47 (drop i s)) i s))

-- topic and pattern
module _ (f : Bool) (t p : List ℕ) (i j : ℕ) (lt : i < length t) where
  pub match_over : length p ≤ j → match_bytes f (drop i t) (drop j p) ≡ false
  unfolding match_bytes
  match_over l = rw (opened t i lt, drop_of_length-le p l)

  module _ (lp : j < length p) where
    pub match_hash : get_or p j 0 ≡ 35 → match_bytes f (drop i t) (drop j p) ≡ true
    unfolding match_bytes
    match_hash e = rw (opened t i lt, opened p j lp, eq-eqb _ _ e, match_bytes)

    module _ (h : get_or p j 0 ≡ 35 → ⊥) where
      pub match_plus : (k : ℕ) → get_or p j 0 ≡ 43 → drop k t ≡ from_slash (drop i t) → match_bytes f (drop i t) (drop j p) ≡ match_bytes f (drop k t) (drop (j + 1) p)
      unfolding match_bytes
      match_plus k e r = rw (r, opened t i lt, opened p j lp, ne_eqb _ _ h, eq-eqb _ _ e, match_bytes)

      module _ (q : get_or p j 0 ≡ 43 → ⊥) where
        pub match_not : (get_or p j 0 ≡ get_or t i 0 → ⊥) → match_bytes f (drop i t) (drop j p) ≡ false
        unfolding match_bytes
        match_not e = rw (opened t i lt, opened p j lp, ne_eqb _ _ h, ne_eqb _ _ q, ne_eqb _ _ e, match_bytes)

        pub match_byte : get_or p j 0 ≡ get_or t i 0 → match_bytes f (drop i t) (drop j p) ≡ match_bytes f (drop (i + 1) t) (drop (j + 1) p)
        unfolding match_bytes
        match_byte e = rw (opened t i lt, opened p j lp, ne_eqb _ _ h, ne_eqb _ _ q, eq-eqb _ _ e, match_bytes)
