-- Laws of `pattern_refusal`: what the number is test by test, in document 01's order, and what upper crates may take from an accepted pattern.
-- Assumes nothing.
use Rattle.std.specs.Prelude.{Result}
use Rattle.std.proofs.Common.{rules, ◌≡◌, ℕ, ◌<◌, ◌≤◌, Bool, true, false, cond, not, ◌||◌, ltb, List, [], ◌∷◌, length, sym, refl, arith, ltb-false, le-ltb, lt-ltb}
use borrow.Author.Tests.{not-false}
use Rattle.laws.specs.Lists.{none}
use Rattle.laws.specs.Refusals.{refusal}
use Rattle.laws.proofs.Refusals.{refusal_once}
use Rattle.laws.proofs.Cases.{whichever}
use Rattle.laws.proofs.Tests.{never, neither}
use Rattle.slices.specs.Bytes.{has, count_of}
use Rattle.topics.specs.Encoding.{Sendable}
use Rattle.topics.specs.Levels.{levels}
use Rattle.topics.specs.Patterns.{well_placed, valid_wildcards, pattern_refusal, pattern_number}
use Rattle.topics.specs.Utf8.{is_utf8}
use Rattle.topics.specs.declared.patterns.PatternRefusal.{PatternRefusal}
use Rattle.topics.specs.declared.patterns.PatternRefusal.TheVariants.{BadPattern, NotUtf8}
use Rattle.topics.proofs.utf8.Decoded.{sendable}

-- an empty pattern
pub refused_empty : (p : List ℕ) → length p ≡ 0 → pattern_refusal p ≡ 9
unfolding pattern_refusal
refused_empty [] e = refl
refused_empty (c ∷ p) e = absurd (omega arith)

-- a list with an element is not empty
pub some_none : (p : List ℕ) → 1 ≤ length p → none p ≡ false
some_none [] l = absurd (omega arith)
some_none (c ∷ p) l = refl

module _ (p : List ℕ) (some : 1 ≤ length p) where
  -- of a pattern that is not empty the wildcard test asks the placing alone
  valid_placed : valid_wildcards p ≡ well_placed (levels p)
  unfolding valid_wildcards
  valid_placed = rw (some_none p some)

  -- more than 64 bytes
  pub refused_long : 64 < length p → pattern_refusal p ≡ 9
  unfolding pattern_refusal
  refused_long l = rw (some_none p some, lt-ltb _ _ l)

  module _ (short : length p ≤ 64) where
    -- a zero byte
    pub refused_zero : has 0 p ≡ true → pattern_refusal p ≡ 9
    unfolding pattern_refusal
    refused_zero z = rw (some_none p some, le-ltb _ _ short, z)

    module _ (clear : has 0 p ≡ false) where
      -- no UTF-8
      pub refused_broken : is_utf8 p ≡ false → pattern_refusal p ≡ 36
      unfolding pattern_refusal
      refused_broken u = rw (some_none p some, le-ltb _ _ short, clear, u)

      -- more than three `+`
      pub refused_plus : is_utf8 p ≡ true → 3 < count_of 43 p → pattern_refusal p ≡ 9
      unfolding pattern_refusal
      refused_plus u k = rw (some_none p some, le-ltb _ _ short, clear, u, lt-ltb _ _ k)

      -- else the wildcard test decides
      pub refused_valid : is_utf8 p ≡ true → count_of 43 p ≤ 3 → pattern_refusal p ≡ cond (not (valid_wildcards p)) 9 0
      unfolding pattern_refusal
      refused_valid u k = rw (some_none p some, le-ltb _ _ short, clear, u, le-ltb _ _ k, valid_placed)

-- what an accepted pattern is
pub record Accepted (p : List ℕ) : Type 0 where
  pub some : 1 ≤ length p
  pub short : length p ≤ 64
  pub no_zero : has 0 p ≡ false
  pub utf8 : is_utf8 p ≡ true
  pub few_plus : count_of 43 p ≤ 3
  pub well_placed_lem : well_placed (levels p) ≡ true

-- a guard that does not refuse with its number
past : (t : Bool) (k a : ℕ) → 1 ≤ k → cond t k a ≡ 0 → (t ≡ false) × (a ≡ 0)
past true k a h e = absurd (omega arith)
past false k a h e = (refl, e)

-- a list that is not empty has an element
pub none_some : (p : List ℕ) → none p ≡ false → 1 ≤ length p
none_some [] e = never (sym e)
none_some (c ∷ p) e = omega arith

-- 0 is handed back for these patterns
accepted : (p : List ℕ) → pattern_refusal p ≡ 0 → Accepted p
unfolding pattern_refusal
accepted p e =
    let placed : ℕ = cond (not (well_placed (levels p))) 9 0 in
    let few : ℕ = cond (ltb 3 (count_of 43 p)) 9 placed in
    let coded : ℕ = cond (not (is_utf8 p)) 36 few in
    let a = past (none p || ltb 64 (length p)) 9 (cond (has 0 p) 9 coded) (omega arith) e in
    let l = neither (none p) (ltb 64 (length p)) a.0 in
    let b = past (has 0 p) 9 coded (omega arith) a.1 in
    let u = past (not (is_utf8 p)) 36 few (omega arith) b.1 in
    let k = past (ltb 3 (count_of 43 p)) 9 placed (omega arith) u.1 in
    record {
      some = none_some p l.0;
      short = ltb-false 64 (length p) l.1;
      no_zero = b.0;
      utf8 = not-false _ u.0;
      few_plus = ltb-false 3 (count_of 43 p) k.0;
      well_placed_lem = not-false _ (past (not (well_placed (levels p))) 9 0 (omega arith) k.1).0;
    }

-- an accepted pattern has 1 to 64 bytes
pub accepted_length : (p : List ℕ) → pattern_refusal p ≡ 0 → (1 ≤ length p) × (length p ≤ 64)
accepted_length p e = ((accepted p e).some, (accepted p e).short)

-- an accepted pattern's wildcards are well placed
pub accepted_placed : (p : List ℕ) → pattern_refusal p ≡ 0 → well_placed (levels p) ≡ true
accepted_placed p e = (accepted p e).well_placed_lem

-- an accepted pattern has no zero byte
pub accepted_zero : (p : List ℕ) → pattern_refusal p ≡ 0 → has 0 p ≡ false
accepted_zero p e = (accepted p e).no_zero

-- an accepted pattern is a string that a client may send
pub accepted_sendable : (p : List ℕ) → pattern_refusal p ≡ 0 → Sendable p
accepted_sendable p e = sendable p (accepted p e).utf8 (accepted p e).no_zero

-- the number is 0, 9 or 36: what holds of these holds of it
pub refusal_number : (P : ℕ → Type 0) (p : List ℕ) → P 0 → P 9 → P 36 → P (pattern_refusal p)
unfolding pattern_refusal
refusal_number P p taken bad broken =
    whichever P (none p || ltb 64 (length p)) bad
    (whichever P (has 0 p) bad
    (whichever P (not (is_utf8 p)) broken
    (whichever P (ltb 3 (count_of 43 p)) bad
    (whichever P (not (well_placed (levels p))) bad taken))))

-- the number of a test's answer tells the whole answer
pub check_once : (r s : Result Unit PatternRefusal) → refusal pattern_number r ≡ refusal pattern_number s → r ≡ s
check_once = refusal_once pattern_number once real
  where
    once : (e f : PatternRefusal) → pattern_number e ≡ pattern_number f → e ≡ f
    once BadPattern BadPattern p = refl
    once BadPattern NotUtf8 p = absurd (omega (arith, p))
    once NotUtf8 BadPattern p = absurd (omega (arith, p))
    once NotUtf8 NotUtf8 p = refl

    real : (e : PatternRefusal) → 1 ≤ pattern_number e
    real BadPattern = omega arith
    real NotUtf8 = omega arith
