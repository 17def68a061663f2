-- The rule table stays sound where rules move: one is removed and later ones move up, or two are exchanged. Each place up to the count has its rule from a place of
-- the old table, no two from one, so patterns stay different. Assumes nothing.
use mathlib.Core.Bool.{false}
use mathlib.Core.List.{List, ◌∷◌, ◌++◌}
use mathlib.Core.Path.{◌≡◌, refl, ap, ◌∙◌}
use Prim.Native.Nat.{ℕ, suc, ◌+◌, ◌-◌, ◌≤◌, ◌<◌}
use native.Mathlib.Omega.{arith}
use borrow.Author.Tests.{ltb-true, ltb-false, eqb-true, eqb-false}
use lib.Dec.{eqb, ltb}
use lib.ListN.{length, get_or, take, drop, set, replicate, length-append, length-take, length-drop, length-set, get_or-append}
use lib.Seq.{get_or-take, get_or-drop, get_or-append-add, get_or-set_same, get_or-set_other}
use Rattle.laws.proofs.Cases.{by}
use Rattle.slices.specs.Bytes.{same}
use Rattle.slices.proofs.bytes.SameLaws.{same_sym}
use Rattle.tables.specs.Rules.{pattern_of, empty_rule, no_rule}
use Rattle.tables.specs.declared.rules.TopicRule.{TopicRule}
use Rattle.monitor.specs.Calls.{without, exchanged}
use Rattle.monitor.proofs.SoundRules.{Ruled}

-- where the rule at a place of the new table `U` stood among the n of the old one: at a place that `R` allows
record Source (R : ℕ → ℕ → Type 0) (T : List TopicRule) (n : ℕ) (U : List TopicRule) (i : ℕ) : Type 0 where
  from : ℕ
  low : from < n
  allowed : R i from
  moved : get_or U i no_rule ≡ get_or T from no_rule

-- m rules of n, each from a place of its own, and none behind them
module _ {T : List TopicRule} {n : ℕ} (s : Ruled T n) (R : ℕ → ℕ → Type 0) (once : (i j k : ℕ) → R i k → R j k → i ≡ j) where
  module _ (U : List TopicRule) (m : ℕ) (low : m ≤ 32) (source : (i : ℕ) → i < m → Source R T n U i) (free : (i : ℕ) → m ≤ i → i < 32 → get_or U i no_rule ≡ empty_rule) where
    -- what is true of every rule of the old table and of an empty one
    kept : (P : TopicRule → Type 0) → ((i : ℕ) → i < 32 → P (get_or T i no_rule)) → P empty_rule → (i : ℕ) → i < 32 → P (get_or U i no_rule)
    kept P old empty i h =
        by (ltb i m)
        (λ e. let c = source i (ltb-true _ _ e) in let l = c.low in let k = s.count in rw c.moved (old c.from (omega arith)))
        (λ e. rw (free i (ltb-false _ _ e) h) empty)

    apart : (i j : ℕ) → i < j → j < m → same (pattern_of (get_or U i no_rule)) (pattern_of (get_or U j no_rule)) ≡ false
    apart i j h l =
        let a = source i (omega arith) in
        let b = source j l in
        rw (a.moved, b.moved)
        (by (ltb a.from b.from)
        (λ e. s.sound.apart a.from b.from (ltb-true _ _ e) b.low)
        (λ e.
        let r = a.allowed in
        let n : a.from ≡ b.from → ⊥ = λ q. absurd (let z = once i j b.from (rw q at r) b.allowed in omega arith) in
        rw (same_sym (pattern_of (get_or T a.from no_rule)) (pattern_of (get_or T b.from no_rule)))
        (s.sound.apart b.from a.from (omega (arith, ltb-false a.from b.from e)) a.low)))

    rearranged : length U ≡ 32 → Ruled U m
    rearranged size =
        record {
          sound =
              record {
                size = size;
                free = free;
                long = kept (λ r. length r.pattern ≡ 64) s.sound.long refl;
                rest = kept (λ r. drop r.pattern_len r.pattern ≡ replicate (64 - r.pattern_len) 0) s.sound.rest refl;
                apart = apart;
              };
          count = low;
          fine = λ i h. let c = source i h in rw c.moved (s.fine c.from c.low);
        }

-- past a list's end its second part begins
get_d_past : {A : Type 0} (xs ys : List A) (i : ℕ) (d : A) → length xs ≤ i → get_or (xs ++ ys) i d ≡ get_or ys (i - length xs) d
get_d_past xs ys i d h =
    let e : i ≡ length xs + (i - length xs) = omega arith in
    ap (λ (k : ℕ). get_or (xs ++ ys) k d) e ∙ get_or-append-add xs ys (i - length xs) d

-- where a rule stood before the one at a place was removed: in its own place, or one further on
data Up (gone : ℕ) (i k : ℕ) : Type 0 where
  before : i < gone → k ≡ i → Up gone i k
  behind : gone ≤ i → k ≡ i + 1 → Up gone i k

up_once : (gone i j k : ℕ) → Up gone i k → Up gone j k → i ≡ j
up_once gone i j k (before h e) (before l f) = omega arith
up_once gone i j k (before h e) (behind l f) = absurd (omega arith)
up_once gone i j k (behind h e) (before l f) = absurd (omega arith)
up_once gone i j k (behind h e) (behind l f) = omega arith

module _ {T : List TopicRule} {n : ℕ} (s : Ruled T n) (gone : ℕ) (h : gone < n) where
  -- the rules before it, and those after it
  abbrev front : List TopicRule
  front = take gone T

  abbrev moving : List TopicRule
  moving = take (n - 1 - gone) (drop (gone + 1) T)

  front-length : length front ≡ gone
  front-length = let z = s.sound.size in let c = s.count in omega (arith, length-take gone T)

  moving-length : length moving ≡ n - 1 - gone
  moving-length =
      let z = s.sound.size in
      let c = s.count in omega (arith, length-take (n - 1 - gone) (drop (gone + 1) T), length-drop (gone + 1) T)

  both_length : length (front ++ moving) ≡ n - 1
  both_length = let a = front-length in let b = moving-length in omega (arith, length-append front moving)

  -- among the rules that are left
  left_at : (i : ℕ) → i < n - 1 → get_or (without T gone n) i no_rule ≡ get_or (front ++ moving) i no_rule
  unfolding without
  left_at i l = let z = both_length in get_or-append (front ++ moving) (empty_rule ∷ drop n T) no_rule i (omega arith)

  source : (i : ℕ) → i < n - 1 → Source (Up gone) T n (without T gone n) i
  source i l =
      let a = front-length in
      by (ltb i gone)
      (λ e.
      let b : i < gone = ltb-true _ _ e in
      record {
        from = i;
        low = omega arith;
        allowed = before b refl;
        moved = left_at i l ∙ get_or-append front moving no_rule i (omega arith) ∙ get_or-take gone T i no_rule b;
      })
      (λ e.
      let b : gone ≤ i = ltb-false _ _ e in
      let k : gone + 1 + (i - length front) ≡ i + 1 = omega arith in
      record {
        from = i + 1;
        low = omega arith;
        allowed = behind b refl;
        moved =
            left_at i l ∙ get_d_past front moving i no_rule (omega arith)
            ∙ get_or-take (n - 1 - gone) (drop (gone + 1) T) (i - length front) no_rule (omega arith)
            ∙ get_or-drop (gone + 1) T (i - length front) no_rule
            ∙ ap (λ (k : ℕ). get_or T k no_rule) k;
      })

  free : (i : ℕ) → n - 1 ≤ i → i < 32 → get_or (without T gone n) i no_rule ≡ empty_rule
  unfolding without
  free i l b =
      let z = both_length in
      get_d_past (front ++ moving) (empty_rule ∷ drop n T) i no_rule (omega arith)
      ∙ by (eqb i (n - 1))
      (λ e. let k : i - length (front ++ moving) ≡ 0 = (let q = eqb-true i (n - 1) e in omega arith) in rw k)
      (λ e.
      let q = eqb-false i (n - 1) e in
      let k : i - length (front ++ moving) ≡ suc (i - n) = omega arith in
      let r : n + (i - n) ≡ i = omega arith in
      rw k (get_or-drop n T (i - n) no_rule ∙ (rw r (s.sound.free i (omega arith) b))))

  -- a rule removed
  pub rule_removed : Ruled (without T gone n) (n - 1)
  unfolding without
  rule_removed =
      let z = s.sound.size in
      let c = s.count in
      let b = both_length in
      rearranged s (Up gone) (up_once gone) (without T gone n) (n - 1) (omega arith) source free
      (omega (arith, length-append (front ++ moving) (empty_rule ∷ drop n T), length-drop n T))

-- where a rule stood before those at two places were exchanged
data Across (a b : ℕ) (i k : ℕ) : Type 0 where
  first : i ≡ a → k ≡ b → Across a b i k
  second : i ≡ b → k ≡ a → Across a b i k
  other : (i ≡ a → ⊥) → (i ≡ b → ⊥) → k ≡ i → Across a b i k

across_once : (a b i j k : ℕ) → Across a b i k → Across a b j k → i ≡ j
across_once a b i j k (first p e) (first q f) = omega arith
across_once a b i j k (first p e) (second q f) = omega arith
across_once a b i j k (first p e) (other q r f) = absurd (omega arith)
across_once a b i j k (second p e) (first q f) = omega arith
across_once a b i j k (second p e) (second q f) = omega arith
across_once a b i j k (second p e) (other q r f) = absurd (omega arith)
across_once a b i j k (other p u e) (first q f) = absurd (omega arith)
across_once a b i j k (other p u e) (second q f) = absurd (omega arith)
across_once a b i j k (other p u e) (other q r f) = omega arith

-- two rules exchanged
module _ {T : List TopicRule} {n : ℕ} (s : Ruled T n) (a b : ℕ) (ha : a < n) (hb : b < n) where
  -- the table with the one stored
  abbrev half : List TopicRule
  half = set T a (get_or T b no_rule)

  -- at neither place
  aside : (i : ℕ) → (i ≡ a → ⊥) → (i ≡ b → ⊥) → get_or (exchanged T a b) i no_rule ≡ get_or T i no_rule
  aside i p q = get_or-set_other half b i (get_or T a no_rule) no_rule q ∙ get_or-set_other T a i (get_or T b no_rule) no_rule p

  crossed : (i : ℕ) → i < n → Source (Across a b) T n (exchanged T a b) i
  crossed i h =
      let z = s.sound.size in
      let c = s.count in
      by (eqb i b)
      (λ e.
      let q : i ≡ b = eqb-true i b e in
      record {
        from = a;
        low = ha;
        allowed = second q refl;
        moved = rw q (get_or-set_same half b (get_or T a no_rule) no_rule (omega (arith, length-set T a (get_or T b no_rule))));
      })
      (λ e.
      let q : i ≡ b → ⊥ = eqb-false i b e in
      by (eqb i a)
      (λ f.
      let p : i ≡ a = eqb-true i a f in
      record {
        from = b;
        low = hb;
        allowed = first p refl;
        moved = get_or-set_other half b i (get_or T a no_rule) no_rule q ∙ (rw p (get_or-set_same T a (get_or T b no_rule) no_rule (omega arith)));
      })
      (λ f. let p : i ≡ a → ⊥ = eqb-false i a f in record { from = i; low = h; allowed = other p q refl; moved = aside i p q }))

  pub rules_exchanged : Ruled (exchanged T a b) n
  rules_exchanged =
      rearranged s (Across a b) (across_once a b) (exchanged T a b) n s.count crossed
      (λ i l h. aside i (omega arith) (omega arith) ∙ s.sound.free i l h)
      (length-set half b (get_or T a no_rule) ∙ length-set T a (get_or T b no_rule) ∙ s.sound.size)
