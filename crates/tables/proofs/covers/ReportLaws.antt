-- What a number of the cover report says: k + 1 that the record at k is the first that passes the test, 0 that none does; and that the report has, at each place that counts, the number of the rules
-- before it. Assumes nothing.
use mathlib.Core.Bool.{Bool, true, false}
use mathlib.Core.List.{List, [], ◌∷◌, ◌++◌, append_assoc, append-nil}
use mathlib.Core.Path.{◌≡◌, refl, ◌∙◌}
use Prim.Native.Nat.{ℕ, zero, suc, ◌+◌, ◌-◌, ◌<◌, ◌≤◌}
use native.Mathlib.Omega.{arith}
use borrow.Author.Tests.{ltb-true, ltb-false}
use lib.Dec.{ltb}
use lib.ListN.{length, take, get_or, replicate, get_or-append}
use lib.Seq.{get_or-take, take-take, length-take-le}
use Rattle.laws.proofs.Cases.{by}
use Rattle.topics.specs.declared.matching.Matching.{Matching}
use Rattle.tables.specs.Covers.{rule_covers, first_number, covers_after, cover_report}
use Rattle.tables.specs.Rules.{no_rule}
use Rattle.tables.specs.Scan.{find}
use Rattle.tables.specs.declared.rules.TopicRule.{TopicRule}
use Rattle.tables.proofs.ScanLaws.{find-lt, find_before}
use Rattle.tables.proofs.covers.CoverLaws.{after_length}

module _ {A : Type 0} (p : A → Bool) (l : List A) (d : A) where
  pub number_first : (k : ℕ) → first_number p l ≡ suc k → (k < length l) × (p (get_or l k d) ≡ true) × ((j : ℕ) → j < k → p (get_or l j d) ≡ false)
  unfolding first_number
  number_first k e =
      by (ltb (find p l) (length l))
      (λ h.
      let lt = ltb-true (find p l) (length l) h in
      let s : find p l + 1 ≡ suc k = rw h at e in
      let at : find p l ≡ k = omega arith in
      (omega arith, rw (← at) (find-lt p l d lt), λ j g. find_before p l d j (omega arith)))
      (λ h. let z : 0 ≡ suc k = rw h at e in absurd (omega arith))

  pub number_zero : first_number p l ≡ 0 → (j : ℕ) → j < length l → p (get_or l j d) ≡ false
  unfolding first_number
  number_zero e j g =
      by (ltb (find p l) (length l))
      (λ h. let s : find p l + 1 ≡ 0 = rw h at e in absurd (omega arith))
      (λ h. find_before p l d j (omega (arith, ltb-false (find p l) (length l) h)))

-- a place of the report
after_at : (matching : Matching) (before l : List TopicRule) (i : ℕ) → i < length l
    → get_or (covers_after matching before l) i 0 ≡ first_number (rule_covers matching (get_or l i no_rule)) (before ++ take i l)
unfolding covers_after
after_at matching before [] i h = absurd (omega arith)
after_at matching before (r ∷ l) zero h = rw (append-nil before)
after_at matching before (r ∷ l) (suc i) h = after_at matching (before ++ (r ∷ [])) l i (omega arith) ∙ rw (append_assoc before (r ∷ []) (take i l))

-- nothing but zeros, and what is read past their end
zeros_at : (n i : ℕ) → get_or (replicate {A = ℕ} n 0) i 0 ≡ 0
zeros_at zero zero = refl
zeros_at zero (suc i) = refl
zeros_at (suc n) zero = refl
zeros_at (suc n) (suc i) = zeros_at n i

get_d_after : (a b : List ℕ) (i : ℕ) → length a ≤ i → get_or (a ++ b) i 0 ≡ get_or b (i - length a) 0
get_d_after [] b i h = let e : i - 0 ≡ i = omega arith in rw e
get_d_after (x ∷ a) b zero h = absurd (omega arith)
get_d_after (x ∷ a) b (suc i) h = let e : suc i - suc (length a) ≡ i - length a = omega arith in rw e (get_d_after a b i (omega arith))

module _ (matching : Matching) (rules : List TopicRule) (n : ℕ) (full : length rules ≡ 32) (most : n ≤ 32) where
  many : length (covers_after matching [] (take n rules)) ≡ n
  many = after_length matching [] (take n rules) ∙ length-take-le n rules (omega arith)

  pub report_at : (i : ℕ) → i < n → get_or (cover_report matching rules n) i 0 ≡ first_number (rule_covers matching (get_or rules i no_rule)) (take i rules)
  unfolding cover_report
  report_at i h =
      let k = many in
      let m = length-take-le n rules (omega arith) in
      get_or-append (covers_after matching [] (take n rules)) _ 0 i (omega arith)
      ∙ after_at matching [] (take n rules) i (omega arith)
      ∙ rw (get_or-take n rules i no_rule h, take-take i n rules (omega arith))

  pub report_past : (i : ℕ) → n ≤ i → get_or (cover_report matching rules n) i 0 ≡ 0
  unfolding cover_report
  report_past i h =
      let k = many in get_d_after (covers_after matching [] (take n rules)) (replicate (32 - n) 0) i (omega arith) ∙ zeros_at (32 - n) _
