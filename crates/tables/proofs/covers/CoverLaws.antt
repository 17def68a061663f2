-- The number of a place that was found, and what is left to write of the cover report at one place. Assumes nothing.
use mathlib.Core.Bool.{Bool}
use mathlib.Core.List.{List, [], ◌∷◌, ◌++◌}
use mathlib.Core.Path.{◌≡◌, refl, sym, ◌∙◌, ap}
use Prim.Native.Nat.{ℕ, suc, ◌+◌, ◌-◌, ◌<◌, ◌≤◌, min}
use native.Mathlib.Numerals.{add-one}
use native.Mathlib.Omega.{arith}
use lib.Dec.{ltb}
use lib.ListN.{length, take, drop, get_or, set, replicate, length-take, drop_of_length-le}
use lib.Seq.{sets, sets-eq, drop-cons, get_or-take, take-suc}
use Rattle.std.specs.Prelude.{Option, Some, None}
use Rattle.std.specs.List.{position}
use Rattle.laws.proofs.Cases.{by}
use Rattle.laws.proofs.Lists.{drop-replicate}
use Rattle.topics.specs.declared.matching.Matching.{Matching}
use Rattle.tables.specs.Covers.{rule_covers, first_number, covers_after, cover_report}
use Rattle.tables.specs.Rules.{no_rule}
use Rattle.tables.specs.Scan.{find, placed}
use Rattle.tables.specs.declared.rules.TopicRule.{TopicRule}
use Rattle.tables.proofs.ScanLaws.{place_found}

-- the number of a place that was found, or that none was
module _ {A : Type 0} (p : A → Bool) (l : List A) {r : Option ℕ} (found : r ≡ position p l) where
  pub number_some : {at : ℕ} → r ≡ Some at → at + 1 ≡ first_number p l
  unfolding first_number
  number_some {at} e =
      let t : placed (length l) (find p l) ≡ Some at = sym (place_found p l found refl) ∙ e in
      by (ltb (find p l) (length l))
      (λ h. let u : Some (find p l) ≡ Some at = rw h at t in let v : find p l ≡ at = cc in rw h (omega arith))
      (λ h. let u : None ≡ Some at = rw h at t in cc)

  pub number_none : r ≡ None → 0 ≡ first_number p l
  unfolding first_number
  number_none e =
      let t : placed (length l) (find p l) ≡ None = sym (place_found p l found refl) ∙ e in
      by (ltb (find p l) (length l)) (λ h. let u : Some (find p l) ≡ None = rw h at t in cc) (λ h. rw h refl)

-- how many rules are reported on
pub after_length : (matching : Matching) (before l : List TopicRule) → length (covers_after matching before l) ≡ length l
unfolding covers_after
after_length matching before [] = refl
after_length matching before (r ∷ l) = ap suc (after_length matching (before ++ (r ∷ [])) l)

-- what is left to write of the report, at the rule `at`
pub record Left (matching : Matching) (rules : List TopicRule) (count at : ℕ) (d : List ℕ) : Type 0 where
  pub numbers : sets d at (covers_after matching (take at rules) (drop at (take count rules))) ≡ cover_report matching rules count

module _ {matching : Matching} (rules : List TopicRule) (count : ℕ) (full : length rules ≡ 32) where
  pub report_start : Left matching rules count 0 (replicate 32 0)
  unfolding cover_report
  report_start =
      let l = covers_after matching [] (take count rules) in
      let n = after_length matching [] (take count rules) in
      let m = length-take count rules in
      let e : 32 - (0 + length l) ≡ 32 - count = omega arith in
      let zeros : drop (0 + length l) (replicate {A = ℕ} 32 0) ≡ replicate (32 - count) 0 = drop-replicate {A = ℕ} (0 + length l) 32 0 ∙ ap (λ (n : ℕ). replicate {A = ℕ} n 0) e in
      record { numbers = sets-eq l (replicate 32 0) 0 (omega arith) ∙ ap (λ (d : List ℕ). l ++ d) zeros }

  module _ (at : ℕ) {n : ℕ} {d : List ℕ} (used : n ≡ min count 32) (left : Left matching rules count at d) where
    pub report_on : {x : ℕ} → at < n → x ≡ first_number (rule_covers matching (get_or rules at no_rule)) (take at rules) → Left matching rules count (at + 1) (set d at x)
    unfolding covers_after
    report_on h e =
        let m = length-take count rules in
        let t = rw (drop-cons (take count rules) at no_rule (omega arith), get_or-take count rules at no_rule (omega arith), ← take-suc rules at no_rule (omega arith)) at left.numbers in
        record { numbers = rw (e, add-one at) t }

    pub report_end : n ≤ at → d ≡ cover_report matching rules count
    unfolding covers_after
    report_end h =
        let m = length-take count rules in
        rw (drop_of_length-le (take count rules) {i = at} (omega arith)) at left.numbers
