-- The shadow count: the earlier rules that a chain asks, and what one turn of the loop counts. Assumes nothing.
use mathlib.Core.Bool.{Bool, true, false, cond, ◌&&◌}
use mathlib.Core.List.{List, [], ◌∷◌}
use mathlib.Core.Path.{◌≡◌, refl}
use Prim.Native.Nat.{ℕ, ◌+◌, ◌<◌, ◌≤◌, min}
use native.Mathlib.Numerals.{add-one}
use native.Mathlib.Omega.{arith}
use lib.ListN.{length, take, drop, get_or, length-take, drop_of_length-le}
use lib.Seq.{drop-cons, take-suc, get_or-take}
use Rattle.std.specs.List.{list_any}
use Rattle.topics.specs.Matching.{port_matches}
use Rattle.tables.specs.declared.rules.TopicRule.{TopicRule}
use Rattle.tables.specs.Rules.{pattern_of, shadowed, shadowed_after, shadow_count, no_rule}

-- a rule is live and one of the earlier ones takes its pattern
abbrev pub hidden : TopicRule → List TopicRule → Bool
hidden later earlier = later.active && shadowed (pattern_of later) earlier

-- one of the earlier rules takes a pattern, as a chain asks them
pub shadowed_any : (p : List ℕ) (earlier : List TopicRule) → list_any (λ e. e.active && port_matches p (pattern_of e)) earlier ≡ shadowed p earlier
unfolding shadowed
shadowed_any p [] = refl
shadowed_any p (e ∷ earlier) = rw (shadowed_any p earlier) refl

-- the loop, at the rule `at` of `n`
module _ (rules : List TopicRule) (count at shadowed : ℕ) {n : ℕ} (full : length rules ≡ 32) (used : n ≡ min count 32)
    (inv : shadowed + shadowed_after (take at rules) (drop at (take count rules)) ≡ shadow_count rules count) where
  turn : at < n → shadowed_after (take at rules) (drop at (take count rules))
      ≡ cond (hidden (get_or rules at no_rule) (take at rules)) 1 0 + shadowed_after (take (at + 1) rules) (drop (at + 1) (take count rules))
  unfolding shadowed_after
  turn h =
      let m = length-take count rules in
      rw (add-one, drop-cons (take count rules) at no_rule (omega arith), get_or-take count rules at no_rule (omega arith), take-suc rules at no_rule (omega arith))

  -- it is hidden: one more
  pub turn_hidden : at < n → hidden (get_or rules at no_rule) (take at rules) ≡ true
      → shadowed + 1 + shadowed_after (take (at + 1) rules) (drop (at + 1) (take count rules)) ≡ shadow_count rules count
  turn_hidden h e = let t = rw e at (turn h) in omega arith

  -- it is not: no more
  pub turn_plain : at < n → hidden (get_or rules at no_rule) (take at rules) ≡ false
      → shadowed + shadowed_after (take (at + 1) rules) (drop (at + 1) (take count rules)) ≡ shadow_count rules count
  turn_plain h e = let t = rw e at (turn h) in omega arith

  -- no rule is left
  pub turn_end : n ≤ at → shadowed ≡ shadow_count rules count
  unfolding shadowed_after
  turn_end h =
      let m = length-take count rules in
      let z : shadowed_after (take at rules) (drop at (take count rules)) ≡ 0 = rw (drop_of_length-le (take count rules) {i = at} (omega arith)) in
      omega arith
