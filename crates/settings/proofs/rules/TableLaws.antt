-- The table of some rules (`table_of`): the rules in their order and free places after them. What it holds of rules whose patterns have at most 64 bytes (`Brief`) is what they say: a held pattern is
-- its rule's, and a pattern is held exactly where one of the rules has it. A rule that is set behind them makes the table of one rule more. Assumes nothing.
use Prim.Native.Nat.{ℕ, suc, ◌-◌, ◌≤◌, ◌<◌}
use mathlib.Core.Path.{◌≡◌, refl, ◌∙◌}
use mathlib.Core.Bool.{◌&&◌}
use mathlib.Core.List.{List, [], ◌∷◌, ◌++◌, map, map-append}
use native.Mathlib.Omega.{arith}
use native.Mathlib.Nat.{min-eq_left}
use lib.Dec.{ltb}
use lib.ListN.{length, take, set, replicate, length-append, length-map}
use lib.Seq.{append_snoc, take_all, take-append_seam, set_at, take_at}
use borrow.Author.Tests.{lt-ltb, le-ltb}
use Rattle.laws.proofs.Cases.{by, by_le}
use Rattle.slices.specs.Bytes.{same}
use Rattle.tables.specs.Scan.{find}
use Rattle.tables.specs.Rules.{pattern_of, equal_rule, empty_rule, is_held}
use Rattle.rules_text.specs.RuleText.{RuleText, given_in}
use Rattle.settings.specs.Loaded.{rule_held, table_of}

-- no pattern is longer than 64 bytes
pub data Brief : List RuleText → Type 0 where
  brief_none : Brief []
  brief_more : {a : RuleText} {rs : List RuleText} → length a.pattern ≤ 64 → Brief rs → Brief (a ∷ rs)

-- nor in one rule more, behind them
pub brief_join : {rs : List RuleText} (a : RuleText) → Brief rs → length a.pattern ≤ 64 → Brief (rs ++ (a ∷ []))
brief_join a brief_none h = brief_more h brief_none
brief_join a (brief_more g b) h = brief_more g (brief_join a b h)

-- the pattern of a rule that is held is the rule's
pub held_pattern : (r : RuleText) → length r.pattern ≤ 64 → pattern_of (rule_held r) ≡ r.pattern
held_pattern r h = rw (take_all 64 r.pattern h) (take-append_seam r.pattern (replicate (64 - length r.pattern) 0))

-- the places of the table that count
pub table_used : (rs : List RuleText) → take (length rs) (table_of rs) ≡ map rule_held rs
table_used rs = take_at (map rule_held rs) (replicate (32 - length rs) empty_rule) (length rs) (length-map rs rule_held)

-- a comparison one up
less_suc : (x n : ℕ) → ltb (suc x) (suc n) ≡ ltb x n
less_suc x n =
    by_le n x (λ h. rw (le-ltb (suc x) (suc n) (omega arith), le-ltb x n h)) (λ h. rw (lt-ltb (suc x) (suc n) (omega arith), lt-ltb x n h))

-- a search finds an equal pattern among them exactly where it was given
found_given : (p : List ℕ) (rs : List RuleText) → Brief rs → ltb (find (λ r. r.active && same (pattern_of r) p) (map rule_held rs)) (length rs) ≡ given_in rs p
unfolding find given_in
found_given p rs brief_none = refl
found_given p rs (brief_more {a = a} {rs = more} h b) =
    by (same a.pattern p) (λ t. rw (held_pattern a h, t, find) (lt-ltb 0 (suc (length more)) (omega arith)))
    (λ t. rw (held_pattern a h, t, find) (less_suc _ (length more) ∙ found_given p more b))

-- an equal pattern is held exactly where it was given
pub held_given : (p : List ℕ) (rs : List RuleText) → Brief rs → length rs ≤ 32 → is_held (table_of rs) (length rs) p ≡ given_in rs p
unfolding equal_rule
held_given p rs b h = rw (table_used rs, min-eq_left h) (found_given p rs b)

-- a rule set behind those of a table that is not full
pub table_more : (rs : List RuleText) (a : RuleText) → length rs < 32 → set (table_of rs) (length rs) (rule_held a) ≡ table_of (rs ++ (a ∷ []))
table_more rs a h =
    let k : 32 - length rs ≡ suc (31 - length rs) = omega arith in
    let j : 32 - length (rs ++ (a ∷ [])) ≡ 31 - length rs = rw length-append (omega arith) in
    rw (j, map-append rule_held rs (a ∷ []), k, append_snoc (map rule_held rs) (rule_held a) (replicate (31 - length rs) empty_rule))
    (set_at (map rule_held rs) empty_rule (replicate (31 - length rs) empty_rule) (rule_held a) (length rs) (length-map rs rule_held))
