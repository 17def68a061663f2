-- The rule table stays sound and each of its rules fine: with no rule, under a new rule, under one overwritten in place, and where rules move: one is removed, or
-- two are exchanged. Rules that move come from different places, so their patterns stay different. Assumes nothing.
use mathlib.Core.Bool.{true, false, ◌&&◌}
use mathlib.Core.List.{List}
use mathlib.Core.Path.{◌≡◌, refl, ◌∙◌}
use Prim.Native.Nat.{ℕ, ◌+◌, ◌-◌, ◌≤◌, ◌<◌, max}
use native.Mathlib.Omega.{arith}
use borrow.Author.Tests.{le-leb}
use lib.ListN.{length, get_or, take, drop, set, replicate, length-append, length-take, length-set, length-replicate, get_or-replicate}
use lib.Seq.{take_at, take_all, drop_at, get_or-take}
use Rattle.laws.proofs.Lists.{each, pairs}
use Rattle.slices.specs.Bytes.{same}
use Rattle.topics.specs.Patterns.{pattern_refusal}
use Rattle.topics.proofs.patterns.PatternLaws.{accepted_length}
use Rattle.tables.specs.Rules.{pattern_of, rule_fine, equal_rule, empty_rule, no_rule, rule_of, overwritten}
use Rattle.tables.specs.declared.rules.QosPolicy.{QosPolicy}
use Rattle.tables.specs.declared.rules.TopicAction.{TopicAction}
use Rattle.tables.specs.declared.rules.TopicRule.{TopicRule}
use Rattle.tables.proofs.rules.RuleLaws.{fine_says}
use Rattle.tables.proofs.ScanLaws.{find_none}
use Rattle.monitor.specs.Sound.{SoundRules}

-- the rule at a place
abbrev at : List TopicRule → ℕ → TopicRule
at T i = get_or T i no_rule

-- two rules of different patterns
abbrev Apart : TopicRule → TopicRule → Type 0
Apart a b = same (pattern_of a) (pattern_of b) ≡ false

-- a sound table of n rules, each fine
pub record Ruled (T : List TopicRule) (n : ℕ) : Type 0 where
  pub sound : SoundRules T n
  pub count : n ≤ 32
  pub fine : (i : ℕ) → i < n → rule_fine (get_or T i no_rule) ≡ true

-- no rule
pub no_rules : Ruled (replicate 32 empty_rule) 0
no_rules =
    record {
      sound =
          record {
            size = refl;
            free = λ i n h. get_or-replicate 32 i empty_rule no_rule h;
            long = λ i h. rw (get_or-replicate 32 i empty_rule no_rule h);
            rest = λ i h. rw (get_or-replicate 32 i empty_rule no_rule h);
            apart = λ i j l h. absurd (omega arith);
          };
      count = omega arith;
      fine = λ i h. absurd (omega arith);
    }

-- a pattern with zeros after it
record Padded (r : TopicRule) : Type 0 where
  long : length r.pattern ≡ 64
  rest : drop r.pattern_len r.pattern ≡ replicate (64 - r.pattern_len) 0

module _ {T : List TopicRule} {n : ℕ} (s : Ruled T n) where
  -- a rule stored among the n, or behind them
  module _ (k : ℕ) (x : TopicRule) (m : ℕ) (here : k ≤ n) (room : k < 32) (many : m ≡ max n (k + 1)) where
    within : k < length T
    within = let e = s.sound.size in omega arith

    store : Padded x → rule_fine x ≡ true → ((i : ℕ) → i < k → Apart (at T i) x)
        → ((j : ℕ) → k < j → j < m → Apart x (at T j)) → Ruled (set T k x) m
    store p f before after =
        record {
          sound =
              record {
                size = length-set T k x ∙ s.sound.size;
                free =
                    each no_rule T k x within (λ i r. m ≤ i → i < 32 → r ≡ empty_rule) (λ a b. absurd (omega arith)) (λ j e a b. s.sound.free j (omega arith) b);
                long = each no_rule T k x within (λ i r. i < 32 → length r.pattern ≡ 64) (λ l. p.long) (λ j e. s.sound.long j);
                rest =
                    each no_rule T k x within (λ i r. i < 32 → drop r.pattern_len r.pattern ≡ replicate (64 - r.pattern_len) 0) (λ l. p.rest)
                    (λ j e. s.sound.rest j);
                apart =
                    pairs no_rule T k x within Apart m (λ i l b. before i l) after (λ i j e f a b. s.sound.apart i j a (omega arith));
              };
          count = (let c = s.count in omega arith);
          fine = each no_rule T k x within (λ i r. i < m → rule_fine r ≡ true) (λ l. f) (λ j e l. s.fine j (omega arith));
        }

  -- an equal pattern's settings overwritten
  pub rule_overwritten : (k : ℕ) (action : TopicAction) (policy : QosPolicy) (rate : ℕ) → k < n
      → Ruled (set T k (overwritten (get_or T k no_rule) action policy rate)) n
  unfolding rule_fine
  rule_overwritten k action policy rate h =
      let c = s.count in
      store k (overwritten (at T k) action policy rate) n (omega arith) (omega arith) (omega arith)
      (record { long = s.sound.long k (omega arith); rest = s.sound.rest k (omega arith) })
      (s.fine k h)
      (λ i l. s.sound.apart i k l h)
      (λ j l b. s.sound.apart k j l b)

  -- a new pattern's rule
  module _ (p : List ℕ) (action : TopicAction) (policy : QosPolicy) (rate : ℕ) (takes : pattern_refusal p ≡ 0) where
    short : length p ≤ 64
    short = (accepted_length p takes).1

    its_pattern : pattern_of (rule_of p action policy rate) ≡ p
    its_pattern =
        let l = short in
        take_at (take 64 p) (replicate (64 - length p) 0) (length p) (omega (arith, length-take 64 p)) ∙ take_all 64 p l

    padded : Padded (rule_of p action policy rate)
    padded =
        let l = short in
        record {
          long = omega (arith, length-append (take 64 p) (replicate (64 - length p) 0), length-take 64 p, length-replicate {A = ℕ} (64 - length p) 0);
          rest = drop_at (take 64 p) (replicate (64 - length p) 0) (length p) (omega (arith, length-take 64 p));
        }

    new_fine : rule_fine (rule_of p action policy rate) ≡ true
    unfolding rule_fine
    new_fine = rw (le-leb (length p) 64 short, its_pattern, takes)

    -- no rule has the pattern
    unlike : n ≤ equal_rule p T n → (i : ℕ) → i < n → same (pattern_of (at T i)) p ≡ false
    unfolding equal_rule
    unlike none i h =
        let z = s.sound.size in
        let c = s.count in
        let q = find_none (λ r. r.active && same (pattern_of r) p) (take n T) no_rule (omega (arith, length-take n T)) i (omega (arith, length-take n T)) in
        let e : at (take n T) i ≡ at T i = get_or-take n T i no_rule h in
        rw (fine_says (at T i) (s.fine i h)).0 at (rw e at q)

    pub rule_added : n < 32 → n ≤ equal_rule p T n → Ruled (set T n (rule_of p action policy rate)) (n + 1)
    rule_added room none =
        store n (rule_of p action policy rate) (n + 1) (omega arith) room (omega arith) padded new_fine
        (λ i l. rw its_pattern (unlike none i l))
        (λ j l b. absurd (omega arith))
