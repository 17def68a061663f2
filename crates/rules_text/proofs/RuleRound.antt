-- A rule's form keeps its law both ways: its lines are put together of forms that do. And what whoever puts rules together asks of them: that it is refused by a number from 1 to 36, that there are
-- four lines, that they are not over 171 bytes. Assumes nothing.
use Prim.Native.Nat.{ℕ, zero, suc, ◌*◌, ◌≤◌, ◌<◌}
use mathlib.Core.Path.{◌≡◌, refl}
use mathlib.Core.Bool.{true}
use mathlib.Core.List.{List, [], ◌∷◌, ◌++◌}
use native.Mathlib.Omega.{arith}
use lib.Dec.{eqb}
use lib.ListN.{length}
use Rattle.laws.specs.Lists.{every}
use Rattle.laws.proofs.Cases.{whichever}
use Rattle.slices.specs.Bytes.{bytes, same}
use Rattle.topics.specs.Patterns.{pattern_refusal}
use Rattle.topics.proofs.patterns.PatternLaws.{refusal_number}
use Rattle.lines.specs.ReadWord.{word_index, different}
use Rattle.lines.specs.Word.{first_word, rest_words}
use Rattle.forms.specs.Form.{Round, word_form, number_form, hex_form, pair_form, map_form, test_form, count_all}
use Rattle.forms.proofs.PlainLaws.{in_line}
use Rattle.forms.proofs.FormRound.{number_round, word_round, hex_round, pair_round, map_round, test_round}
use Rattle.forms.proofs.RealLaws.{Real, number_real, word_real, hex_real, pair_real, map_real, test_real}
use Rattle.tables.specs.Numbers.{action_at, action_number, policy_at, policy_number}
use Rattle.rules_text.specs.RuleText.{RuleText, rule_from, values_of, action_form, policy_form, rule_lines, given_in, rule_refusal, rule_form}

-- the places of words and what they stand for
action_at_lem : (k : ℕ) → k < 2 → action_number (action_at k) ≡ k
action_at_lem zero h = refl
action_at_lem (suc zero) h = refl
action_at_lem (suc (suc k)) h = absurd (omega arith)

policy_at_lem : (k : ℕ) → k < 7 → policy_number (policy_at k) ≡ k
policy_at_lem zero h = refl
policy_at_lem (suc zero) h = refl
policy_at_lem (suc (suc zero)) h = refl
policy_at_lem (suc (suc (suc zero))) h = refl
policy_at_lem (suc (suc (suc (suc zero)))) h = refl
policy_at_lem (suc (suc (suc (suc (suc zero))))) h = refl
policy_at_lem (suc (suc (suc (suc (suc (suc zero)))))) h = refl
policy_at_lem (suc (suc (suc (suc (suc (suc (suc k))))))) h = absurd (omega arith)

pub action_round : (key : List ℕ) → every in_line key ≡ true → Round (action_form key)
unfolding action_form word_form every first_word rest_words different word_index same
action_round key plain =
    map_round action_at action_number (word_form key (bytes "allow|block")) action_at_lem (word_round key (bytes "allow|block") plain refl refl)

policy_round : Round policy_form
unfolding policy_form word_form every first_word rest_words different word_index same
policy_round =
    map_round policy_at policy_number (word_form (bytes "qos=") (bytes "any|min0|min1|min2|only0|only1|only2")) policy_at_lem
    (word_round (bytes "qos=") (bytes "any|min0|min1|min2|only0|only1|only2") refl refl refl)

lines_round : Round rule_lines
unfolding rule_lines every
lines_round =
    pair_round _ _ (hex_round (bytes "pattern=") 128 refl)
    (λ p. pair_round _ _ (action_round (bytes "action=") refl) (λ a. pair_round _ _ policy_round (λ q. number_round (bytes "rate=") 0 65535 refl)))

pub rule_round : (before : List RuleText) → Round (rule_form before)
unfolding rule_form
rule_round before = test_round (rule_refusal before) _ (map_round rule_from values_of rule_lines (λ a h. refl) lines_round)

-- a rule that is refused has a number up to 36
refusal_known : (before : List RuleText) (r : RuleText) → rule_refusal before r ≤ 36
unfolding rule_refusal
refusal_known before r =
    whichever (λ (n : ℕ). n ≤ 36) (eqb (pattern_refusal r.pattern) 0)
    (whichever (λ (n : ℕ). n ≤ 36) (given_in before r.pattern) (omega arith) (omega arith))
    (refusal_number (λ n. n ≤ 36) r.pattern (omega arith) (omega arith) (omega arith))

pub action_real : {k : ℕ} → 26 ≤ k → (key : List ℕ) → Real k (action_form key)
unfolding action_form
action_real h key = map_real _ _ _ (word_real h key (bytes "allow|block"))

pub rule_real : {k : ℕ} → 36 ≤ k → (before : List RuleText) → Real k (rule_form before)
unfolding rule_form rule_lines policy_form
rule_real {k} h before =
    let line : 26 ≤ k = omega (arith, h) in
    test_real (rule_refusal before) _ (λ r. omega (arith, h, refusal_known before r)) (map_real _ _ _
    (pair_real _ _ (hex_real line (bytes "pattern=") 128)
    (λ p.
    pair_real _ _ (action_real line (bytes "action="))
    (λ a.
    pair_real _ _ (map_real _ _ _ (word_real line (bytes "qos=") (bytes "any|min0|min1|min2|only0|only1|only2"))) (λ q. number_real line (bytes "rate=") 0 65535)))))

-- rules have four lines each
pub rules_count : (before rs : List RuleText) → count_all rule_form before rs ≡ 4 * length rs
unfolding count_all rule_form test_form map_form rule_lines pair_form hex_form action_form policy_form word_form number_form
rules_count before [] = refl
rules_count before (r ∷ rs) = let k = rules_count (before ++ (r ∷ [])) rs in omega arith
