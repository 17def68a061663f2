-- Rules as the code writes them one after another: the text of one rule more (`rules_more`), and its length (`rules_longer`). Assumes nothing.
use Prim.Native.Nat.{ℕ, ◌+◌, ◌<◌}
use mathlib.Core.Path.{◌≡◌, refl, ap}
use mathlib.Core.List.{List, [], ◌∷◌, ◌++◌, map, append_assoc, append-nil}
use native.Mathlib.Numerals.{add-one}
use lib.ListN.{length, take, get_or, length-append}
use lib.Seq.{take-suc}
use Rattle.forms.specs.Form.{Form, map_form, test_form, text_all}
use Rattle.tables.specs.Rules.{no_rule}
use Rattle.tables.specs.declared.rules.TopicRule.{TopicRule}
use Rattle.rules_text.specs.RuleText.{RuleText, rule_form, rule_in, rule_text}

-- one value more at the end
text_join : {A : Type 0} (F : List A → Form A) (before l : List A) (x : A) → text_all F before (l ++ (x ∷ [])) ≡ text_all F before l ++ (F (before ++ l)).text x
unfolding text_all
text_join F before [] x = rw (append-nil before) (append-nil ((F before).text x))
text_join F before (y ∷ l) x = rw (text_join F (before ++ (y ∷ [])) l x, append_assoc before (y ∷ []) l, append_assoc)

-- the text of a rule, whatever stands before it
rule_alone : (before : List RuleText) (r : TopicRule) → (rule_form before).text (rule_in r) ≡ rule_text r
unfolding rule_form test_form map_form rule_text
rule_alone before r = refl

-- one rule more, as its lines say it
map_last : (l : List TopicRule) (x : TopicRule) → map rule_in (l ++ (x ∷ [])) ≡ map rule_in l ++ (rule_in x ∷ [])
map_last [] x = refl
map_last (y ∷ l) x = ap (λ (m : List RuleText). rule_in y ∷ m) (map_last l x)

module _ (rules : List TopicRule) (i : ℕ) (h : i < length rules) where
  -- one rule more
  pub rules_more : text_all rule_form [] (map rule_in (take (i + 1) rules)) ≡ text_all rule_form [] (map rule_in (take i rules)) ++ rule_text (get_or rules i no_rule)
  rules_more =
      let r = get_or rules i no_rule in
      let before = map rule_in (take i rules) in
      rw (add-one, take-suc rules i no_rule h, map_last (take i rules) r, ← rule_alone before r) (text_join rule_form [] before (rule_in r))

  -- its length
  pub rules_longer : length (text_all rule_form [] (map rule_in (take (i + 1) rules)))
      ≡ length (text_all rule_form [] (map rule_in (take i rules))) + length (rule_text (get_or rules i no_rule))
  rules_longer = rw rules_more (simp length-append)
