-- The lines that tell what a settings text sets, as the code writes them one after another: the head, what a rule does, a whole rule, and one rule more behind others. Assumes nothing.
use Prim.Native.Nat.{ℕ, suc, ◌+◌, ◌*◌, ◌≤◌, ◌<◌}
use mathlib.Core.Path.{◌≡◌}
use mathlib.Core.List.{List, [], ◌∷◌, ◌++◌, map, map-append, append_assoc, append-nil}
use native.Mathlib.Omega.{arith}
use native.Mathlib.Nat.{add-zero}
use native.Mathlib.Numerals.{add-one}
use lib.ListN.{length, take, get_or, length-append, length-map}
use lib.Seq.{take-suc, length-take-le}
use Rattle.slices.specs.Bytes.{bytes}
use Rattle.topics.specs.declared.matching.Matching.{Matching}
use Rattle.lines.specs.Decimal.{decimal}
use Rattle.lines.specs.Line.{number_line, word_line}
use Rattle.lines.specs.Word.{word_text}
use Rattle.lines.specs.Wrote.{Wrote}
use Rattle.lines.proofs.put.WroteLaws.{wrote_then}
use Rattle.tables.specs.Numbers.{action_number, policy_number}
use Rattle.tables.specs.Rules.{no_rule, pattern_of}
use Rattle.tables.specs.declared.rules.QosPolicy.{QosPolicy}
use Rattle.tables.specs.declared.rules.TopicAction.{TopicAction}
use Rattle.tables.specs.declared.rules.TopicRule.{TopicRule}
use Rattle.rules_text.specs.RuleText.{RuleText, rule_in}
use Rattle.settings.specs.SettingsText.{matching_number}
use Rattle.settings.specs.Told.{connect_told, matchers, head_told, rate_told, ruling_told, pattern_told, rule_told, rules_told}
use Rattle.settings.proofs.told_lines.ToldBounds.{policies, rule_short}

module _ {d e f g h : List ℕ} {at w x y z a : ℕ} where
  pub head_wrote : {i : List ℕ} {b u : ℕ} (form : ℕ) (default : TopicAction) (matching : Matching) (threshold window rules : ℕ) → a ≡ action_number default → b ≡ matching_number matching
      → Wrote d e at (number_line (bytes "A settings text of form ") form) w
      → Wrote e f w (word_line (bytes "A topic that no rule matches is ") (bytes "allowed|blocked") a) x → Wrote f g x (word_line (bytes "Rules match ") matchers b) y
      → Wrote g h y (connect_told threshold window) z → Wrote h i z (number_line (bytes "Rules, of which the first that matches decides: ") rules) u
      → Wrote d i at (head_told form default matching threshold window rules) u
  unfolding head_told
  head_wrote form default matching threshold window rules ea eb p q r s t = rw (← ea, ← eb) (wrote_then (wrote_then (wrote_then (wrote_then p q) r) s) t)

  pub ruling_wrote : {b : ℕ} (place : ℕ) (action : TopicAction) (policy : QosPolicy) (rate : ℕ) → a ≡ action_number action → b ≡ policy_number policy → Wrote d e at (decimal place) w
      → Wrote e f w (word_text (bytes ". allow|. block") a) x → Wrote f g x (word_text policies b) y → Wrote g h y (rate_told rate) z → Wrote d h at (ruling_told place action policy rate) z
  unfolding ruling_told
  ruling_wrote place action policy rate ea eb p q r s = rw (← ea, ← eb) (wrote_then (wrote_then (wrote_then p q) r) s)

-- a whole rule; its pattern has at most 64 bytes
pub rule_wrote : (place : ℕ) (rule : TopicRule) {d e f p : List ℕ} {at w x : ℕ} → p ≡ pattern_of rule → length p ≤ 64
    → Wrote d e at (ruling_told place rule.action rule.qos_policy rule.max_rate_per_sec) w
    × (length (ruling_told place rule.action rule.qos_policy rule.max_rate_per_sec) ≤ 90)
    → Wrote e f w (pattern_told p) x × (length p ≤ 64 → length (pattern_told p) ≤ 230)
    → Wrote d f at (rule_told place (rule_in rule)) x × (length (rule_told place (rule_in rule)) ≤ 320)
unfolding rule_told
rule_wrote place rule {p = p} ep n a b =
    let s : length (pattern_told (pattern_of rule)) ≤ 230 = rw (← ep) (b.1 n) in
    (rw (← ep) (wrote_then a.0 b.0), rule_short place (rule_in rule) a.1 s)

-- one rule more behind others
told_join : (place : ℕ) (l : List RuleText) (x : RuleText) → rules_told place (l ++ (x ∷ [])) ≡ rules_told place l ++ rule_told (place + length l) x
unfolding rules_told
told_join place [] x = rw (add-zero place) (append-nil (rule_told place x))
told_join place (y ∷ l) x =
    let e : place + 1 + length l ≡ place + length (y ∷ l) = omega arith in rw (told_join (place + 1) l x, append_assoc, e)

module _ (rules : List TopicRule) (i : ℕ) (h : i < length rules) where
  abbrev next : RuleText
  next = rule_in (get_or rules i no_rule)

  pub rules_more : rules_told 1 (map rule_in (take (i + 1) rules)) ≡ rules_told 1 (map rule_in (take i rules)) ++ rule_told (i + 1) next
  rules_more =
      let before = map rule_in (take i rules) in
      let n : length before ≡ i = rw (length-map (take i rules) rule_in) (length-take-le i rules (omega arith)) in
      let e : 1 + length before ≡ suc i = omega (arith, n) in
      rw (add-one i, take-suc rules i no_rule h, map-append rule_in (take i rules) (get_or rules i no_rule ∷ []), ← e) (told_join 1 before next)

  pub rules_longer : length (rules_told 1 (map rule_in (take i rules))) ≤ i * 320 → length (rule_told (i + 1) next) ≤ 320
      → length (rules_told 1 (map rule_in (take (i + 1) rules))) ≤ (i + 1) * 320
  rules_longer s t = rw (rules_more, length-append) (omega (arith, s, t))
