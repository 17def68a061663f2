-- A rule's four lines as the code writes them and sums up their lengths: each is at most 171 bytes long, where the types of the rule's fields hold (`RuleTyped`), and a sum of lengths each capped at
-- the largest 64-bit number is the length of the text. Assumes nothing.
use Prim.Native.Nat.{ℕ, ◌+◌, ◌≤◌, ◌<◌}
use mathlib.Core.Path.{◌≡◌, refl, sym, ap, ◌∙◌}
use mathlib.Core.List.{List, ◌++◌, append_assoc}
use native.Mathlib.Omega.{arith}
use lib.ListN.{length, length-append, length-take}
use Rattle.laws.specs.Lists.{every}
use Rattle.slices.specs.Bytes.{bytes}
use Rattle.lines.specs.Line.{hex_line, word_line, number_line, capped}
use Rattle.lines.specs.Word.{first_word, rest_words}
use Rattle.lines.specs.Wrote.{Wrote}
use Rattle.lines.proofs.lengths.LineLaws.{number_line-length, word_line-length, hex_line-length}
use Rattle.lines.proofs.put.DecimalLaws.{decimal_short}
use Rattle.lines.proofs.put.WroteLaws.{wrote_then}
use Rattle.forms.proofs.LineBounds.{uncapped}
use Rattle.forms.proofs.ShortLaws.{word_long}
use Rattle.forms.specs.Form.{hex_form, word_form, number_form, pair_form, map_form}
use Rattle.tables.specs.Numbers.{action_number, policy_number}
use Rattle.tables.specs.Rules.{pattern_of}
use Rattle.tables.specs.declared.rules.TopicRule.{TopicRule}
use Rattle.rules_text.specs.RuleText.{RuleText, action_form, policy_form, rule_lines, values_of, rule_in, rule_text}

-- the words of an action and of a policy
abbrev actions : List ℕ
actions = bytes "allow|block"

abbrev policies : List ℕ
policies = bytes "any|min0|min1|min2|only0|only1|only2"

-- the four lines, one behind the other
abbrev lines_of : RuleText → List ℕ
lines_of v =
    hex_line (bytes "pattern=") v.pattern ++ word_line (bytes "action=") actions (action_number v.action)
    ++ word_line (bytes "qos=") policies (policy_number v.policy) ++ number_line (bytes "rate=") v.rate

rule_text_lem : (v : RuleText) → lines_of v ≡ rule_lines.text (values_of v)
unfolding rule_lines pair_form hex_form action_form policy_form map_form word_form number_form
rule_text_lem v = simp append_assoc

pub rule_wrote : (r : TopicRule) {u : List ℕ} {a q : ℕ} {d e f g h : List ℕ} {at w x y z : ℕ} → u ≡ pattern_of r → a ≡ action_number r.action → q ≡ policy_number r.qos_policy
    → Wrote d e at (hex_line (bytes "pattern=") u) w → Wrote e f w (word_line (bytes "action=") actions a) x → Wrote f g x (word_line (bytes "qos=") policies q) y
    → Wrote g h y (number_line (bytes "rate=") r.max_rate_per_sec) z → Wrote d h at (rule_text r) z
unfolding rule_text
rule_wrote r eu ea eq p1 p2 p3 p4 = rw (← rule_text_lem (rule_in r), ← eu, ← ea, ← eq) (wrote_then (wrote_then (wrote_then p1 p2) p3) p4)

-- what the types of a rule's fields hold
pub record RuleTyped (r : TopicRule) : Type 0 where
  pub long : length r.pattern ≡ 64
  pub rate : r.max_rate_per_sec < 65536

module _ (v : RuleText) where
  text-length : length (rule_lines.text (values_of v)) ≡ length (hex_line (bytes "pattern=") v.pattern) + length (word_line (bytes "action=") actions (action_number v.action))
      + length (word_line (bytes "qos=") policies (policy_number v.policy)) + length (number_line (bytes "rate=") v.rate)
  text-length = ap length (sym (rule_text_lem v)) ∙ (simp length-append)

  -- a rule's lines with a pattern that may be held
  pub lines_short : length v.pattern ≤ 64 → v.rate < 65536 → length (rule_lines.text (values_of v)) ≤ 171
  unfolding every first_word rest_words
  lines_short h g =
      omega (
        arith,
        text-length,
        hex_line-length (bytes "pattern=") v.pattern,
        word_line-length (bytes "action=") actions (action_number v.action),
        word_long actions 5 refl (action_number v.action),
        word_line-length (bytes "qos=") policies (policy_number v.policy),
        word_long policies 5 refl (policy_number v.policy),
        number_line-length (bytes "rate=") v.rate,
        decimal_short 4 v.rate (omega (arith, g)),
      )

-- the sum of the code
pub rule_sum : (r : TopicRule) {u : List ℕ} {a q p x y z : ℕ} → RuleTyped r → u ≡ pattern_of r → a ≡ action_number r.action → q ≡ policy_number r.qos_policy
    → p ≡ capped (length (hex_line (bytes "pattern=") u)) → x ≡ capped (length (word_line (bytes "action=") actions a)) → y ≡ capped (length (word_line (bytes "qos=") policies q))
    → z ≡ capped (length (number_line (bytes "rate=") r.max_rate_per_sec)) → (p + x + y + z ≡ length (rule_text r)) × (p + x + y + z ≤ 171)
unfolding rule_text
rule_sum r t eu ea eq ep ex ey ez =
    let h : length (pattern_of r) ≤ 64 = omega (arith, length-take r.pattern_len r.pattern, t.long) in
    let s = lines_short (rule_in r) h t.rate in
    let l = text-length (rule_in r) in
    let p = uncapped (rw eu at ep) (omega (arith, l, s)) in
    let x = uncapped (rw ea at ex) (omega (arith, l, s)) in
    let y = uncapped (rw eq at ey) (omega (arith, l, s)) in
    let z = uncapped ez (omega (arith, l, s)) in
    (omega (arith, l, s, p, x, y, z), omega (arith, l, s, p, x, y, z))
