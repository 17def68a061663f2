-- How long the lines are at most that tell what a settings text sets, where the types of what they tell hold. Assumes nothing.
use Prim.Native.Nat.{ℕ, ◌+◌, ◌/◌, ◌^◌, ◌≤◌, ◌<◌}
use mathlib.Core.Path.{◌≡◌, refl, ap, ◌∙◌}
use mathlib.Core.List.{List, ◌++◌}
use native.Mathlib.Omega.{arith}
use borrow.Author.Tests.{eq-eqb, ne_eqb}
use lib.ListN.{length, length-append}
use Rattle.laws.specs.Lists.{every}
use Rattle.slices.specs.Bytes.{bytes}
use Rattle.topics.specs.Shown.{shown}
use Rattle.topics.specs.declared.matching.Matching.{Matching}
use Rattle.topics.proofs.shown.ShownLaws.{shown-length}
use Rattle.lines.specs.Decimal.{decimal}
use Rattle.lines.specs.Line.{number_line, hex_line, word_line, seconds_line}
use Rattle.lines.specs.Word.{first_word, rest_words, word_text}
use Rattle.lines.proofs.lengths.LineLaws.{number_line-length, hex_line-length, word_line-length, seconds_line-length}
use Rattle.lines.proofs.put.DecimalLaws.{decimal_short, decimal_20}
use Rattle.forms.proofs.ShortLaws.{word_long}
use Rattle.tables.specs.Numbers.{action_number, policy_number}
use Rattle.tables.specs.declared.rules.QosPolicy.{QosPolicy}
use Rattle.tables.specs.declared.rules.TopicAction.{TopicAction}
use Rattle.rules_text.specs.RuleText.{RuleText}
use Rattle.settings.specs.SettingsText.{matching_number}
use Rattle.settings.specs.Told.{closing_told, connect_told, matchers, head_told, rate_told, ruling_told, pattern_told, rule_told}

closing_length : (number line : ℕ) → length (closing_told number line) ≡ length (number_line (bytes "end=") number) + length (number_line (bytes "line=") line)
unfolding closing_told
closing_length number line = simp length-append

pub closing_short : (number line : ℕ) → number < 2 ^ 32 → line < 2 ^ 64 → length (closing_told number line) ≤ 60
closing_short number line h g =
    let a = decimal_20 number (omega (arith, h)) in
    let b = decimal_20 line g in
    omega (arith, closing_length number line, number_line-length (bytes "end=") number, number_line-length (bytes "line=") line)

connect_length : (threshold window : ℕ) → length (connect_told threshold window)
    ≡ 21 + length (decimal threshold) + length (seconds_line (bytes " or more of one client is denied; they are counted over this many seconds: ") window)
unfolding connect_told
connect_length threshold window = simp length-append

pub connect_short : (threshold window : ℕ) → threshold < 256 → window < 2 ^ 64 → length (connect_told threshold window) ≤ 150
connect_short threshold window h g =
    let a = decimal_short 2 threshold (omega (arith, h)) in
    let b = decimal_short 13 (window / 1000000) (omega (arith, g)) in
    omega (arith, connect_length threshold window, seconds_line-length (bytes " or more of one client is denied; they are counted over this many seconds: ") window)

-- the words of a policy
abbrev pub policies : List ℕ
policies = bytes ", any QoS|, alert below QoS 0|, alert below QoS 1|, alert below QoS 2|, alert unless QoS 0|, alert unless QoS 1|, alert unless QoS 2"

module _ (form : ℕ) (default : TopicAction) (matching : Matching) (threshold window rules : ℕ) where
  head_length : length (head_told form default matching threshold window rules)
      ≡ length (number_line (bytes "A settings text of form ") form) + length (word_line (bytes "A topic that no rule matches is ") (bytes "allowed|blocked") (action_number default))
      + length (word_line (bytes "Rules match ") matchers (matching_number matching)) + length (connect_told threshold window)
      + length (number_line (bytes "Rules, of which the first that matches decides: ") rules)
  unfolding head_told
  head_length = simp length-append

  pub head_short : form < 2 ^ 64 → rules < 65536 → length (connect_told threshold window) ≤ 150 → length (head_told form default matching threshold window rules) ≤ 390
  unfolding every first_word rest_words
  head_short h g s =
      let a = decimal_20 form (omega (arith, h)) in
      let b = decimal_short 4 rules (omega (arith, g)) in
      let w = word_long (bytes "allowed|blocked") 7 refl (action_number default) in
      let m = word_long matchers 30 refl (matching_number matching) in
      omega (
        arith,
        s,
        head_length,
        number_line-length (bytes "A settings text of form ") form,
        word_line-length (bytes "A topic that no rule matches is ") (bytes "allowed|blocked") (action_number default),
        word_line-length (bytes "Rules match ") matchers (matching_number matching),
        number_line-length (bytes "Rules, of which the first that matches decides: ") rules,
      )

pub rate_none : (rate : ℕ) → rate ≡ 0 → rate_told rate ≡ bytes ", no rate limit\n"
unfolding rate_told
rate_none rate e = rw (eq-eqb rate 0 e)

pub rate_some : (rate : ℕ) → (rate ≡ 0 → ⊥) → rate_told rate ≡ bytes ", at most " ++ decimal rate ++ bytes " a second for each topic\n"
unfolding rate_told
rate_some rate e = rw (ne_eqb rate 0 e)

pub none_short : (rate : ℕ) → rate ≡ 0 → length (rate_told rate) ≤ 40
none_short rate e = rw (rate_none rate e) (omega arith)

pub some_short : (rate : ℕ) → (rate ≡ 0 → ⊥) → rate < 65536 → length (rate_told rate) ≤ 40
some_short rate e h =
    let a = decimal_short 4 rate (omega (arith, h)) in
    let n : length (rate_told rate) ≡ 10 + length (decimal rate) + 25 = ap length (rate_some rate e) ∙ (simp length-append) in
    omega (arith, n)

module _ (place : ℕ) (action : TopicAction) (policy : QosPolicy) (rate : ℕ) where
  ruling_length : length (ruling_told place action policy rate)
      ≡ length (decimal place) + length (word_text (bytes ". allow|. block") (action_number action)) + length (word_text policies (policy_number policy)) + length (rate_told rate)
  unfolding ruling_told
  ruling_length = simp length-append

  pub ruling_short : place < 2 ^ 64 → length (rate_told rate) ≤ 40 → length (ruling_told place action policy rate) ≤ 90
  unfolding every first_word rest_words
  ruling_short h s = let a = decimal_20 place h in omega (arith, s, ruling_length, word_long (bytes ". allow|. block") 7 refl (action_number action), word_long policies 20 refl (policy_number policy))

pattern_length : (p : List ℕ) → length (pattern_told p) ≡ 8 + length (shown p) + length (hex_line (bytes "\n   pattern=") p)
unfolding pattern_told
pattern_length p = simp length-append

pub pattern_short : (p : List ℕ) → length p ≤ 64 → length (pattern_told p) ≤ 230
pattern_short p h = omega (arith, h, pattern_length p, shown-length p, hex_line-length (bytes "\n   pattern=") p)

pub rule_short : (place : ℕ) (r : RuleText) → length (ruling_told place r.action r.policy r.rate) ≤ 90 → length (pattern_told r.pattern) ≤ 230 → length (rule_told place r) ≤ 320
unfolding rule_told
rule_short place r h g = rw length-append (omega (arith, h, g))
