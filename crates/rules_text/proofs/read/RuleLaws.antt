-- What holds of every rule's lines, on their definition. The group stopped at a refused line or was read whole: `rule_cases` goes by these cases. So it lies in its text (`rule_within`), one that was
-- read takes some of it (`rule_further`), and the lent buffer begins with the pattern's bytes then (`pattern_part`). Assumes nothing.
use Prim.Native.Nat.{ℕ, ◌-◌, ◌/◌, ◌≤◌}
use mathlib.Core.Path.{◌≡◌, refl, ◌∙◌}
use mathlib.Core.List.{List}
use native.Mathlib.Omega.{arith}
use lib.ListN.{length, take, length-take, length-drop}
use borrow.Author.Tests.{eq-eqb}
use Rattle.slices.specs.Bytes.{bytes}
use Rattle.lines.specs.Field.{number_field, word_field, hex_field}
use Rattle.lines.specs.ReadHex.{unhex}
use Rattle.lines.specs.Span.{part}
use Rattle.lines.specs.declared.read.Field.{Field}
use Rattle.lines.proofs.HexRound.{unhex-length}
use Rattle.lines.proofs.read.KeptLaws.{kept_long}
use Rattle.forms.proofs.LineBounds.{Answer, either, number_lies, word_lies, hex_lies, hex_value, kept}
use Rattle.rules_text.specs.RuleGroup.{rule_stopped, rule1, rule2, rule3, rule4, rule_at, pattern_in, pattern_kept, RuleIn}
use Rattle.rules_text.specs.declared.read.RuleLines.{RuleLines}

module _ (s : List ℕ) (at : ℕ) where
  -- the lines of a rule
  abbrev pub pattern_of : Field
  pattern_of = hex_field s at (bytes "pattern=") 128

  abbrev pub action_of : Field
  action_of = word_field s pattern_of.next (bytes "action=") (bytes "allow|block")

  abbrev pub policy_of : Field
  policy_of = word_field s action_of.next (bytes "qos=") (bytes "any|min0|min1|min2|only0|only1|only2")

  abbrev pub rate_of : Field
  rate_of = number_field s policy_of.next (bytes "rate=") 0 65535

  -- all of them were read
  pub record RuleRead : Type 0 where
    pub pattern : pattern_of.number ≡ 0
    pub action : action_of.number ≡ 0
    pub policy : policy_of.number ≡ 0
    pub rate : rate_of.number ≡ 0

  pub rule_cases : (P : RuleLines → Type 0)
      → ((f : Field) (k : ℕ) → Answer s f → k ≤ 3 → (f.number ≡ 0 → ⊥) → P (rule_stopped f k))
      → (RuleRead → P (rule4 pattern_of action_of policy_of rate_of)) → P (rule_at s at)
  unfolding rule_at rule1 rule2 rule3 rule4
  rule_cases P stop read =
      either P pattern_of
      (λ p.
      either P action_of
      (λ a.
      either P policy_of
      (λ q.
      either P rate_of (λ r. rw (eq-eqb _ _ r) at (read (record { pattern = p; action = a; policy = q; rate = r })))
      (stop rate_of 3 (number_lies s policy_of.next (bytes "rate=") 0 65535).answer (omega arith)))
      (stop policy_of 2 (word_lies s action_of.next (bytes "qos=") (bytes "any|min0|min1|min2|only0|only1|only2")).answer (omega arith)))
      (stop action_of 1 (word_lies s pattern_of.next (bytes "action=") (bytes "allow|block")).answer (omega arith)))
      (stop pattern_of 0 (hex_lies s at (bytes "pattern=") 128).answer (omega arith))

  pub rule_within : {r : RuleLines} → r ≡ rule_at s at → RuleIn s r
  unfolding rule4 unhex
  rule_within e =
      rw e
      (rule_cases (RuleIn s)
      (λ f k w h z. record { after = w.within.after; line = h; known = w.known; real = w.real; ordered = omega arith; inside = omega arith; short = omega arith })
      (λ r.
      let w = (hex_lies s at (bytes "pattern=") 128).answer.within in
      let v = hex_value s at (bytes "pattern=") 128 r.pattern in
      rw (eq-eqb _ _ r.rate)
      (record {
        after = (number_lies s policy_of.next (bytes "rate=") 0 65535).answer.within.after;
        line = omega arith;
        known = omega arith;
        real = λ z. absurd (z refl);
        ordered = w.ordered;
        inside = w.inside;
        short = omega (arith, v);
      })))

  -- a rule that was read lies further on
  pub rule_further : (rule_at s at).number ≡ 0 → at ≤ (rule_at s at).next
  unfolding rule4
  rule_further =
      rule_cases (λ (r : RuleLines). r.number ≡ 0 → at ≤ r.next) (λ f k w h z e. absurd (z e))
      (λ r e.
      let a = (hex_lies s at (bytes "pattern=") 128).further r.pattern in
      let b = (word_lies s pattern_of.next (bytes "action=") (bytes "allow|block")).further r.action in
      let c = (word_lies s action_of.next (bytes "qos=") (bytes "any|min0|min1|min2|only0|only1|only2")).further r.policy in
      let d = (number_lies s policy_of.next (bytes "rate=") 0 65535).further r.rate in
      rw (eq-eqb _ _ r.rate) (omega arith))

-- where a rule was read its buffer begins with its pattern
module _ (s : List ℕ) (at : ℕ) (d : List ℕ) where
  pattern_bytes : length d ≡ 128 → (rule_at s at).number ≡ 0 → take (length (pattern_in s (rule_at s at))) (pattern_kept s at d) ≡ pattern_in s (rule_at s at)
  unfolding rule4
  pattern_bytes l =
      rule_cases s at (λ (r : RuleLines). r.number ≡ 0 → take (length (pattern_in s r)) (pattern_kept s at d) ≡ pattern_in s r)
      (λ f k w h z e. absurd (z e))
      (λ r e. rw (eq-eqb _ _ r.rate, (hex_value s at (bytes "pattern=") 128 r.pattern).0) (kept s at (bytes "pattern=") d l r.pattern))

-- the pattern of a rule that was read is the first bytes of its buffer, which is as long as before
pub pattern_part : (s : List ℕ) (at : ℕ) {r : RuleLines} (d : List ℕ) {e : List ℕ} {n : ℕ} → r ≡ rule_at s at → r.number ≡ 0 → length d ≡ 128
    → e ≡ pattern_kept s at d → n ≡ (r.pattern_to - r.pattern_from) / 2 → (take n e ≡ pattern_in s r) × (n ≤ length e) × (length e ≡ 128)
pattern_part s at {r} d {e} {n} q z l k ne =
    let w = rule_within s at q in
    let u : length (pattern_in s r) ≡ n =
    unhex-length (part s r.pattern_from r.pattern_to) ∙ (simp (length-take, length-drop) (omega (arith, w.inside, w.ordered))) in
    let long : length e ≡ 128 = rw k (kept_long s at (bytes "pattern=") d ∙ l) in
    (rw (← u, k, q) (pattern_bytes s at d l (rw q at z)), omega (arith, w.short), long)
