-- When two numbers are those of a later and an earlier rule, what refuses a question after them, and what is then told. Assumes nothing.
use Prim.Native.Nat.{ℕ, ◌-◌, ◌≤◌, ◌<◌}
use mathlib.Core.Bool.{false, true}
use mathlib.Core.Path.{◌≡◌}
use mathlib.Core.List.{List}
use native.Mathlib.Omega.{arith}
use borrow.Author.Tests.{ltb-true, leb-true, eqb-false, lt-ltb, le-ltb, eq-eqb, ne_eqb}
use lib.Dec.{eqb, ltb, leb}
use lib.ListN.{length, get_or}
use Rattle.laws.proofs.Cases.{by}
use Rattle.laws.proofs.Tests.{never}
use Rattle.topics.specs.Matching.{is_standard}
use Rattle.topics.specs.declared.covering.Witness.{Witness}
use Rattle.topics.specs.declared.matching.Matching.{Matching}
use Rattle.topics.proofs.covering.WitnessLaws.{witness_fits}
use Rattle.lines.specs.Wrote.{Wrote}
use Rattle.tables.specs.Covers.{rule_witness}
use Rattle.tables.specs.Rules.{pattern_of, no_rule}
use Rattle.tables.specs.declared.rules.TopicRule.{TopicRule}
use Rattle.settings.specs.Dead.{is_pair, pair_number, between_told, pair_of}
use Rattle.settings.specs.Told.{closing_told}
use Rattle.settings.specs.Kept.{SettingsRead}

module _ (count later earlier : ℕ) where
  pub pair_none : earlier ≡ 0 → false ≡ is_pair count later earlier
  unfolding is_pair
  pair_none e = rw (le-ltb 0 earlier (omega (arith, e)))

  pub pair_turned : (earlier ≡ 0 → ⊥) → later ≤ earlier → false ≡ is_pair count later earlier
  unfolding is_pair
  pair_turned z h = rw (lt-ltb 0 earlier (omega (arith, z)), le-ltb earlier later h)

  pub pair_asked : (earlier ≡ 0 → ⊥) → earlier < later → leb later count ≡ is_pair count later earlier
  unfolding is_pair
  pair_asked z h = rw (lt-ltb 0 earlier (omega (arith, z)), lt-ltb earlier later h)

  pub pair_says : is_pair count later earlier ≡ true → (0 < earlier) × (earlier < later) × (later ≤ count)
  unfolding is_pair
  pair_says e =
      by (ltb 0 earlier)
      (λ t.
      by (ltb earlier later)
      (λ u. let w : leb later count ≡ true = rw (t, u) at e in (ltb-true 0 earlier t, ltb-true earlier later u, leb-true later count w))
      (λ u. never (rw (t, u) at e)))
      (λ t. never (rw t at e))

module _ (r : SettingsRead) (later earlier : ℕ) where
  pub pair_refused : (r.number ≡ 0 → ⊥) → r.number ≡ pair_number r later earlier
  unfolding pair_number
  pair_refused z = rw (ne_eqb r.number 0 z)

  pub pair_taken : r.number ≡ 0 → is_pair r.rule_count later earlier ≡ true → 0 ≡ pair_number r later earlier
  unfolding pair_number
  pair_taken z p = rw (eq-eqb r.number 0 z, p)

  pub pair_no : r.number ≡ 0 → is_pair r.rule_count later earlier ≡ false → 9 ≡ pair_number r later earlier
  unfolding pair_number
  pair_no z p = rw (eq-eqb r.number 0 z, p)

  is_taken : pair_number r later earlier ≡ 0 → is_pair r.rule_count later earlier ≡ true
  unfolding pair_number
  is_taken e =
      by (eqb r.number 0)
      (λ t. by (is_pair r.rule_count later earlier) (λ p. p) (λ p. let z : 9 ≡ 0 = rw (t, p) at e in absurd (omega (arith, z))))
      (λ f. absurd (eqb-false r.number 0 f (rw f at e)))

  -- a number that is 0 says that both are there
  pub pair_there : {n : ℕ} → n ≡ pair_number r later earlier → n ≡ 0 → r.rule_count ≤ 32 → (0 < earlier) × (earlier < later) × (later ≤ 32)
  pair_there q z most =
      let p = pair_says r.rule_count later earlier (is_taken (rw q at z)) in (p.0, p.1, omega (arith, p.2, most))

  -- what is told: how the question is refused, or what was found
  pub refused_wrote : {n : ℕ} {d e : List ℕ} {x : ℕ} → n ≡ pair_number r later earlier → (n ≡ 0 → ⊥) → Wrote d e 0 (closing_told n r.line) x × (length (closing_told n r.line) ≤ 60)
      → Wrote d e 0 (pair_of later earlier r) x × (length (pair_of later earlier r) ≤ 16384)
  unfolding pair_of
  refused_wrote {n = n} q z a = rw (← q, ne_eqb n 0 z) (a.0, omega (arith, a.1))

  pub found_wrote : {n : ℕ} {w : Witness} {d e : List ℕ} {x : ℕ} → n ≡ pair_number r later earlier → n ≡ 0
      → w ≡ rule_witness r.matching (get_or r.rules (later - 1) no_rule) (get_or r.rules (earlier - 1) no_rule)
      → Wrote d e 0 (between_told later earlier w) x × (length (between_told later earlier w) ≤ 600) → Wrote d e 0 (pair_of later earlier r) x × (length (pair_of later earlier r) ≤ 16384)
  unfolding pair_of
  found_wrote {n = n} q z g a = rw (← q, eq-eqb n 0 z, ← g) (a.0, omega (arith, a.1))

-- a topic between two rules is shorter than the room for it
pub witness_short : (matching : Matching) (later earlier : TopicRule) {w : Witness} → w ≡ rule_witness matching later earlier → w.len ≤ 128
unfolding rule_witness
witness_short matching later earlier e = rw e (omega (arith, witness_fits (is_standard matching) (is_standard matching) (pattern_of earlier) (pattern_of later)))
