-- The numbers that refuse a settings text: each that its lines give is that of one refusal (`at_known`), none is 0 (`refusal_real`), and no two refusals have the same
-- (`refusal_same`); and what a test of a line's number says (`checked_stops`, `checked_goes`). Assumes nothing.
use Prim.Native.Nat.{ℕ, ◌≤◌}
use mathlib.Core.Path.{◌≡◌, refl, sym, ap, ◌∙◌}
use mathlib.Core.Bool.{cond}
use native.Mathlib.Omega.{arith}
use lib.Dec.{eqb}
use borrow.Author.Tests.{eqb-true, eqb-false}
use Rattle.std.specs.Prelude.{Ok, Err}
use Rattle.laws.proofs.Cases.{by}
use Rattle.tables.specs.Rules.{rule_number}
use Rattle.tables.specs.declared.rules.RuleRefusal.{RuleRefusal}
use Rattle.tables.specs.declared.rules.RuleRefusal.TheVariants.{TableFull as RuleFull, BadPattern as RuleBad, NotUtf8 as RuleBroken}
use Rattle.settings.specs.Refused.{refusal_number, refusal_at, line_checked}
use Rattle.settings.specs.declared.refusal.Refused.{Refused}
use Rattle.settings.specs.declared.refusal.SettingsRefusal.{SettingsRefusal}
use Rattle.settings.specs.declared.refusal.SettingsRefusal.TheVariants.{TableFull, BadPattern, BadState, WrongKey, BadNumber, UnknownWord, BadHex, LongHex}
use Rattle.settings.specs.declared.refusal.SettingsRefusal.TheVariants.{NoLineEnd, LongText, NoRoom, UnknownForm, GivenTwice, NotUtf8, NoWord}

-- a number that a line gives
pub data Known : ℕ → Type 0 where
  known_line : {n : ℕ} → 21 ≤ n → n ≤ 26 → Known n
  known_form : Known 29

line_known : (n : ℕ) → 21 ≤ n → n ≤ 26 → refusal_number (refusal_at n) ≡ n
unfolding refusal_at
line_known n h g =
    by (eqb n 21) (λ t. let e = eqb-true n 21 t in rw e)
    (λ a. by (eqb n 22) (λ t. let e = eqb-true n 22 t in rw e)
    (λ b. by (eqb n 23) (λ t. let e = eqb-true n 23 t in rw e)
    (λ c. by (eqb n 24) (λ t. let e = eqb-true n 24 t in rw e)
    (λ d. by (eqb n 25) (λ t. let e = eqb-true n 25 t in rw e)
    (λ f.
    let e : n ≡ 26 = omega (arith, eqb-false n 21 a, eqb-false n 22 b, eqb-false n 23 c, eqb-false n 24 d, eqb-false n 25 f) in
    rw e)))))

pub at_known : {n : ℕ} → Known n → refusal_number (refusal_at n) ≡ n
unfolding refusal_at
at_known (known_line {n = n} h g) = line_known n h g
at_known known_form = refl

pub refusal_real : (e : SettingsRefusal) → 1 ≤ refusal_number e
refusal_real TableFull = omega arith
refusal_real BadPattern = omega arith
refusal_real BadState = omega arith
refusal_real WrongKey = omega arith
refusal_real BadNumber = omega arith
refusal_real UnknownWord = omega arith
refusal_real BadHex = omega arith
refusal_real LongHex = omega arith
refusal_real NoLineEnd = omega arith
refusal_real LongText = omega arith
refusal_real NoRoom = omega arith
refusal_real UnknownForm = omega arith
refusal_real GivenTwice = omega arith
refusal_real NotUtf8 = omega arith
refusal_real NoWord = omega arith

pub never_0 : (e : SettingsRefusal) → refusal_number e ≡ 0 → ⊥
never_0 e z = omega (arith, z, refusal_real e)

-- the refusal that has a number
refusal_of : ℕ → SettingsRefusal
refusal_of n =
    cond (eqb n 6) TableFull
    (cond (eqb n 9) BadPattern
    (cond (eqb n 10) BadState
    (cond (eqb n 27) LongText
    (cond (eqb n 28) NoRoom (cond (eqb n 35) GivenTwice (cond (eqb n 36) NotUtf8 (cond (eqb n 37) NoWord (refusal_at n))))))))

refusal_home : (e : SettingsRefusal) → refusal_of (refusal_number e) ≡ e
unfolding refusal_of refusal_at
refusal_home TableFull = refl
refusal_home BadPattern = refl
refusal_home BadState = refl
refusal_home WrongKey = refl
refusal_home BadNumber = refl
refusal_home UnknownWord = refl
refusal_home BadHex = refl
refusal_home LongHex = refl
refusal_home NoLineEnd = refl
refusal_home LongText = refl
refusal_home NoRoom = refl
refusal_home UnknownForm = refl
refusal_home GivenTwice = refl
refusal_home NotUtf8 = refl
refusal_home NoWord = refl

pub refusal_same : (e f : SettingsRefusal) → refusal_number e ≡ refusal_number f → e ≡ f
refusal_same e f p = sym (refusal_home e) ∙ ap refusal_of p ∙ refusal_home f

-- a line that was refused, and one that was read
pub checked_stops : (n l : ℕ) {e : Refused} → Err e ≡ line_checked n l → (n ≡ 0 → ⊥) × (e ≡ record { refusal = refusal_at n; line = l })
checked_stops n l = by (eqb n 0) (λ t. rw t (λ q. absurd (cc))) (λ t. rw t (λ q. (eqb-false n 0 t, cc)))

pub checked_goes : (n l : ℕ) {u : Unit} → Ok u ≡ line_checked n l → n ≡ 0
checked_goes n l = by (eqb n 0) (λ t q. eqb-true n 0 t) (λ t. rw t (λ q. absurd (cc)))

-- a rule's refusal has a number too
rule_real : (e : RuleRefusal) → 1 ≤ rule_number e
rule_real RuleFull = omega arith
rule_real RuleBad = omega arith
rule_real RuleBroken = omega arith

pub rule_never : (e : RuleRefusal) → rule_number e ≡ 0 → ⊥
rule_never e z = omega (arith, z, rule_real e)
