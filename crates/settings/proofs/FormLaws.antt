-- Which forms take which matchers: a form is not refused for settings (`form_refusal`) exactly where it is known and has a word for their matcher, so that its lines fit. Assumes nothing.
use Prim.Native.Nat.{ℕ}
use mathlib.Core.Path.{◌≡◌, refl}
use mathlib.Core.Bool.{true, cond, false≢true}
use native.Mathlib.Omega.{arith}
use lib.Dec.{eqb}
use borrow.Author.Tests.{eq-eqb, eqb-true, eqb-false}
use Rattle.laws.proofs.Cases.{by}
use Rattle.topics.specs.Matching.{is_standard}
use Rattle.topics.specs.declared.matching.Matching.{Matching}
use Rattle.topics.specs.declared.matching.Matching.TheVariants.{Port, Standard}
use Rattle.lines.specs.Word.{first_word, rest_words}
use Rattle.forms.specs.Form.{word_form, none_form, map_form, numbered_form}
use Rattle.settings.specs.SettingsText.{is_form, form_among, form_form, match_in, form_refusal}

-- by the two forms
pub by_form : (form : ℕ) {P : Type 0} → is_form form ≡ true → (form ≡ 1 → P) → (form ≡ 2 → P) → P
by_form form e one two =
    by (eqb form 1) (λ t. one (eqb-true _ _ t)) (λ t. by (eqb form 2) (λ u. two (eqb-true _ _ u)) (λ u. absurd (false≢true (rw (t, u) at e))))

-- a form that is not refused is known
pub taken_known : (form : ℕ) (m : Matching) → form_refusal form m ≡ 0 → is_form form ≡ true
unfolding form_refusal
taken_known form m e = by (is_form form) (λ t. t) (λ t. absurd (let q : 29 ≡ 0 = rw t at e in omega arith))

-- form 1 takes the port alone, and form 2 both
pub one_port : (m : Matching) → form_refusal 1 m ≡ 0 → m ≡ Port
unfolding form_refusal
one_port Port e = refl
one_port Standard e = absurd (omega (arith, e))

pub port_taken : (form : ℕ) → is_form form ≡ true → form_refusal form Port ≡ 0
unfolding form_refusal
port_taken form k = by (eqb form 1) (λ t. rw (k, t)) (λ t. rw (k, t))

pub two_taken : (m : Matching) → form_refusal 2 m ≡ 0
unfolding form_refusal
two_taken m = refl

-- 37 is for form 1 and the standard alone
pub refused_37 : (form : ℕ) (m : Matching) → form_refusal form m ≡ 37 → (form ≡ 1) × (m ≡ Standard)
unfolding form_refusal
refused_37 form m e =
    by (is_form form)
    (λ t.
    by (eqb form 1)
    (λ u. (eqb-true _ _ u, by_matcher m (rw (t, u) at e)))
    (λ u. absurd (let q : 0 ≡ 37 = rw (t, u) at e in omega arith)))
    (λ t. absurd (let q : 29 ≡ 37 = rw t at e in omega arith))
  where
    by_matcher : (m : Matching) → ◌≡◌ {A = ℕ} (cond (is_standard m) 37 0) 37 → m ≡ Standard
    by_matcher Port q = absurd (omega (arith, q))
    by_matcher Standard q = refl

-- so the form's word and the matcher's fit where it is not refused
pub form-fits : (form : ℕ) → is_form form ≡ true → form_form.fits form
unfolding form_form form_among numbered_form map_form word_form first_word rest_words
form-fits form k = by_form form k (λ e. (omega arith, omega arith)) (λ e. (omega arith, omega arith))

word_fits : (m : Matching) → (match_in 2).fits m
unfolding match_in map_form word_form first_word rest_words
word_fits Port = (omega arith, refl)
word_fits Standard = (omega arith, refl)

none_fits : (m : Matching) → m ≡ Port → (match_in 1).fits m
unfolding match_in none_form
none_fits m e = e

pub match_fits : (form : ℕ) (m : Matching) → form_refusal form m ≡ 0 → (match_in form).fits m
match_fits form m e =
    by_form form (taken_known form m e)
    (λ q. rw q (none_fits m (one_port m (rw q at e))))
    (λ q. rw q (word_fits m))

-- and where they fit, it is not refused
pub fits_known : (form : ℕ) → form_form.fits form → is_form form ≡ true
unfolding form_form form_among numbered_form map_form word_form first_word rest_words
fits_known form f =
    by (eqb form 1) (λ t. rw t)
    (λ t. let n = eqb-false form 1 t in rw (t, eq-eqb form 2 (omega (arith, f.0, f.1, n))))

pub fits_taken : (form : ℕ) (m : Matching) → form_form.fits form → (match_in form).fits m → form_refusal form m ≡ 0
unfolding match_in none_form
fits_taken form m f g =
    let k = fits_known form f in
    by_form form k
    (λ q. let e : m ≡ Port = rw q at g in rw e (port_taken form k))
    (λ q. rw q (two_taken m))
