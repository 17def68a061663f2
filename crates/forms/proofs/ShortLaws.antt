-- How long the texts of a form can be. A reader tests the length of a whole text first (27), so whoever says that what is written is read back has to know it; and whoever lends a buffer wants to.
-- Assumes nothing.
use Prim.Native.Nat.{ℕ, suc, ◌+◌, ◌*◌, ◌^◌, ◌≤◌, ◌<◌}
use mathlib.Core.Bool.{true}
use mathlib.Core.List.{List, [], ◌∷◌, ◌++◌}
use mathlib.Core.Path.{◌≡◌}
use native.Mathlib.Omega.{arith}
use native.Mathlib.Nat.{suc-mul}
use lib.Dec.{leb}
use lib.ListN.{length, length-append, get_or-eq_default}
use borrow.Author.Tests.{leb-true}
use Rattle.laws.specs.Lists.{every}
use Rattle.laws.proofs.Cases.{by_le}
use Rattle.laws.proofs.Every.{every_at}
use Rattle.lines.specs.Word.{words_of, word_text}
use Rattle.lines.proofs.put.DecimalLaws.{decimal_short}
use Rattle.lines.proofs.lengths.LineLaws.{number_line-length, word_line-length}
use Rattle.forms.specs.Form.{Form, number_form, word_form, none_form, pair_form, map_form, numbered_form, text_all, FitAll, fit_more, many_form}

-- no text of a value that fits is longer
abbrev pub Short : {A : Type 0} → Form A → ℕ → Type 0
Short {A} F n = (v : A) → F.fits v → length (F.text v) ≤ n

-- a number of so many digits
pub number_short : (key : List ℕ) (low high k : ℕ) → high < 10 ^ suc k → Short (number_form key low high) (length key + suc k + 1)
unfolding number_form
number_short key low high k h v f = rw number_line-length (omega (arith, decimal_short k v (omega (arith, h, f.1))))

-- a word of a list whose words all have at most so many bytes; past its end there is none
pub word_long : (ws : List ℕ) (n : ℕ) → every (λ w. leb (length w) n) (words_of ws) ≡ true → (k : ℕ) → length (word_text ws k) ≤ n
unfolding word_text
word_long ws n e k =
    by_le (length (words_of ws)) k
    (λ h. rw (get_or-eq_default (words_of ws) [] {n = k} h) (omega arith))
    (λ h. leb-true _ _ (every_at (λ (w : List ℕ). leb (length w) n) (words_of ws) [] k e h))

pub word_short : (key ws : List ℕ) (n : ℕ) → every (λ w. leb (length w) n) (words_of ws) ≡ true → Short (word_form key ws) (length key + n + 1)
unfolding word_form
word_short key ws n e v f = rw word_line-length (omega (arith, word_long ws n e v))

pub none_short : {A : Type 0} (a : A) → Short (none_form a) 0
unfolding none_form
none_short a v f = omega arith

pub pair_short : {A B : Type 0} (F : Form A) (G : A → Form B) {n m : ℕ} → Short F n → ((a : A) → F.fits a → Short (G a) m) → Short (pair_form F G) (n + m)
unfolding pair_form
pair_short F G f g v h =
    rw length-append (let a = f v.0 h.0 in let b = g v.0 h.0 v.1 h.1 in omega arith)

pub map_short : {A B : Type 0} (to : A → B) (from : B → A) (F : Form A) {n : ℕ} → Short F n → Short (map_form to from F) n
unfolding map_form
map_short to from F f v h = f (from v) h.0

pub numbered_short : {A : Type 0} (g : ℕ → ℕ) (F : Form A) {n : ℕ} → Short F n → Short (numbered_form g F) n
unfolding numbered_form
numbered_short g F f v h = f v h

-- so many of one form
all_short : {A : Type 0} (F : List A → Form A) (n : ℕ) → ((before : List A) → Short (F before) n) → (before v : List A) → FitAll F before v → length (text_all F before v) ≤ length v * n
unfolding text_all
all_short F n f before [] h = omega arith
all_short F n f before (x ∷ v) (fit_more hx hv) =
    rw (length-append, suc-mul) (let a = f before x hx in let b = all_short F n f (before ++ (x ∷ [])) v hv in omega arith)

pub many_short : {A : Type 0} (F : List A → Form A) (n : ℕ) → ((before : List A) → Short (F before) n) → (k : ℕ) → Short (many_form F k) (k * n)
unfolding many_form
many_short F n f k v h = rw (← h.0) (all_short F n f [] v h.1)
