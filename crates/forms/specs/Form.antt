-- Forms of text. A form says what is written of a value, of how many lines, which values fit, and what is read of a text at a place. `Round` is the law of a form, both ways: what is written of a
-- value that fits is read as it, and what is read was written so. Below are the forms of single lines, and the ways to put forms together; each way keeps the law (proofs/FormRound.antt), so a
-- form's law is put together as the form is.
-- A reader stops at the first line that is refused, with its number, and counts the lines of the text from 1.
-- Assumes nothing.
use Rattle.std.specs.Prelude.{ℕ, zero, suc, ◌+◌, ◌≤◌, ◌<◌, ◌≡◌, cond, List, [], ◌∷◌, ◌++◌, eqb, leb, length, get_or}
use Rattle.lines.specs.Field.{number_field, word_field, hex_field, value_of, text_end}
use Rattle.lines.specs.Line.{number_line, word_line, hex_line}
use Rattle.lines.specs.ReadHex.{unhex}
use Rattle.lines.specs.Word.{words_of}
use Rattle.lines.specs.declared.read.Field.{Field}
use Rattle.forms.specs.Stands.{Stands}

-- what a reader gives: a value, with the place after it and the count of lines up to there; or the number that refused a line, and which line that is
pub data Took (A : Type 0) : Type 0 where
  took : A → ℕ → ℕ → Took A
  stopped : ℕ → ℕ → Took A

-- go on after what was taken
unfoldable pub on_took : {A B : Type 0} → Took A → (A → ℕ → ℕ → Took B) → Took B
on_took (took a place lines) go = go a place lines
on_took (stopped number line) go = stopped number line

-- a form: the text of a value, how many lines that has, which values fit, and the reader, of a text at a place after so many lines
pub record Form (A : Type 0) : Type 1 where
  pub text : A → List ℕ
  pub count : A → ℕ
  pub fits : A → Type 0
  pub read : List ℕ → ℕ → ℕ → Took A

-- the law of a form
pub record Round {A : Type 0} (F : Form A) : Type 0 where
  -- where the text of a value that fits stands, that value is read
  pub there :
      {s : List ℕ} {at r : ℕ} (line : ℕ) {v : A} → F.fits v → Stands s at (F.text v) r → F.read s at line ≡ took v r (line + F.count v)
  -- what is read fits, and its text stands there
  pub back :
      (s : List ℕ) (at line : ℕ) {v : A} {r l : ℕ} → F.read s at line ≡ took v r l
      → Stands s at (F.text v) r × F.fits v × (l ≡ line + F.count v)

-- ONE LINE

-- a line that was read gives its value, one that was refused its number
abbrev pub field_took : {A : Type 0} → Field → A → ℕ → Took A
field_took f v line = cond (eqb f.number 0) (took v f.next (line + 1)) (stopped f.number (line + 1))

-- a number in low..high
unfoldable pub number_form : List ℕ → ℕ → ℕ → Form ℕ
number_form key low high =
    record {
      text = number_line key;
      count = λ v. 1;
      fits = λ v. (low ≤ v) × (v ≤ high);
      read = λ s at line. field_took (number_field s at key low high) (number_field s at key low high).value line;
    }

-- one of some words, by its place among them
unfoldable pub word_form : List ℕ → List ℕ → Form ℕ
word_form key ws =
    record {
      text = word_line key ws;
      count = λ v. 1;
      fits = λ v. v < length (words_of ws);
      read = λ s at line. field_took (word_field s at key ws) (word_field s at key ws).value line;
    }

-- at most so many bytes in hex
unfoldable pub hex_form : List ℕ → ℕ → Form (List ℕ)
hex_form key room =
    record {
      text = hex_line key;
      count = λ v. 1;
      fits = λ v. (length v ≤ room) × ((i : ℕ) → get_or v i 0 < 256);
      read = λ s at line. field_took (hex_field s at key room) (unhex (value_of s (hex_field s at key room))) line;
    }

-- WAYS TO PUT FORMS TOGETHER

-- no line at all: it stands for one value
unfoldable pub none_form : {A : Type 0} → A → Form A
none_form a = record { text = λ v. []; count = λ v. 0; fits = λ v. v ≡ a; read = λ s at line. took a at line }

-- one form and then another, which may depend on the value of the first
unfoldable pub pair_form : {A B : Type 0} → Form A → (A → Form B) → Form (A × B)
pair_form F G =
    record {
      text = λ v. F.text v.0 ++ (G v.0).text v.1;
      count = λ v. F.count v.0 + (G v.0).count v.1;
      fits = λ v. F.fits v.0 × (G v.0).fits v.1;
      read = λ s at line. on_took (F.read s at line) (λ a p l. on_took ((G a).read s p l) (λ b q m. took (a, b) q m));
    }

-- the same text for values of another type
unfoldable pub map_form : {A B : Type 0} → (A → B) → (B → A) → Form A → Form B
map_form to from F =
    record {
      text = λ v. F.text (from v);
      count = λ v. F.count (from v);
      fits = λ v. F.fits (from v) × (to (from v) ≡ v);
      read = λ s at line. on_took (F.read s at line) (λ a p l. took (to a) p l);
    }

-- a form whose value is tested: a number other than 0 refuses it, at its last line
unfoldable pub test_form : {A : Type 0} → (A → ℕ) → Form A → Form A
test_form test F =
    record {
      text = F.text;
      count = F.count;
      fits = λ v. F.fits v × (test v ≡ 0);
      read = λ s at line. on_took (F.read s at line) (λ a p l. cond (eqb (test a) 0) (took a p l) (stopped (test a) l));
    }

-- a form whose refusals have other numbers
unfoldable pub renumbered : {A : Type 0} → (ℕ → ℕ) → Took A → Took A
renumbered f (took a p l) = took a p l
renumbered f (stopped n l) = stopped (f n) l

unfoldable pub numbered_form : {A : Type 0} → (ℕ → ℕ) → Form A → Form A
numbered_form f F =
    record { text = F.text; count = F.count; fits = F.fits; read = λ s at line. renumbered f (F.read s at line) }

-- values one after another, each of which may depend on those before it: their texts, their lines, which lists fit, and so many of them read
unfoldable pub text_all : {A : Type 0} → (List A → Form A) → List A → List A → List ℕ
text_all F before [] = []
text_all F before (a ∷ rest) = (F before).text a ++ text_all F (before ++ (a ∷ [])) rest

unfoldable pub count_all : {A : Type 0} → (List A → Form A) → List A → List A → ℕ
count_all F before [] = 0
count_all F before (a ∷ rest) = (F before).count a + count_all F (before ++ (a ∷ [])) rest

pub data FitAll {A : Type 0} (F : List A → Form A) : List A → List A → Type 0 where
  fit_none : {before : List A} → FitAll F before []
  fit_more : {before : List A} {a : A} {rest : List A} → (F before).fits a → FitAll F (before ++ (a ∷ [])) rest → FitAll F before (a ∷ rest)

unfoldable pub read_all : {A : Type 0} → (List A → Form A) → ℕ → List A → List ℕ → ℕ → ℕ → Took (List A)
read_all F zero before s at line = took [] at line
read_all F (suc k) before s at line =
    on_took ((F before).read s at line)
    (λ a p l. on_took (read_all F k (before ++ (a ∷ [])) s p l) (λ rest q m. took (a ∷ rest) q m))

-- so many of one form
unfoldable pub many_form : {A : Type 0} → (List A → Form A) → ℕ → Form (List A)
many_form F k =
    record {
      text = text_all F [];
      count = count_all F [];
      fits = λ v. (length v ≡ k) × FitAll F [] v;
      read = read_all F k [];
    }

-- A WHOLE TEXT

-- after what was read nothing may stand: one line more is 21, or 26 where it has no LF, at that line
unfoldable pub ended : {A : Type 0} → List ℕ → Took A → Took A
ended s t = on_took t (λ a p l. cond (eqb (text_end s p) 0) (took a p l) (stopped (text_end s p) (l + 1)))

-- a whole text of a form; 27 for one over 65,536 bytes, tested first, line 0
unfoldable pub whole_of : {A : Type 0} → Form A → List ℕ → Took A
whole_of F s = cond (leb (length s) 65536) (ended s (F.read s 0 0)) (stopped 27 0)
