-- What holds of every line that is read at a place, on the definitions of `lines`: it lies in its text, and its number is 0 or one from 21 to 26; one that was read ends
-- further on by its key and its LF at least, its value is in range, and a lent buffer begins with the bytes of its hex. Assumes nothing.
use Prim.Native.Nat.{ℕ, ◌+◌, ◌%◌, ◌≤◌}
use mathlib.Core.Path.{◌≡◌, refl, sym, ap, ◌∙◌}
use mathlib.Core.Bool.{cond, ◌&&◌}
use mathlib.Core.List.{List}
use native.Mathlib.Omega.{arith}
use lib.Dec.{eqb, leb}
use lib.ListN.{length, take}
use borrow.Author.Tests.{eqb-true, eqb-false}
use Rattle.laws.specs.Lists.{every}
use Rattle.laws.proofs.Cases.{by}
use Rattle.slices.specs.Bytes.{begins, place_in}
use Rattle.lines.specs.Field.{Within, refused, read, keyed, line_at, value_of, on_line, answered, number_field, word_field, hex_field, hex_kept}
use Rattle.lines.specs.Line.{capped}
use Rattle.lines.specs.ReadDecimal.{decimal_of}
use Rattle.lines.specs.ReadHex.{is_hex, unhex, hex_count, hex_refusal}
use Rattle.lines.specs.ReadWord.{word_of}
use Rattle.lines.specs.Span.{span_of, part}
use Rattle.lines.specs.declared.read.Field.{Field}
use Rattle.lines.specs.declared.value.Number.{Number}
use Rattle.lines.specs.declared.value.Number.TheVariants.{Value, Bad}
use Rattle.lines.proofs.DecimalRound.{decimal_range}
use Rattle.lines.proofs.read.FieldLaws.{within_refused, line_inside, line_room}
use Rattle.lines.proofs.read.KeptLaws.{kept_bytes}
use Rattle.lines.proofs.HexRound.{unhex-length}
use Rattle.lines.proofs.value.HexLaws.{hex_taken}
use Rattle.lines.proofs.held.SpanLaws.{span_whole}

-- an answer that lies in its text, with a number that lines give
pub record Answer (s : List ℕ) (f : Field) : Type 0 where
  pub within : Within s f
  pub known : f.number ≤ 26
  pub real : (f.number ≡ 0 → ⊥) → 21 ≤ f.number

-- what a line with its key at a place gave
pub record Lies (s : List ℕ) (at : ℕ) (key : List ℕ) (f : Field) : Type 0 where
  pub answer : Answer s f
  pub further : f.number ≡ 0 → at + length key + 1 ≤ f.next

lies_refused : {s : List ℕ} {at : ℕ} {key : List ℕ} {f : Field} (number place : ℕ) → f ≡ refused number place → 21 ≤ number → number ≤ 26 → place ≤ length s
    → Lies s at key f
lies_refused number place e z m h =
    let k = ap (λ (f : Field). f.number) e in
    record {
      answer = record { within = within_refused number place e h; known = omega (arith, k); real = λ n. omega (arith, k) };
      further = λ n. absurd (omega (arith, k, n));
    }

-- a line that was read keeps its places, whatever its value is
lies_read : {s : List ℕ} {at : ℕ} {key : List ℕ} (line : Field) (v : ℕ) → line.number ≡ 0 → Lies s at key line → Lies s at key (read line v)
lies_read line v z l =
    record {
      answer =
          record {
            within = record { ordered = l.answer.within.ordered; inside = l.answer.within.inside; after = l.answer.within.after };
            known = omega arith;
            real = λ n. absurd (n refl);
          };
      further = λ n. l.further z;
    }

hex_known : (room : ℕ) (l : List ℕ) → hex_refusal room l ≤ 26
unfolding hex_refusal
hex_known room l =
    by (eqb (length l % 2) 0 && every is_hex l)
    (λ t. rw t (by (leb (hex_count l) room) (λ u. rw u (omega arith)) (λ u. rw u (omega arith))))
    (λ t. rw t (omega arith))

hex_real : (room : ℕ) (l : List ℕ) → (hex_refusal room l ≡ 0 → ⊥) → 21 ≤ hex_refusal room l
unfolding hex_refusal
hex_real room l =
    by (eqb (length l % 2) 0 && every is_hex l)
    (λ t. rw t (by (leb (hex_count l) room) (λ u. rw u (λ z. absurd (z refl))) (λ u. rw u (λ z. omega arith))))
    (λ t. rw t (λ z. omega arith))

module _ (s : List ℕ) (at : ℕ) (key : List ℕ) where
  line_lies : Lies s at key (line_at s at key)
  unfolding line_at keyed
  line_lies =
      let i = line_inside s at key {p = span_of s at} refl in
      by (span_of s at).whole
      (λ w.
      by (begins key (part s (span_of s at).from (span_of s at).to))
      (λ b.
      let h = line_room s at key {p = span_of s at} refl w b in
      let g = span_whole s at w in
      rw (w, b) (record { answer = record { within = record { ordered = h.0; inside = i.1; after = h.1 }; known = omega arith; real = λ n. absurd (n refl) }; further = λ n. omega arith }))
      (λ b. lies_refused 21 (span_of s at).from (rw (w, b)) (omega arith) (omega arith) (omega arith)))
      (λ w. lies_refused 26 (span_of s at).from (rw w) (omega arith) (omega arith) (omega arith))

  answered_lies : (number : ℕ) (n : Number) → 21 ≤ number → number ≤ 26 → Lies s at key (on_line (line_at s at key) (answered (line_at s at key) (place_in s at) number n))
  unfolding answered
  answered_lies number n z m =
      by (eqb (line_at s at key).number 0) (λ t. rw t (by_number n (eqb-true _ _ t))) (λ t. rw t line_lies)
    where
      by_number : (n : Number) → (line_at s at key).number ≡ 0 → Lies s at key (answered (line_at s at key) (place_in s at) number n)
      by_number (Value v) e = lies_read (line_at s at key) v e line_lies
      by_number Bad e = lies_refused number (place_in s at) refl z m (omega arith)

  pub number_lies : (low high : ℕ) → Lies s at key (number_field s at key low high)
  unfolding number_field
  number_lies low high = answered_lies 22 (decimal_of low high (value_of s (line_at s at key))) (omega arith) (omega arith)

  pub word_lies : (ws : List ℕ) → Lies s at key (word_field s at key ws)
  unfolding word_field
  word_lies ws = answered_lies 23 (word_of ws (value_of s (line_at s at key))) (omega arith) (omega arith)

  pub hex_lies : (room : ℕ) → Lies s at key (hex_field s at key room)
  unfolding hex_field
  hex_lies room =
      let l = value_of s (line_at s at key) in
      by (eqb (line_at s at key).number 0)
      (λ t.
      by (eqb (hex_refusal room l) 0)
      (λ u. rw (t, u) (lies_read (line_at s at key) (hex_count l) (eqb-true _ _ t) line_lies))
      (λ u. rw (t, u) (lies_refused (hex_refusal room l) (place_in s at) refl (hex_real room l (eqb-false _ _ u)) (hex_known room l) (omega arith))))
      (λ t. rw t line_lies)

  -- a number that was read is not over its range
  pub number-value : (low high : ℕ) → (number_field s at key low high).number ≡ 0 → (number_field s at key low high).value ≤ high
  unfolding number_field answered
  number-value low high e =
      by (eqb (line_at s at key).number 0)
      (λ t. rw t (by_number (decimal_of low high (value_of s (line_at s at key))) refl (rw t at e)))
      (λ t. absurd (eqb-false _ _ t (rw t at e)))
    where
      by_number : (n : Number) → decimal_of low high (value_of s (line_at s at key)) ≡ n → (answered (line_at s at key) (place_in s at) 22 n).number ≡ 0
          → (answered (line_at s at key) (place_in s at) 22 n).value ≤ high
      by_number (Value v) q e = (decimal_range low high _ v q).1
      by_number Bad q e = absurd (omega (arith, e))

  -- hex that was read has as many bytes as it says, and no more than there is room for
  pub hex_value : (room : ℕ) → (hex_field s at key room).number ≡ 0
      → (length (unhex (value_of s (hex_field s at key room))) ≡ (hex_field s at key room).value) × ((hex_field s at key room).value ≤ room)
  unfolding hex_field
  hex_value room e =
      let l = value_of s (line_at s at key) in
      by (eqb (line_at s at key).number 0)
      (λ t.
      by (eqb (hex_refusal room l) 0)
      (λ u. rw (t, u) (unhex-length l, (hex_taken room l (eqb-true _ _ u)).2))
      (λ u. absurd (eqb-false _ _ u (rw (t, u) at e))))
      (λ t. absurd (eqb-false _ _ t (rw t at e)))

  -- the same of what a reader of a line hands back
  pub number_fits : {f : Field} (low high : ℕ) → f ≡ number_field s at key low high → f.number ≡ 0 → f.value ≤ high
  number_fits low high e z = rw e (number-value low high (rw e at z))

  pub hex_fits : {f : Field} (room : ℕ) → f ≡ hex_field s at key room → f.number ≡ 0 → f.value ≤ room
  hex_fits room e z = rw e (hex_value room (rw e at z)).1

-- a group goes on after a line that was read, and stopped at one that was refused
pub either : {A : Type 0} (P : A → Type 0) (f : Field) {g stop : A} → (f.number ≡ 0 → P g) → ((f.number ≡ 0 → ⊥) → P stop) → P (cond (eqb f.number 0) g stop)
either P f p q = by (eqb f.number 0) (λ t. rw t (p (eqb-true _ _ t))) (λ t. rw t (q (eqb-false _ _ t)))

-- a line of hex that was read: the buffer begins with its bytes
pub kept : (s : List ℕ) (at : ℕ) (key d : List ℕ) {room : ℕ} → length d ≡ room → (hex_field s at key room).number ≡ 0
    → take (hex_field s at key room).value (hex_kept s at key d) ≡ unhex (value_of s (hex_field s at key room))
kept s at key d l e = rw (← l) (kept_bytes s at key d (rw (← l) at e))

-- a length that is handed back is the length itself, where no line is longer than a page
pub uncapped : {p n : ℕ} → p ≡ capped n → n ≤ 10000 → p ≡ n
uncapped e h = omega arith
