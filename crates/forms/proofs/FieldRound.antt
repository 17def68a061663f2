-- Fields there and back, at a place of a longer text: where the line of a value stands that value is read, and what is read stands there as its line; numbers, words and hex. Assumes nothing.
use Prim.Native.Nat.{ℕ, ◌+◌, ◌-◌, ◌≤◌, ◌<◌}
use mathlib.Core.Path.{◌≡◌, refl}
use mathlib.Core.Bool.{true}
use mathlib.Core.List.{List, [], ◌∷◌, ◌++◌}
use native.Mathlib.Omega.{arith}
use lib.Dec.{eqb, ltb}
use lib.ListN.{length, get_or}
use borrow.Author.Tests.{eqb-true, eqb-false, ltb-true}
use Rattle.laws.specs.Lists.{every}
use Rattle.slices.specs.Bytes.{place_in}
use Rattle.lines.specs.Decimal.{decimal}
use Rattle.lines.specs.Hex.{hex_text}
use Rattle.lines.specs.Word.{words_of, word_text}
use Rattle.lines.specs.Line.{number_line, word_line, hex_line}
use Rattle.lines.specs.ReadDecimal.{decimal_of}
use Rattle.lines.specs.ReadWord.{word_index, word_of, different}
use Rattle.lines.specs.ReadHex.{unhex, hex_count, hex_refusal}
use Rattle.lines.specs.Field.{read, line_at, value_of, on_line, answered, number_field, word_field, hex_field}
use Rattle.lines.specs.declared.read.Field.{Field}
use Rattle.lines.specs.declared.value.Number.{Number}
use Rattle.lines.specs.declared.value.Number.TheVariants.{Value, Bad}
use Rattle.laws.proofs.Cases.{by}
use Rattle.lines.proofs.DecimalRound.{decimal_read, decimal_unique, decimal_range}
use Rattle.lines.proofs.Round.{round}
use Rattle.lines.proofs.HexRound.{hex_read, hex_back, hex_unique}
use Rattle.lines.proofs.put.HexLaws.{hex_length}
use Rattle.forms.specs.Stands.{Stands}
use Rattle.forms.proofs.PlainLaws.{in_line, decimal_plain, word_plain, hex_plain}
use Rattle.forms.proofs.LineRound.{line_read, line_there, line_value, line_back}

-- a line with a value that spells a number: what was read of it
record Answered (s : List ℕ) (at : ℕ) (key : List ℕ) (f : Field) (n : Number) : Type 0 where
  line : (line_at s at key).number ≡ 0
  spelled : n ≡ Value f.value
  next : f.next ≡ (line_at s at key).next

answered_by : (s : List ℕ) (at : ℕ) (key : List ℕ) (number : ℕ) (n : Number) → (number ≡ 0 → ⊥)
    → (on_line (line_at s at key) (answered (line_at s at key) (place_in s at) number n)).number ≡ 0
    → Answered s at key (on_line (line_at s at key) (answered (line_at s at key) (place_in s at) number n)) n
unfolding answered
answered_by s at key number n h z =
    by (eqb (line_at s at key).number 0)
    (λ t. rw t (by_number n (rw t at z) (eqb-true _ _ t)))
    (λ t. absurd (eqb-false _ _ t (rw t at z)))
  where
    by_number : (n : Number) → (answered (line_at s at key) (place_in s at) number n).number ≡ 0 → (line_at s at key).number ≡ 0
        → Answered s at key (answered (line_at s at key) (place_in s at) number n) n
    by_number (Value v) z l = record { line = l; spelled = refl; next = refl }
    by_number Bad z l = absurd (h z)

-- numbers
module _ (key : List ℕ) (low high : ℕ) where
  pub number_there : every in_line key ≡ true → {s : List ℕ} {at r : ℕ} (n : ℕ) → low ≤ n → n ≤ high → Stands s at (number_line key n) r
      → number_field s at key low high ≡ line_read n (at + length key) (at + length (key ++ decimal n)) r
  unfolding number_line number_field answered
  number_there kp {s} {at} {r} n h g a =
      rw (
        line_there key kp (decimal n) (decimal_plain n) a,
        line_value key kp (decimal n) (decimal_plain n) a,
        decimal_read low high n h g,
        answered,
        line_there key kp (decimal n) (decimal_plain n) a,
      )

  pub number_back : (s : List ℕ) (at : ℕ) → (number_field s at key low high).number ≡ 0
      → Stands s at (number_line key (number_field s at key low high).value) (number_field s at key low high).next
      × (low ≤ (number_field s at key low high).value) × ((number_field s at key low high).value ≤ high)
  unfolding number_line number_field
  number_back s at z =
      let l = value_of s (line_at s at key) in
      let a = answered_by s at key 22 (decimal_of low high l) (λ q. omega arith) z in
      let u = decimal_unique low high l _ a.spelled in
      let r = decimal_range low high l _ a.spelled in
      (rw (← u, a.next) (line_back s at key a.line), r.0, r.1)

-- a word that was read is one of the list
word_range : (ws l : List ℕ) (k : ℕ) → word_of ws l ≡ Value k → k < length (words_of ws)
unfolding word_of
word_range ws l k e =
    by (ltb (word_index (words_of ws) l) (length (words_of ws)))
    (λ t.
    let q : Value (word_index (words_of ws) l) ≡ Value k = rw t at e in
    let i : word_index (words_of ws) l ≡ k = cc in
    rw i at (ltb-true (word_index (words_of ws) l) (length (words_of ws)) t))
    (λ t. absurd (let q : Bad ≡ Value k = rw t at e in let z : ◌≡◌ {A = ℕ} 0 1 = cc in omega arith))

-- words
module _ (key ws : List ℕ) where
  pub word_there : every in_line key ≡ true → every in_line ws ≡ true → different (words_of ws) ≡ true
      → {s : List ℕ} {at r : ℕ} (n : ℕ) → n < length (words_of ws) → Stands s at (word_line key ws n) r
      → word_field s at key ws ≡ line_read n (at + length key) (at + length (key ++ word_text ws n)) r
  unfolding word_line word_field answered
  word_there kp wp d {s} {at} {r} n h a =
      rw (
        line_there key kp (word_text ws n) (word_plain ws n wp) a,
        line_value key kp (word_text ws n) (word_plain ws n wp) a,
        round.word_read ws n d h,
        answered,
        line_there key kp (word_text ws n) (word_plain ws n wp) a,
      )

  -- a value that is none of the words is 23
  pub word_not_there : every in_line key ≡ true → (v : List ℕ) → every in_line v ≡ true → word_of ws v ≡ Bad → {s : List ℕ} {at r : ℕ} → Stands s at (key ++ v ++ (10 ∷ [])) r
      → (word_field s at key ws).number ≡ 23
  unfolding word_field answered
  word_not_there kp v vp b a = rw (line_there key kp v vp a, line_value key kp v vp a, b, answered)

  pub word_back : (s : List ℕ) (at : ℕ) → (word_field s at key ws).number ≡ 0
      → Stands s at (word_line key ws (word_field s at key ws).value) (word_field s at key ws).next × ((word_field s at key ws).value < length (words_of ws))
  unfolding word_line word_field
  word_back s at z =
      let l = value_of s (line_at s at key) in
      let a = answered_by s at key 23 (word_of ws l) (λ q. omega arith) z in
      let u = round.word_written ws l _ a.spelled in
      (rw (← u, a.next) (line_back s at key a.line), word_range ws l _ a.spelled)

-- bytes in hex: how many they are, and which
module _ (key : List ℕ) (room : ℕ) where
  pub hex_there : every in_line key ≡ true → {s : List ℕ} {at r : ℕ} (v : List ℕ) → ((i : ℕ) → get_or v i 0 < 256) → length v ≤ room
      → Stands s at (hex_line key v) r → hex_field s at key room ≡ line_read (length v) (at + length key) (at + length (key ++ hex_text v)) r
  unfolding hex_line hex_field
  hex_there kp {s} {at} {r} v b h a =
      let n : hex_count (hex_text v) ≡ length v = let l = hex_length v in omega arith in
      rw (line_there key kp (hex_text v) (hex_plain v b) a, line_value key kp (hex_text v) (hex_plain v b) a, hex_read room v b h, n)

  pub hex_bytes : every in_line key ≡ true → {s : List ℕ} {at r : ℕ} (v : List ℕ) → ((i : ℕ) → get_or v i 0 < 256) → length v ≤ room
      → Stands s at (hex_line key v) r → unhex (value_of s (hex_field s at key room)) ≡ v
  unfolding hex_line
  hex_bytes kp {s} {at} {r} v b h a =
      rw (hex_there kp v b h a, line_value key kp (hex_text v) (hex_plain v b) a) (hex_back v b)

  pub hex_stood : (s : List ℕ) (at : ℕ) → (hex_field s at key room).number ≡ 0
      → Stands s at (hex_line key (unhex (value_of s (hex_field s at key room)))) (hex_field s at key room).next
      × (hex_refusal room (value_of s (hex_field s at key room)) ≡ 0)
  unfolding hex_line hex_field
  hex_stood s at z =
      let l = value_of s (line_at s at key) in
      by (eqb (line_at s at key).number 0)
      (λ t.
      by (eqb (hex_refusal room l) 0)
      (λ u. rw (t, u) (rw (hex_unique room l (eqb-true _ _ u)) (line_back s at key (eqb-true _ _ t)), eqb-true _ _ u))
      (λ u. absurd (eqb-false _ _ u (rw (t, u) at z))))
      (λ t. absurd (eqb-false _ _ t (rw t at z)))
