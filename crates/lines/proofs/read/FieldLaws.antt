-- Laws of fields: what each way through a reader of a line gives, and that its answer lies in the text. Assumes nothing.
use Prim.Native.Nat.{ℕ, ◌+◌, ◌-◌, ◌/◌, ◌≤◌, ◌<◌}
use mathlib.Core.Path.{◌≡◌}
use mathlib.Core.Bool.{true, false}
use mathlib.Core.List.{List}
use native.Mathlib.Nat.{le_refl}
use native.Mathlib.Omega.{arith}
use lib.ListN.{length, length-take, length-drop}
use borrow.Author.Tests.{eq-eqb, ne_eqb}
use Rattle.laws.proofs.Cases.{by}
use Rattle.slices.specs.Bytes.{place_in, begins}
use Rattle.slices.proofs.bytes.WalkLaws.{begins_fits}
use Rattle.lines.specs.declared.held.Span.{Span}
use Rattle.lines.specs.declared.read.Field.{Field}
use Rattle.lines.specs.declared.value.Number.{Number}
use Rattle.lines.specs.declared.value.Number.TheVariants.{Value, Bad}
use Rattle.lines.specs.Span.{span_of, part}
use Rattle.lines.specs.ReadHex.{hex_count}
use Rattle.lines.specs.Field.{Within, refused, read, keyed, line_at, value_of, on_line, answered, spelled_bytes}
use Rattle.lines.proofs.held.SpanLaws.{span_within, span_whole}

-- a refused answer lies in its text where its place does
pub within_refused : {s : List ℕ} {f : Field} (number at : ℕ) → f ≡ refused number at → at ≤ length s → Within s f
within_refused number at e h = rw e (record { ordered = le_refl _; inside = h; after = h })

module _ (s : List ℕ) (at : ℕ) (key : List ℕ) {p : Span} (e : p ≡ span_of s at) where
  -- the line lies in its text
  pub line_inside : (p.from ≤ p.to) × (p.to ≤ length s)
  line_inside = rw e (span_within s at)

  -- no LF: 26
  pub line_open : {f : Field} → f ≡ refused 26 p.from → p.whole ≡ false → (f ≡ line_at s at key) × Within s f
  unfolding line_at keyed
  line_open g w = (rw (← e, w) g, within_refused 26 p.from g (omega (arith, line_inside)))

  -- another key: 21
  pub line_other : {f : Field} → f ≡ refused 21 p.from → p.whole ≡ true → begins key (part s p.from p.to) ≡ false → (f ≡ line_at s at key) × Within s f
  unfolding line_at keyed
  line_other g w b = (rw (← e, w, b) g, within_refused 21 p.from g (omega (arith, line_inside)))

  -- the key leaves room for the value, and the LF stands before the end
  pub line_room : p.whole ≡ true → begins key (part s p.from p.to) ≡ true → (p.from + length key ≤ p.to) × (p.to + 1 ≤ length s)
  line_room w b =
      let h = begins_fits key _ b in
      let g : length (part s p.from p.to) ≡ p.to - p.from = simp (length-take, length-drop) (omega (arith, line_inside)) in
      let t : p.to < length s = rw (← e) at (span_whole s at (rw e at w)).1 in
      (omega (arith, line_inside), omega arith)

  -- the key is there: the value goes from its end to the LF
  pub line_keyed : p.whole ≡ true → begins key (part s p.from p.to) ≡ true
      → (record { number = 0; value = 0; from = p.from + length key; to = p.to; next = p.to + 1 } ≡ line_at s at key)
      × Within s (record { number = 0; value = 0; from = p.from + length key; to = p.to; next = p.to + 1 })
  unfolding line_at keyed
  line_keyed w b =
      let h = line_room w b in
      (rw (← e, w, b), record { ordered = h.0; inside = line_inside.1; after = h.1 })

module _ (s : List ℕ) (at : ℕ) (key : List ℕ) {line : Field} (e : line ≡ line_at s at key) where
  -- a line that was read begins at its place, and the place is inside
  line_start : line.number ≡ 0 → (place_in s at ≡ at) × (at ≤ length s)
  unfolding line_at keyed span_of
  line_start z =
      by (span_of s at).whole
      (λ w. let h : place_in s at ≡ at = (span_whole s at w).0 in (h, omega arith))
      (λ w. absurd (let t : 26 ≡ line.number = rw (e, w) in omega arith))

  -- a line that was refused is the answer
  pub stays : (line.number ≡ 0 → ⊥) → (answer : Field) → line ≡ on_line line answer
  stays h answer = rw (ne_eqb _ _ h)

  -- a line that was read is answered by the number that its value gives
  pub answers : line.number ≡ 0 → Within s line → {f : Field} {m n : Number} (number : ℕ) → m ≡ n → f ≡ answered line at number m
      → (f ≡ on_line line (answered line (place_in s at) number n)) × Within s f
  unfolding answered
  answers z w {f} {m} {n} number q g = by_number n (rw q at g)
    where
      by_number : (n : Number) → f ≡ answered line at number n → (f ≡ on_line line (answered line (place_in s at) number n)) × Within s f
      by_number (Value v) g =
          (rw (eq-eqb _ _ z) g, rw g (record { ordered = w.ordered; inside = w.inside; after = w.after }))
      by_number Bad g =
          let h = line_start z in
          (rw (eq-eqb _ _ z, h.0) g, within_refused number at g h.1)

  -- a line that was read, and whose hex is refused
  pub counts_not : line.number ≡ 0 → {f : Field} {number n : ℕ} (count : ℕ) → number ≡ n → (number ≡ 0 → ⊥) → f ≡ refused number at
      → (f ≡ on_line line (spelled_bytes line (place_in s at) n count)) × Within s f
  counts_not z {f} {number} count q h g =
      let l = line_start z in
      (rw (← q, eq-eqb _ _ z, ne_eqb _ _ h, l.0) g, within_refused number at g l.1)

  -- a line that was read, and whose hex is read
  pub counts : line.number ≡ 0 → Within s line → {f : Field} {number n : ℕ} → number ≡ n → number ≡ 0 → f ≡ read line ((line.to - line.from) / 2)
      → (f ≡ on_line line (spelled_bytes line (place_in s at) n (hex_count (value_of s line)))) × Within s f
  counts z w q h g =
      let c : length (value_of s line) ≡ line.to - line.from = simp (length-take, length-drop) (omega arith) in
      (rw (← q, eq-eqb _ _ z, eq-eqb _ _ h, c) g, rw g (record { ordered = w.ordered; inside = w.inside; after = w.after }))
