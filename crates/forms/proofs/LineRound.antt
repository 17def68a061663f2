-- A line there and back, at a place of a longer text: where a key, a value without LF and an LF stand, the line is read with that value (`line_there`, `line_value`); and what is read as a line stands
-- there so (`line_back`). Assumes nothing.
use Prim.Native.Nat.{ℕ, suc, ◌+◌, ◌-◌, ◌≤◌, ◌<◌, min}
use mathlib.Core.Path.{◌≡◌, sym, ap, ◌∙◌}
use mathlib.Core.Bool.{true}
use mathlib.Core.List.{List, [], ◌∷◌, ◌++◌, append_assoc}
use native.Mathlib.Omega.{arith}
use native.Mathlib.Nat.{min-eq_left, le_of_lt}
use lib.Dec.{eqb}
use lib.ListN.{length, drop, get_or, length-append, length-drop, length-take, take-append-drop}
use lib.Seq.{get_or-drop, drop-drop, take-append_seam}
use borrow.Author.Tests.{lt-ltb, eqb-true}
use Rattle.laws.specs.Lists.{every}
use Rattle.slices.specs.Bytes.{begins, to_byte, find_byte}
use Rattle.slices.proofs.bytes.WalkLaws.{opened}
use Rattle.lines.specs.Span.{span_of, part}
use Rattle.lines.specs.Field.{keyed, line_at, value_of}
use Rattle.lines.specs.declared.read.Field.{Field}
use Rattle.laws.proofs.Cases.{by}
use Rattle.laws.proofs.Every.{every_join}
use Rattle.lines.proofs.held.SpanLaws.{span_whole, span_within}
use Rattle.forms.specs.Stands.{Stands}
use Rattle.forms.proofs.StandsLaws.{behind}
use Rattle.forms.proofs.PlainLaws.{in_line, to_end, begins_join, begins_split}

-- a line that was read
abbrev pub line_read : ℕ → ℕ → ℕ → ℕ → Field
line_read value from to next = record { number = 0; value = value; from = from; to = to; next = next }

-- a key, a value and an LF stand at a place
module _ (key : List ℕ) (key_plain : every in_line key ≡ true) {s : List ℕ} {at r : ℕ} (v : List ℕ) (plain : every in_line v ≡ true)
    (a : Stands s at (key ++ v ++ (10 ∷ [])) r) where
  line_bytes : drop at s ≡ (key ++ v) ++ (10 ∷ drop r s)
  line_bytes = a.bytes ∙ append_assoc (key ++ v) (10 ∷ []) (drop r s)

  -- the text goes on for that long
  line_long : length s - at ≡ length (key ++ v) + suc (length (drop r s))
  line_long = sym (length-drop at s) ∙ ap length line_bytes ∙ length-append (key ++ v) (10 ∷ drop r s)

  line_inside : at < length s
  line_inside = omega (arith, line_long)

  -- its LF is the first one from there
  line_end : find_byte 10 s at ≡ at + length (key ++ v)
  unfolding find_byte
  line_end = rw (line_bytes, to_end (key ++ v) (drop r s) (every_join in_line key v key_plain plain), min-eq_left (le_of_lt line_inside))

  line_span : span_of s at ≡ record { whole = true; from = at; to = at + length (key ++ v) }
  unfolding span_of
  line_span = rw (line_end, lt-ltb (at + length (key ++ v)) (length s) (omega (arith, line_long)), min-eq_left (le_of_lt line_inside))

  line_part : part s at (at + length (key ++ v)) ≡ key ++ v
  line_part =
      let n : at + length (key ++ v) - at ≡ length (key ++ v) = omega arith in
      rw (n, line_bytes) (take-append_seam (key ++ v) (10 ∷ drop r s))

  line_next : at + length (key ++ v) + 1 ≡ r
  line_next = let n = a.next in omega (arith, simp length-append at n, length-append key v)

  -- so the line is read
  pub line_there : line_at s at key ≡ line_read 0 (at + length key) (at + length (key ++ v)) r
  unfolding line_at keyed
  line_there = rw (line_span, line_part, begins_join key v, line_next)

  -- and its value is that one
  pub line_value : part s (at + length key) (at + length (key ++ v)) ≡ v
  line_value =
      let n : at + length (key ++ v) - (at + length key) ≡ length v = rw length-append (omega arith) in
      let e = behind s at key (v ++ (10 ∷ drop r s)) (line_bytes ∙ append_assoc key v (10 ∷ drop r s)) in
      rw (n, e) (take-append_seam v (10 ∷ drop r s))

-- where a byte is found, it is
to_byte_is : (b : ℕ) (l : List ℕ) → to_byte b l < length l → get_or l (to_byte b l) 0 ≡ b
unfolding to_byte
to_byte_is b [] h = absurd (omega arith)
to_byte_is b (c ∷ l) h =
    by (eqb c b)
    (λ t. rw (t, to_byte) (eqb-true c b t))
    (λ t. let g = rw (t, to_byte) at h in rw (t, to_byte) (to_byte_is b l (omega arith)))

-- so a line that is whole ends with an LF
end_is : (s : List ℕ) (at : ℕ) → find_byte 10 s at < length s → at ≤ length s → get_or s (find_byte 10 s at) 0 ≡ 10
unfolding find_byte
end_is s at h g =
    let m : min at (length s) ≡ at = min-eq_left g in
    let n : to_byte 10 (drop at s) < length (drop at s) = rw length-drop (omega arith) in
    rw m (sym (get_or-drop at s (to_byte 10 (drop at s)) 0) ∙ to_byte_is 10 (drop at s) n)

-- a line from a place to an LF begins with its key: what follows the key is its value
module _ (s : List ℕ) (at e : ℕ) (key : List ℕ) (h : at ≤ e) (g : e < length s) (c : get_or s e 0 ≡ 10) (b : begins key (part s at e) ≡ true) where
  abbrev value : List ℕ
  value = drop (length key) (part s at e)

  -- the LF and all behind it
  abbrev tail : List ℕ
  tail = 10 ∷ drop (e + 1) s

  back_part : part s at e ≡ key ++ value
  back_part = begins_split key (part s at e) b

  back_rest : drop (e - at) (drop at s) ≡ tail
  back_rest = let k : at + (e - at) ≡ e = omega arith in rw (drop-drop, k, opened s e g, c)

  back_bytes : drop at s ≡ key ++ (value ++ tail)
  back_bytes =
      sym (take-append-drop (e - at) (drop at s))
      ∙ ap (λ (l : List ℕ). part s at e ++ l) back_rest
      ∙ ap (λ (l : List ℕ). l ++ tail) back_part
      ∙ append_assoc key value tail

  back_long : length key + length value ≡ e - at
  back_long = sym (length-append key value) ∙ ap length (sym back_part) ∙ (simp (length-take, length-drop) (omega arith))

  back_same : part s (at + length key) e ≡ value
  back_same =
      let n : e - (at + length key) ≡ length value = omega (arith, back_long) in
      rw (n, behind s at key (value ++ tail) back_bytes) (take-append_seam value tail)

  back_stands : Stands s at (key ++ part s (at + length key) e ++ (10 ∷ [])) (e + 1)
  back_stands =
      rw back_same (record { next = simp length-append (omega (arith, back_long)); bytes = back_bytes ∙ (simp append_assoc) })

span_end : (s : List ℕ) (at : ℕ) → (span_of s at).to < length s → at ≤ length s → get_or s (span_of s at).to 0 ≡ 10
unfolding span_of
span_end s at h g = end_is s at h g

-- a line that was read stands there, with its key and its value
pub line_back : (s : List ℕ) (at : ℕ) (key : List ℕ) → (line_at s at key).number ≡ 0
    → Stands s at (key ++ value_of s (line_at s at key) ++ (10 ∷ [])) (line_at s at key).next
unfolding line_at keyed
line_back s at key z =
    by (span_of s at).whole
    (λ w.
    by (begins key (part s (span_of s at).from (span_of s at).to))
    (λ b.
    let o = span_whole s at w in
    let i = span_within s at in
    let f : (span_of s at).from ≡ at = o.0 in
    rw (w, b, f) (back_stands s at (span_of s at).to key (omega arith) o.1 (span_end s at o.1 (omega arith)) (rw f at b)))
    (λ b. absurd (let q : 21 ≡ 0 = rw (w, b) at z in omega arith)))
    (λ w. absurd (let q : 26 ≡ 0 = rw w at z in omega arith))
