-- Each form of one line keeps its law, and so does each way of putting forms together; so that the law of a form is put together as the form is. At the end the law of a whole text, both ways.
-- Assumes nothing.
use Prim.Native.Nat.{ℕ, zero, suc, ◌+◌, ◌≤◌, ◌<◌}
use mathlib.Core.Path.{◌≡◌, refl, sym, ap, ◌∙◌}
use mathlib.Core.Bool.{true}
use mathlib.Core.List.{List, [], ◌∷◌, ◌++◌, append-nil, append_assoc}
use native.Mathlib.Omega.{arith}
use lib.Dec.{eqb, leb}
use lib.ListN.{length, get_or, take}
use borrow.Author.Tests.{eq-eqb, eqb-true, lt-ltb, le-ltb, le-leb, leb-true}
use Rattle.laws.specs.Lists.{every}
use Rattle.lines.specs.Field.{number_field, word_field, hex_field, value_of, text_end}
use Rattle.lines.specs.ReadHex.{is_hex, hex_value, unhex}
use Rattle.lines.specs.ReadWord.{different}
use Rattle.lines.specs.Word.{words_of}
use Rattle.lines.specs.Span.{span_of}
use Rattle.lines.specs.declared.read.Field.{Field}
use Rattle.laws.proofs.Cases.{by}
use Rattle.laws.proofs.Every.{every_both}
use Rattle.lines.proofs.HexRound.{unhex-length}
use Rattle.lines.proofs.value.HexLaws.{hex_kinds, hex_taken}
use Rattle.forms.specs.Stands.{Stands}
use Rattle.forms.specs.Form.{Took, took, stopped, on_took, Form, Round, field_took, number_form, word_form, hex_form, none_form, pair_form, map_form, test_form}
use Rattle.forms.specs.Form.{text_all, count_all, FitAll, fit_none, fit_more, read_all, many_form, ended, renumbered, numbered_form, whole_of}
use Rattle.forms.proofs.PlainLaws.{in_line}
use Rattle.forms.proofs.StandsLaws.{stands_none, stands_then, stands_first, stands_second, stands_whole, stands_all}
use Rattle.forms.proofs.FieldRound.{number_there, number_back, word_there, word_back, hex_there, hex_bytes, hex_stood}

-- what was taken after another was taken
on_took_lem : {A B : Type 0} {P : Type 0} (t : Took A) (f : A → ℕ → ℕ → Took B) {v : B} {r l : ℕ} → on_took t f ≡ took v r l
    → ((a : A) (p m : ℕ) → t ≡ took a p m → f a p m ≡ took v r l → P) → P
unfolding on_took
on_took_lem (took a p m) f e k = k a p m refl e
on_took_lem (stopped n m) f {v} {r} {l} e k = absurd (let z : ◌≡◌ {A = ℕ} 0 1 = cc in omega arith)

-- what was taken is one thing
took_same : {A : Type 0} {a v : A} {p r m l : ℕ} → took a p m ≡ took v r l → (a ≡ v) × (p ≡ r) × (m ≡ l)
took_same e = ((cc), (cc), (cc))

-- equal values, places and counts
took_eq : {A : Type 0} {a v : A} {p r m l : ℕ} → a ≡ v → p ≡ r → m ≡ l → took a p m ≡ took v r l
took_eq e f g = cc

-- go on after what is known to have been taken
pub on_took-took : {A B : Type 0} {t : Took A} {a : A} {p m : ℕ} (f : A → ℕ → ℕ → Took B) → t ≡ took a p m → on_took t f ≡ f a p m
unfolding on_took
on_took-took f e = rw e

-- a line that was taken
field_took_lem : {A : Type 0} (f : Field) (a : A) (line : ℕ) {v : A} {r l : ℕ} → field_took f a line ≡ took v r l → (f.number ≡ 0) × (a ≡ v) × (f.next ≡ r) × (l ≡ line + 1)
field_took_lem f a line {v} {r} {l} e =
    by (eqb f.number 0)
    (λ t. let q : took a f.next (line + 1) ≡ took v r l = rw t at e in (eqb-true _ _ t, (cc), (cc), (cc)))
    (λ t. absurd (let q : stopped f.number (line + 1) ≡ took v r l = rw t at e in let z : ◌≡◌ {A = ℕ} 0 1 = cc in omega arith))

-- ONE LINE

pub number_round : (key : List ℕ) (low high : ℕ) → every in_line key ≡ true → Round (number_form key low high)
unfolding number_form
number_round key low high kp =
    record {
      there = λ line h a. rw (number_there key low high kp _ h.0 h.1 a);
      back = λ s at line e.
          let q = field_took_lem (number_field s at key low high) _ line e in
          let b = number_back key low high s at q.0 in
          (rw (← q.1, ← q.2) b.0, rw (← q.1) (b.1, b.2), q.3);
    }

pub word_round : (key ws : List ℕ) → every in_line key ≡ true → every in_line ws ≡ true → different (words_of ws) ≡ true → Round (word_form key ws)
unfolding word_form
word_round key ws kp wp d =
    record {
      there = λ line h a. rw (word_there key ws kp wp d _ h a);
      back = λ s at line e.
          let q = field_took_lem (word_field s at key ws) _ line e in
          let b = word_back key ws s at q.0 in
          (rw (← q.1, ← q.2) b.0, rw (← q.1) b.1, q.3);
    }

-- a byte of two hex digits is one
digit_small : (c : ℕ) → is_hex c ≡ true → hex_value c < 16
digit_small c e = hex_kinds c e (λ a b. rw (lt-ltb c 58 (omega arith)) (omega arith)) (λ a b. rw (le-ltb c 58 (omega arith)) (omega arith))

-- so are those of hex
unhex_small : (l : List ℕ) → every is_hex l ≡ true → (i : ℕ) → get_or (unhex l) i 0 < 256
unfolding unhex
unhex_small [] e i = omega arith
unhex_small (a ∷ []) e i = omega arith
unhex_small (a ∷ (b ∷ l)) e zero =
    let f = every_both is_hex a (b ∷ l) e in
    let g = every_both is_hex b l f.1 in
    let u = digit_small a f.0 in
    let v = digit_small b g.0 in
    omega arith
unhex_small (a ∷ (b ∷ l)) e (suc i) =
    let f = every_both is_hex a (b ∷ l) e in
    let g = every_both is_hex b l f.1 in
    unhex_small l g.1 i

pub hex_round : (key : List ℕ) (room : ℕ) → every in_line key ≡ true → Round (hex_form key room)
unfolding hex_form
hex_round key room kp =
    record {
      there = λ line {v} h a. rw (hex_bytes key room kp v h.1 h.0 a, hex_there key room kp v h.1 h.0 a);
      back = λ s at line e.
          let q = field_took_lem (hex_field s at key room) _ line e in
          let b = hex_stood key room s at q.0 in
          let t = hex_taken room (value_of s (hex_field s at key room)) b.1 in
          let n = unhex-length (value_of s (hex_field s at key room)) in
          (rw (← q.1, ← q.2) b.0, rw (← q.1) (omega arith, unhex_small (value_of s (hex_field s at key room)) t.1), q.3);
    }

-- WAYS TO PUT FORMS TOGETHER

pub none_round : {A : Type 0} (a : A) → Round (none_form a)
unfolding none_form
none_round a =
    record {
      there = λ line h b. took_eq (sym h) (omega (arith, b.next)) (omega arith);
      back = λ s at line e. let q = took_same e in (rw (← q.1) (stands_none s at), sym q.0, omega (arith, q.2));
    }

pub pair_round : {A B : Type 0} (F : Form A) (G : A → Form B) → Round F → ((a : A) → Round (G a)) → Round (pair_form F G)
unfolding pair_form
pair_round F G f g =
    record {
      there = λ line {v} h a.
          let x = f.there line h.0 (stands_first (F.text v.0) ((G v.0).text v.1) a) in
          let y = (g v.0).there (line + F.count v.0) h.1 (stands_second (F.text v.0) ((G v.0).text v.1) a) in
          rw (on_took-took _ x, on_took-took _ y) (took_eq refl refl (omega arith));
      back = λ s at line {v} {r} {l} e.
          on_took_lem (F.read s at line) _ e (λ a p m ea eb.
          on_took_lem ((G a).read s p m) _ eb (λ b q n ec ed.
          let x = f.back s at line ea in
          let y = (g a).back s p m ec in
          let q = took_same ed in
          rw (← q.0, ← q.1) (stands_then x.0 y.0, (x.1, y.1), omega (arith, x.2, y.2, q.2))));
    }

pub map_round : {A B : Type 0} (to : A → B) (from : B → A) (F : Form A) → ((a : A) → F.fits a → from (to a) ≡ a) → Round F → Round (map_form to from F)
unfolding map_form
map_round to from F same f =
    record {
      there = λ line {v} h a. rw (on_took-took _ (f.there line h.0 a)) (took_eq h.1 refl refl);
      back = λ s at line {v} {r} {l} e.
          on_took_lem (F.read s at line) _ e (λ a p m ea eb.
          let x = f.back s at line ea in
          let q = took_same eb in
          let w : from v ≡ a = rw (← q.0) (same a x.1) in
          let y : Stands s at (F.text (from v)) p = rw w x.0 in
          let h : F.fits (from v) = rw w x.1 in
          let c : m ≡ line + F.count (from v) = rw w x.2 in
          let g : to (from v) ≡ v = rw w q.0 in
          rw (← q.1) (y, (h, g), sym q.2 ∙ c));
    }

pub test_round : {A : Type 0} (test : A → ℕ) (F : Form A) → Round F → Round (test_form test F)
unfolding test_form
test_round test F f =
    record {
      there = λ line {v} h a. rw (on_took-took _ (f.there line h.0 a), eq-eqb _ _ h.1);
      back = λ s at line {v} {r} {l} e.
          on_took_lem (F.read s at line) _ e (λ a p m ea eb.
          by (eqb (test a) 0)
          (λ t.
          let x = f.back s at line ea in
          let q = took_same (rw t at eb) in
          rw (← q.0, ← q.1) (x.0, (x.1, eqb-true _ _ t), omega (arith, x.2, q.2)))
          (λ t. absurd (let z : stopped (test a) m ≡ took v r l = rw t at eb in let z : ◌≡◌ {A = ℕ} 0 1 = cc in omega arith)));
    }

module _ {A : Type 0} (F : List A → Form A) (f : (acc : List A) → Round (F acc)) where
  all_there : {s : List ℕ} {at r : ℕ} (line : ℕ) (acc v : List A) → FitAll F acc v → Stands s at (text_all F acc v) r
      → read_all F (length v) acc s at line ≡ took v r (line + count_all F acc v)
  unfolding text_all count_all read_all
  all_there line acc [] h a = took_eq refl (omega (arith, a.next)) (omega arith)
  all_there {at = at} line acc (x ∷ v) (fit_more hx hv) a =
      let y = (f acc).there line hx (stands_first ((F acc).text x) (text_all F (acc ++ (x ∷ [])) v) a) in
      let z = all_there {at = at + length ((F acc).text x)} (line + (F acc).count x) (acc ++ (x ∷ [])) v hv (stands_second ((F acc).text x) (text_all F (acc ++ (x ∷ [])) v) a) in
      rw (on_took-took _ y, on_took-took _ z) (took_eq refl refl (omega arith))

  all_back : (k : ℕ) (acc : List A) (s : List ℕ) (at line : ℕ) {v : List A} {r l : ℕ} → read_all F k acc s at line ≡ took v r l
      → Stands s at (text_all F acc v) r × FitAll F acc v × (length v ≡ k) × (l ≡ line + count_all F acc v)
  unfolding text_all count_all read_all
  all_back zero acc s at line e =
      let q = took_same e in
      rw (← q.0, ← q.1) (stands_none s at, fit_none, refl, omega (arith, q.2))
  all_back (suc k) acc s at line e =
      on_took_lem ((F acc).read s at line) _ e (λ a p m ea eb.
      on_took_lem (read_all F k (acc ++ (a ∷ [])) s p m) _ eb (λ b q n ec ed.
      let x = (f acc).back s at line ea in
      let y = all_back k (acc ++ (a ∷ [])) s p m ec in
      let w = took_same ed in
      rw (← w.0, ← w.1) (stands_then x.0 y.0, fit_more x.1 y.1, ap suc y.2, omega (arith, x.2, y.3, w.2))))

  pub many_round : (k : ℕ) → Round (many_form F k)
  unfolding many_form
  many_round k =
      record {
        there = λ line {v} h a. rw (← h.0) (all_there line [] v h.1 a);
        back = λ s at line e. let b = all_back k [] s at line e in (b.0, (b.2, b.1), b.3);
      }

-- numbers change, values do not
renumber_took : {A : Type 0} (g : ℕ → ℕ) (t : Took A) {v : A} {r l : ℕ} → renumbered g t ≡ took v r l → t ≡ took v r l
unfolding renumbered
renumber_took g (took a p m) e = e
renumber_took g (stopped n m) {v} {r} {l} e = absurd (let z : ◌≡◌ {A = ℕ} 0 1 = cc in omega arith)

renumber_keeps : {A : Type 0} (g : ℕ → ℕ) {t : Took A} {v : A} {r l : ℕ} → t ≡ took v r l → renumbered g t ≡ took v r l
unfolding renumbered
renumber_keeps g e = rw e

pub numbered_round : {A : Type 0} (g : ℕ → ℕ) (F : Form A) → Round F → Round (numbered_form g F)
unfolding numbered_form
numbered_round g F f =
    record {
      there = λ line h a. renumber_keeps g (f.there line h a);
      back = λ s at line e. f.back s at line (renumber_took g (F.read s at line) e);
    }

-- A WHOLE TEXT

-- after the end of a text nothing stands
end_none : (s : List ℕ) → text_end s (length s) ≡ 0
unfolding text_end
end_none s = rw (le-leb (length s) (length s) (omega arith))

end_all : (s : List ℕ) (at : ℕ) → text_end s at ≡ 0 → length s ≤ at
unfolding text_end
end_all s at z =
    by (leb (length s) at) (λ t. leb-true _ _ t)
    (λ t. by (span_of s at).whole (λ w. absurd (let q : 21 ≡ 0 = rw (t, w) at z in omega arith)) (λ w. absurd (let q : 26 ≡ 0 = rw (t, w) at z in omega arith)))

module _ {A : Type 0} (F : Form A) (f : Round F) where
  -- what is written of a value that fits is read as it
  pub whole_there : (v : A) → F.fits v → length (F.text v) ≤ 65536 → whole_of F (F.text v) ≡ took v (length (F.text v)) (F.count v)
  unfolding whole_of ended
  whole_there v h n =
      rw (le-leb _ _ n, on_took-took _ (f.there 0 h (stands_whole (F.text v))), end_none (F.text v)) (took_eq refl refl (omega arith))

  -- a text that was taken is what is written of its value, which fits
  pub whole_back : (s : List ℕ) {v : A} {r l : ℕ} → whole_of F s ≡ took v r l → (s ≡ F.text v) × F.fits v
  unfolding whole_of ended
  whole_back s {v} {r} {l} e =
      by (leb (length s) 65536)
      (λ t.
      on_took_lem (F.read s 0 0) _ (rw t at e) (λ a p m ea eb.
      by (eqb (text_end s p) 0)
      (λ u.
      let x = f.back s 0 0 ea in
      let q = took_same (rw u at eb) in
      rw (← q.0) (stands_all x.0 (end_all s p (eqb-true _ _ u)), x.1))
      (λ u. absurd (let z : stopped (text_end s p) (m + 1) ≡ took v r l = rw u at eb in let z : ◌≡◌ {A = ℕ} 0 1 = cc in omega arith))))
      (λ t. absurd (let z : stopped 27 0 ≡ took v r l = rw t at e in let z : ◌≡◌ {A = ℕ} 0 1 = cc in omega arith))

-- every value of a list fits after those before it
pub each_fits : {A : Type 0} (F : List A → Form A) (d : A) (acc v : List A) → ((i : ℕ) → i < length v → (F (acc ++ take i v)).fits (get_or v i d)) → FitAll F acc v
each_fits F d acc [] h = fit_none
each_fits F d acc (x ∷ v) h =
    let x0 : (F acc).fits x = rw append-nil at (h zero (omega arith)) in
    fit_more x0 (each_fits F d (acc ++ (x ∷ [])) v (λ i l. rw (append_assoc acc (x ∷ []) (take i v)) (h (suc i) (omega arith))))
