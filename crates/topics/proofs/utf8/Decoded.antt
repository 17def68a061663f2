-- What is UTF-8 is an encoding of scalar values (specs/Encoding.antt): the bytes are taken apart from the left, a character at a time. Assumes nothing.
use Rattle.std.proofs.Common.{◌≡◌, ℕ, zero, suc, ◌+◌, ◌-◌, ◌*◌, ◌/◌, ◌%◌, ◌<◌, ◌≤◌, Bool, true, false, cond, ◌&&◌, eqb, ltb, leb, List, [], ◌∷◌, ◌++◌, length, sym, refl, ap, ◌∙◌, fold}
use Rattle.std.proofs.Common.{subst, arith, ltb-false, ltb-true, le-ltb, lt-ltb, ne_eqb, le-leb, leb-true}
use Rattle.laws.specs.Lists.{every}
use Rattle.laws.proofs.Cases.{by, clash}
use Rattle.laws.proofs.Tests.{both}
use Rattle.slices.specs.Bytes.{has}
use Rattle.topics.specs.Encoding.{encode, encode_all, Encodes, Utf8Exactly, Sendable}
use Rattle.topics.specs.Utf8.{is_scalar, broken, between, inside, begun, continues, with_six, ended, added, taken, is_whole, is_utf8}
use Rattle.topics.specs.declared.utf8.Decoding.{Decoding}
use Rattle.topics.proofs.utf8.DecodeLaws.{begun_one, begun_stray, begun_two, begun_three, begun_four, begun_above, add_broken, take_broken}
use Rattle.topics.proofs.utf8.Encoded.{encoded, zero_byte}

-- bytes that end well from where the decoder stands
abbrev Good : Decoding → List ℕ → Type 0
Good d s = is_whole (fold taken d s) ≡ true

moved : {c d : Decoding} (s : List ℕ) → c ≡ d → Good c s → Good d s
moved s e g = subst (λ (x : Decoding). Good x s) e g

-- what is broken does not end well
no_good : {P : Type 0} (s : List ℕ) → Good broken s → P
no_good [] g = clash g refl
no_good (b ∷ s) g = no_good s (moved s (take_broken broken b refl) g)

-- a byte 10xxxxxx with the bits `y`, and what it leads to
record Next (w : ℕ) (to : ℕ → Decoding) (s : List ℕ) : Type 0 where
  y : ℕ
  rest : List ℕ
  small : y < 64
  is : s ≡ (0x80 + y) ∷ rest
  on : Good (to (w * 64 + y)) rest

-- inside a character there is one
next : (left w least : ℕ) (s : List ℕ) → 1 ≤ left → Good (inside left w least) s
    → Next w (λ (v : ℕ). cond (ltb 1 left) (inside (left - 1) v least) (ended v least)) s
unfolding taken added
next left w least [] l g = clash g (ne_eqb left 0 (λ e. omega arith))
next left w least (b ∷ s) l g =
    let d : Decoding = inside left w least in
    let n : eqb left 0 ≡ false = ne_eqb left 0 (λ e. omega arith) in
    let h : Good (added d b) s = moved s (ap (λ (t : Bool). cond t (begun b) (added d b)) n) g in
    by (continues b)
    (λ e.
    let t = both (leb 0x80 b) (ltb b 0xC0) e in
    let lo : 0x80 ≤ b = leb-true 0x80 b t.0 in
    let hi : b < 0xC0 = ltb-true b 0xC0 t.1 in
    let q : b ≡ 0x80 + (b - 0x80) = omega arith in
    record {
      y = b - 0x80;
      rest = s;
      small = omega arith;
      is = ap (λ (x : ℕ). x ∷ s) q;
      on = moved s (ap (λ (t : Bool). cond t (cond (ltb 1 left) (inside (left - 1) (with_six w b) least) (ended (with_six w b) least)) broken) e) h;
    })
    (λ e. no_good s (moved s (add_broken d b e) h))

-- a character all of whose bytes are there
record Whole (v least : ℕ) (s : List ℕ) : Type 0 where
  above : least ≤ v
  scalar : is_scalar v ≡ true
  on : Good between s

whole : (v least : ℕ) (s : List ℕ) → Good (ended v least) s → Whole v least s
unfolding ended
whole v least s g =
    by (leb least v && is_scalar v)
    (λ e.
    let t = both (leb least v) (is_scalar v) e in
    record { above = leb-true least v t.0; scalar = t.1; on = moved s (ap (λ (t : Bool). cond t between broken) e) g })
    (λ e. no_good s (moved s (ap (λ (t : Bool). cond t between broken) e) g))

-- the bytes of a number, by how many there are
one : (v : ℕ) (s : List ℕ) → v < 0x80 → encode v ++ s ≡ v ∷ s
unfolding encode
one v s h = rw (lt-ltb _ _ h)

two : (w y : ℕ) (s : List ℕ) → y < 64 → w < 32 → 0x80 ≤ w * 64 + y → encode (w * 64 + y) ++ s ≡ (0xC0 + w) ∷ (0x80 + y) ∷ s
unfolding encode
two w y s h k l =
    let a : w * 64 + y < 0x800 = omega arith in
    let d : (w * 64 + y) / 64 ≡ w = omega arith in
    let m : (w * 64 + y) % 64 ≡ y = omega arith in
    rw (le-ltb _ _ l, lt-ltb _ _ a, d, m)

three : (w x y : ℕ) (s : List ℕ) → x < 64 → y < 64 → w < 16 → 0x800 ≤ (w * 64 + x) * 64 + y
    → encode ((w * 64 + x) * 64 + y) ++ s ≡ (0xE0 + w) ∷ (0x80 + x) ∷ (0x80 + y) ∷ s
unfolding encode
three w x y s g h k l =
    let z : 0x80 ≤ (w * 64 + x) * 64 + y = omega arith in
    let a : (w * 64 + x) * 64 + y < 0x10000 = omega arith in
    let d : ((w * 64 + x) * 64 + y) / 4096 ≡ w = omega arith in
    let m : ((w * 64 + x) * 64 + y) / 64 % 64 ≡ x = omega arith in
    let n : ((w * 64 + x) * 64 + y) % 64 ≡ y = omega arith in
    rw (le-ltb _ _ z, le-ltb _ _ l, lt-ltb _ _ a, d, m, n)

four : (w x y z : ℕ) (s : List ℕ) → x < 64 → y < 64 → z < 64 → 0x10000 ≤ ((w * 64 + x) * 64 + y) * 64 + z
    → encode (((w * 64 + x) * 64 + y) * 64 + z) ++ s ≡ (0xF0 + w) ∷ (0x80 + x) ∷ (0x80 + y) ∷ (0x80 + z) ∷ s
unfolding encode
four w x y z s f g h l =
    let a : 0x80 ≤ ((w * 64 + x) * 64 + y) * 64 + z = omega arith in
    let b : 0x800 ≤ ((w * 64 + x) * 64 + y) * 64 + z = omega arith in
    let d : (((w * 64 + x) * 64 + y) * 64 + z) / 262144 ≡ w = omega arith in
    let e : (((w * 64 + x) * 64 + y) * 64 + z) / 4096 % 64 ≡ x = omega arith in
    let m : (((w * 64 + x) * 64 + y) * 64 + z) / 64 % 64 ≡ y = omega arith in
    let n : (((w * 64 + x) * 64 + y) * 64 + z) % 64 ≡ z = omega arith in
    rw (le-ltb _ _ a, le-ltb _ _ b, le-ltb _ _ l, d, e, m, n)

-- a scalar value in front
front : (v : ℕ) (s : List ℕ) {t : List ℕ} → is_scalar v ≡ true → encode v ++ s ≡ t → Encodes s → Encodes t
unfolding every encode_all
front v s {t} h e r = record { values = v ∷ r.values; scalars = rw (h) r.scalars; written = rw r.written e }

first_joined : {a b : ℕ} {t s : List ℕ} → a ≡ b → s ≡ t → a ∷ t ≡ b ∷ s
first_joined {a} {b} {t} e f = ap (λ (x : ℕ). x ∷ t) e ∙ ap (λ (l : List ℕ). b ∷ l) (sym f)

rest_joined : {s t u : List ℕ} (a : ℕ) → s ≡ a ∷ t → t ≡ u → s ≡ a ∷ u
rest_joined a e f = e ∙ ap (λ (l : List ℕ). a ∷ l) f

nothing : Encodes []
unfolding every encode_all
nothing = record { values = []; scalars = refl; written = refl }

-- a character at the front of not more than k + 1 bytes, where `decode` does the rest
module _ (k : ℕ) (decode : (t : List ℕ) → length t ≤ k → Good between t → Encodes t) (b : ℕ) (s : List ℕ) (n : length s ≤ k) where
  from_one : b < 0x80 → Good between s → Encodes (b ∷ s)
  from_one h g = front b s (rw (le-leb b 0xD7FF (omega arith))) (one b s h) (decode s n g)

  from_two : 0xC0 ≤ b → b < 0xE0 → Good (inside 1 (b - 0xC0) 0x80) s → Encodes (b ∷ s)
  from_two l h g =
      let x = next 1 (b - 0xC0) 0x80 s (omega arith) g in
      let w = whole ((b - 0xC0) * 64 + x.y) 0x80 x.rest x.on in
      let q : 0xC0 + (b - 0xC0) ≡ b = omega arith in
      front ((b - 0xC0) * 64 + x.y) x.rest w.scalar
      (two (b - 0xC0) x.y x.rest x.small (omega arith) w.above ∙ first_joined q x.is)
      (decode x.rest (omega (arith, ap length x.is)) w.on)

  from_three : 0xE0 ≤ b → b < 0xF0 → Good (inside 2 (b - 0xE0) 0x800) s → Encodes (b ∷ s)
  from_three l h g =
      let x = next 2 (b - 0xE0) 0x800 s (omega arith) g in
      let y = next 1 ((b - 0xE0) * 64 + x.y) 0x800 x.rest (omega arith) x.on in
      let w = whole (((b - 0xE0) * 64 + x.y) * 64 + y.y) 0x800 y.rest y.on in
      let q : 0xE0 + (b - 0xE0) ≡ b = omega arith in
      front (((b - 0xE0) * 64 + x.y) * 64 + y.y) y.rest w.scalar
      (three (b - 0xE0) x.y y.y y.rest x.small y.small (omega arith) w.above ∙ first_joined q (rest_joined (0x80 + x.y) x.is y.is))
      (decode y.rest (omega (arith, ap length x.is, ap length y.is)) w.on)

  from_four : 0xF0 ≤ b → Good (inside 3 (b - 0xF0) 0x10000) s → Encodes (b ∷ s)
  from_four l g =
      let x = next 3 (b - 0xF0) 0x10000 s (omega arith) g in
      let y = next 2 ((b - 0xF0) * 64 + x.y) 0x10000 x.rest (omega arith) x.on in
      let z = next 1 (((b - 0xF0) * 64 + x.y) * 64 + y.y) 0x10000 y.rest (omega arith) y.on in
      let w = whole ((((b - 0xF0) * 64 + x.y) * 64 + y.y) * 64 + z.y) 0x10000 z.rest z.on in
      let q : 0xF0 + (b - 0xF0) ≡ b = omega arith in
      front ((((b - 0xF0) * 64 + x.y) * 64 + y.y) * 64 + z.y) z.rest w.scalar
      (four (b - 0xF0) x.y y.y z.y z.rest x.small y.small z.small w.above
      ∙ first_joined q (rest_joined (0x80 + x.y) x.is (rest_joined (0x80 + y.y) y.is z.is)))
      (decode z.rest (omega (arith, ap length x.is, ap length y.is, ap length z.is)) w.on)

  from_begun : Good (begun b) s → Encodes (b ∷ s)
  from_begun g =
      by (ltb b 0x80) (λ e. let h = ltb-true b 0x80 e in from_one h (moved s (begun_one b h) g))
      (λ e.
      let l = ltb-false b 0x80 e in
      by (ltb b 0xC0) (λ f. no_good s (moved s (begun_stray b l (ltb-true b 0xC0 f)) g))
      (λ f.
      let l = ltb-false b 0xC0 f in
      by (ltb b 0xE0) (λ i. let h = ltb-true b 0xE0 i in from_two l h (moved s (begun_two b l h) g))
      (λ i.
      let l = ltb-false b 0xE0 i in
      by (ltb b 0xF0) (λ j. let h = ltb-true b 0xF0 j in from_three l h (moved s (begun_three b l h) g))
      (λ j.
      let l = ltb-false b 0xF0 j in
      by (ltb b 0xF8) (λ m. from_four l (moved s (begun_four b l (ltb-true b 0xF8 m)) g))
      (λ m. no_good s (moved s (begun_above b (ltb-false b 0xF8 m)) g))))))

step : (k : ℕ) → ((t : List ℕ) → length t ≤ k → Good between t → Encodes t) → (s : List ℕ) → length s ≤ suc k → Good between s → Encodes s
unfolding taken
step k decode [] n g = nothing
step k decode (b ∷ s) n g = from_begun k decode b s (omega arith) g

nothing_left : (s : List ℕ) → length s ≤ 0 → Encodes s
nothing_left [] n = nothing
nothing_left (b ∷ s) n = absurd (omega arith)

decode : (k : ℕ) (s : List ℕ) → length s ≤ k → Good between s → Encodes s
decode zero s n g = nothing_left s n
decode (suc k) s n g = step k (decode k) s n g

pub decoded : (s : List ℕ) → is_utf8 s ≡ true → Encodes s
unfolding is_utf8
decoded s g = decode (length s) s (omega arith) g

-- all that is claimed
pub exactly : Utf8Exactly
exactly = record { encoded = encoded; decoded = decoded; zero = zero_byte }

pub sendable : (s : List ℕ) → is_utf8 s ≡ true → has 0 s ≡ false → Sendable s
sendable s u z = let e = decoded s u in record { encodes = e; no_null = sym (zero_byte e.values) ∙ ap (has 0) e.written ∙ z }
