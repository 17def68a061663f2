-- The lines that tell which rules can never speak, as the code writes them one after another: a rule with the rule that hides it, one rule more behind others, a whole report; and what was
-- found between two rules. Assumes nothing.
use Prim.Native.Nat.{ℕ, suc, ◌+◌, ◌-◌, ◌*◌, ◌^◌, ◌≤◌, ◌<◌}
use mathlib.Core.Path.{◌≡◌}
use mathlib.Core.List.{List, [], ◌∷◌, ◌++◌, append_assoc, append-nil}
use native.Mathlib.Omega.{arith}
use native.Mathlib.Nat.{add-zero}
use native.Mathlib.Numerals.{add-one}
use borrow.Author.Tests.{eq-eqb, ne_eqb}
use lib.ListN.{length, take, get_or, length-append, length-take}
use lib.Seq.{take-suc, length-take-le}
use Rattle.slices.specs.Bytes.{bytes, count_of}
use Rattle.topics.specs.Shown.{shown}
use Rattle.topics.specs.declared.covering.Witness.{Witness}
use Rattle.lines.specs.Decimal.{decimal}
use Rattle.lines.specs.Line.{number_line, hex_line}
use Rattle.lines.specs.Wrote.{Wrote}
use Rattle.lines.proofs.lengths.LineLaws.{number_line-length, hex_line-length}
use Rattle.lines.proofs.put.DecimalLaws.{decimal_short}
use Rattle.lines.proofs.put.WroteLaws.{wrote_none, wrote_then}
use Rattle.tables.specs.Rules.{pattern_of}
use Rattle.tables.specs.declared.rules.TopicRule.{TopicRule}
use Rattle.settings.specs.Dead.{two_rules, shown_line, pattern_no, dead_told, deads_told, report_told, between_told}
use Rattle.settings.proofs.dead_lines.DeadBounds.{two_short, shown_line-length}

-- a sentence on two rules
pub two_wrote : (start : List ℕ) (one : ℕ) (middle : List ℕ) (other : ℕ) (end : List ℕ) {d e f g h i : List ℕ} {at w x y z u : ℕ} → one < 2 ^ 64 → other < 2 ^ 64 → Wrote d e at start w
    → Wrote e f w (decimal one) x → Wrote f g x middle y → Wrote g h y (decimal other) z → Wrote h i z end u
    → Wrote d i at (two_rules start one middle other end) u × (length (two_rules start one middle other end) ≤ 40 + length start + length middle + length end)
unfolding two_rules
two_wrote start one middle other end n m p q r s t = (wrote_then (wrote_then (wrote_then (wrote_then p q) r) s) t, two_short start one middle other end n m)

-- a topic or a pattern as text
pub shown_wrote : (key t : List ℕ) {d e f g : List ℕ} {at w x y : ℕ} → Wrote d e at key w → Wrote e f w (shown t) x → Wrote f g x (bytes "\n") y
    → Wrote d g at (shown_line key t) y × (length (shown_line key t) ≡ length key + length t + 1)
unfolding shown_line
shown_wrote key t p q r = (wrote_then (wrote_then p q) r, shown_line-length key t)

-- a rule's pattern as text, which has at most 64 bytes
pub line_wrote : (key p : List ℕ) (rule : TopicRule) {d e : List ℕ} {at x : ℕ} → p ≡ pattern_of rule → length p ≤ 64
    → Wrote d e at (shown_line key p) x × (length (shown_line key p) ≡ length key + length p + 1)
    → Wrote d e at (shown_line key (pattern_of rule)) x × (length (shown_line key (pattern_of rule)) ≤ length key + 65)
line_wrote key p rule q n a = rw (← q) (a.0, omega (arith, n, a.1))

module _ (rules : List TopicRule) (rule cover : ℕ) where
  -- nothing where no rule hides it
  pub dead_nothing : (d : List ℕ) (at : ℕ) → cover ≡ 0 → Wrote d d at (dead_told rules rule cover) at × (length (dead_told rules rule cover) ≤ 300)
  unfolding dead_told
  dead_nothing d at e = rw (eq-eqb cover 0 e) (wrote_none d at, omega arith)

  abbrev sentence : List ℕ
  sentence = two_rules (bytes "Rule ") rule (bytes " can never speak: rule ") cover (bytes " comes first, and matches every topic that it matches\n")

  abbrev text : List ℕ
  text = shown_line (bytes "   text=") (pattern_no rules rule)

  abbrev hiding : List ℕ
  hiding = shown_line (bytes "   hidden by=") (pattern_no rules cover)

  pub dead_wrote : {d e f g : List ℕ} {at w x y : ℕ} → (cover ≡ 0 → ⊥) → Wrote d e at sentence w × (length sentence ≤ 122) → Wrote e f w text x × (length text ≤ 73)
      → Wrote f g x hiding y × (length hiding ≤ 78) → Wrote d g at (dead_told rules rule cover) y × (length (dead_told rules rule cover) ≤ 300)
  unfolding dead_told
  dead_wrote z a b c =
      rw (ne_eqb cover 0 z) (wrote_then (wrote_then a.0 b.0) c.0, rw (length-append, length-append) (omega (arith, a.1, b.1, c.1)))

-- one rule more behind others
deads_join : (rules : List TopicRule) (rule : ℕ) (l : List ℕ) (x : ℕ) → deads_told rules rule (l ++ (x ∷ [])) ≡ deads_told rules rule l ++ dead_told rules (rule + length l) x
unfolding deads_told
deads_join rules rule [] x = rw (add-zero rule) (append-nil (dead_told rules rule x))
deads_join rules rule (y ∷ l) x =
    let e : rule + 1 + length l ≡ rule + length (y ∷ l) = omega arith in rw (deads_join rules (rule + 1) l x, append_assoc, e)

module _ (rules : List TopicRule) (covers : List ℕ) (i : ℕ) (h : i < length covers) where
  pub deads_more : deads_told rules 1 (take (i + 1) covers) ≡ deads_told rules 1 (take i covers) ++ dead_told rules (i + 1) (get_or covers i 0)
  deads_more =
      let n = length-take-le i covers (omega arith) in
      let e : 1 + length (take i covers) ≡ suc i = omega (arith, n) in
      rw (add-one i, take-suc covers i 0 h, ← e) (deads_join rules 1 (take i covers) (get_or covers i 0))

  pub deads_longer : length (deads_told rules 1 (take i covers)) ≤ i * 300 → length (dead_told rules (i + 1) (get_or covers i 0)) ≤ 300
      → length (deads_told rules 1 (take (i + 1) covers)) ≤ (i + 1) * 300
  deads_longer s t = rw (deads_more, length-append) (omega (arith, s, t))

-- a whole report: how many there are, and each of them
pub report_wrote : (rules : List TopicRule) (covers : List ℕ) {d e f : List ℕ} {at w x k : ℕ} → length covers ≡ 32 → k ≡ count_of 0 covers
    → Wrote d e at (number_line (bytes "Rules that can never speak: ") (32 - k)) w → Wrote e f w (deads_told rules 1 covers) x × (length (deads_told rules 1 covers) ≤ 9600)
    → Wrote d f at (report_told rules covers) x × (length (report_told rules covers) ≤ 9650)
unfolding report_told
report_wrote rules covers {k = k} n q a b =
    let m = decimal_short 1 (32 - k) (omega arith) in
    rw (n, ← q) (wrote_then a b.0, rw length-append (omega (arith, b.1, m, number_line-length (bytes "Rules that can never speak: ") (32 - k))))

-- what was found between two rules: nothing, or a topic of at most 128 bytes
module _ (later earlier : ℕ) (w : Witness) where
  abbrev covered : List ℕ
  covered = two_rules (bytes "Rule ") earlier (bytes " matches every topic that rule ") later (bytes " matches\n")

  abbrev parted : List ℕ
  parted = two_rules (bytes "Rule ") later (bytes " matches this topic, and rule ") earlier (bytes " does not\n")

  abbrev name : List ℕ
  name = take w.len w.name

  pub none_wrote : {d e : List ℕ} {at x : ℕ} → w.len ≡ 0 → Wrote d e at covered x × (length covered ≤ 85)
      → Wrote d e at (between_told later earlier w) x × (length (between_told later earlier w) ≤ 600)
  unfolding between_told
  none_wrote z a = rw (eq-eqb w.len 0 z) (a.0, omega (arith, a.1))

  pub some_wrote : {d e f g : List ℕ} {at x y u : ℕ} → (w.len ≡ 0 → ⊥) → w.len ≤ 128 → Wrote d e at parted x × (length parted ≤ 85)
      → Wrote e f x (shown_line (bytes "   text=") name) y × (length (shown_line (bytes "   text=") name) ≡ length (bytes "   text=") + length name + 1)
      → Wrote f g y (hex_line (bytes "   topic=") name) u → Wrote d g at (between_told later earlier w) u × (length (between_told later earlier w) ≤ 600)
  unfolding between_told
  some_wrote z h a b c =
      let n = length-take w.len w.name in
      rw (ne_eqb w.len 0 z)
      (wrote_then (wrote_then a.0 b.0) c, rw (length-append, length-append) (omega (arith, n, h, a.1, b.1, hex_line-length (bytes "   topic=") name)))
