-- The lines before the rules: what the chain of readers gives is what the form `head_lines` reads, and the values that are cast are in range. Assumes nothing.
use Prim.Native.Nat.{ℕ, ◌+◌, ◌≤◌, ◌<◌}
use mathlib.Core.Path.{◌≡◌, ◌∙◌}
use mathlib.Core.Bool.{false}
use mathlib.Core.List.{List}
use native.Mathlib.Omega.{arith}
use lib.Dec.{eqb}
use borrow.Author.Tests.{eq-eqb, ne_eqb, eqb-true, eqb-false}
use Rattle.laws.proofs.Cases.{by}
use Rattle.slices.specs.Bytes.{bytes}
use Rattle.topics.specs.declared.matching.Matching.TheVariants.{Port}
use Rattle.lines.specs.Field.{word_field}
use Rattle.lines.specs.Word.{first_word, rest_words}
use Rattle.lines.specs.declared.read.Field.{Field}
use Rattle.forms.specs.Chain.{number_after, word_after}
use Rattle.forms.specs.Form.{on_took, word_form, none_form, map_form, numbered_form, renumbered}
use Rattle.forms.specs.declared.chain.Lined.{Lined}
use Rattle.forms.proofs.FieldRound.{word_back}
use Rattle.forms.proofs.LineBounds.{number-value, number_lies, word_lies}
use Rattle.forms.proofs.chain.ChainLaws.{took_of, Refused, pair_lined, map_lined, number_lined, number_stays, number-line, word_lined, word_stays, word_line}
use Rattle.tables.specs.Numbers.{action_at, action_number}
use Rattle.tables.specs.declared.rules.TopicAction.TheVariants.{Allow}
use Rattle.rules_text.specs.RuleText.{action_form}
use Rattle.settings.specs.Head.{form_line, match_line, lines_more}
use Rattle.settings.specs.Kept.{head_of}
use Rattle.settings.proofs.refusal.KnownLaws.{Known, known_line, known_form}
use Rattle.settings.specs.SettingsText.{form_at, form_among, form_form, matching_number, matching_at, match_in, body_in, head_lines}

-- the lines that the code reads, each after the one before it
pub record Chained (s : List ℕ) (k : ℕ) (f d m t w r : Lined) : Type 0 where
  pub form : f ≡ form_line s
  pub more : k ≡ lines_more f.value
  pub default : d ≡ word_after s f 1 (bytes "default=") (bytes "allow|block")
  pub matched : m ≡ match_line s f.value d
  pub threshold : t ≡ number_after s m (2 + k) (bytes "threshold=") 2 16
  pub window : w ≡ number_after s t (3 + k) (bytes "window=") 1000000 600000000
  pub rules : r ≡ number_after s w (4 + k) (bytes "rules=") 0 32

module _ (s : List ℕ) where
  -- the field of the form's line
  abbrev X : Field
  X = word_field s 0 (bytes "form=") (bytes "1|2")

  -- the form's line is what its form reads: 29 stands where the word is not known
  form_lined : form_form.read s 0 0 ≡ took_of (form_line s) (form_at (form_line s).value)
  unfolding form_form form_among numbered_form map_form word_form renumbered on_took form_line word_after
  form_lined =
      by (eqb X.number 0)
      (λ t. let z : X.number ≡ 0 = eqb-true _ _ t in let n : eqb X.number 23 ≡ false = rw z in rw (n, t, on_took, renumbered))
      (λ t. by (eqb X.number 23) (λ u. rw (t, u, on_took, renumbered)) (λ u. rw (t, u, on_took, renumbered, t)))

  -- it is line 0
  form_first : (form_line s).line ≡ 0
  unfolding form_line word_after
  form_first = by (eqb X.number 23) (λ u. rw u) (λ u. rw u)

  -- two forms are known, at places 0 and 1
  form_small : (form_line s).number ≡ 0 → (form_line s).value < 2
  unfolding form_line word_after first_word rest_words
  form_small =
      by (eqb X.number 23)
      (λ u. rw u (λ z. absurd (omega (arith, z))))
      (λ u. rw u (λ z. (word_back (bytes "form=") (bytes "1|2") s 0 z).1))

  -- the matcher's line is what the form has of it, after the line of the default
  module _ (f : ℕ) (d : Lined) where
    match_lined : d.number ≡ 0 → d.line ≡ 1 → (match_in (form_at f)).read s d.next (d.line + 1) ≡ took_of (match_line s f d) (matching_at (match_line s f d).value)
    unfolding match_in none_form match_line
    match_lined z e =
        let words = word_form (bytes "match=") (bytes "port|standard") in
        by (eqb f 1)
        (λ t.
        rw (eq-eqb (f + 1) 2 (omega (arith, eqb-true f 1 t)), t)
        (map_lined matching_at matching_number words s d.next (d.line + 1) (word_after s d 2 (bytes "match=") (bytes "port|standard")) _
        (word_lined s d 2 (bytes "match=") (bytes "port|standard") z (omega arith))))
        (λ t. rw (ne_eqb (f + 1) 2 (λ q. eqb-false f 1 t (omega (arith, q))), t, eq-eqb _ _ z, z))

    match_stays : Refused d → match_line s f d ≡ d
    unfolding match_line
    match_stays z = by (eqb f 1) (λ t. rw t (word_stays s d 2 (bytes "match=") (bytes "port|standard") z)) (λ t. rw (t, ne_eqb _ _ z))

    match_line_lem : d.number ≡ 0 → d.line ≡ 1 → (match_line s f d).line ≡ 1 + lines_more f
    unfolding match_line lines_more
    match_line_lem z e = by (eqb f 1) (λ t. rw t (word_line s d 2 (bytes "match=") (bytes "port|standard") z)) (λ t. rw (t, eq-eqb _ _ z) e)

  -- the lines, as the definitions have them
  abbrev F : Lined
  F = form_line s

  abbrev D : Lined
  D = word_after s F 1 (bytes "default=") (bytes "allow|block")

  abbrev K : ℕ
  K = lines_more F.value

  abbrev M : Lined
  M = match_line s F.value D

  abbrev T : Lined
  T = number_after s M (2 + K) (bytes "threshold=") 2 16

  abbrev W : Lined
  W = number_after s T (3 + K) (bytes "window=") 1000000 600000000

  abbrev R : Lined
  R = number_after s W (4 + K) (bytes "rules=") 0 32

  -- the last is what a line before it was refused as
  window_stays : Refused W → R ≡ W
  window_stays z = number_stays s W (4 + K) (bytes "rules=") 0 32 z

  threshold_stays : Refused T → R ≡ T
  threshold_stays z = let e = number_stays s T (3 + K) (bytes "window=") 1000000 600000000 z in window_stays (rw e z) ∙ e

  matched_stays : Refused M → R ≡ M
  matched_stays z = let e = number_stays s M (2 + K) (bytes "threshold=") 2 16 z in threshold_stays (rw e z) ∙ e

  default_stays : Refused D → R ≡ D
  default_stays z = let e = match_stays F.value D z in matched_stays (rw e z) ∙ e

  form_stays : Refused F → R ≡ F
  form_stays z = let e = word_stays s F 1 (bytes "default=") (bytes "allow|block") z in default_stays (rw e z) ∙ e

  -- so where the last was read, each was
  was_read : (l : Lined) → (Refused l → R ≡ l) → R.number ≡ 0 → l.number ≡ 0
  was_read l f z = by (eqb l.number 0) (λ t. eqb-true _ _ t) (λ t. let q = f (eqb-false _ _ t) in absurd (eqb-false _ _ t (rw q at z)))

  -- and a threshold that was read is not over 16
  threshold_small : R.number ≡ 0 → T.value ≤ 16
  unfolding number_after
  threshold_small z =
      let zm = was_read M matched_stays z in
      let zt = was_read T threshold_stays z in
      rw (eq-eqb _ _ zm) (number-value s M.next (bytes "threshold=") 2 16 (rw (eq-eqb _ _ zm) at zt))

  -- and of at most 32 rules
  rules_few : R.number ≡ 0 → R.value ≤ 32
  unfolding number_after
  rules_few z =
      let zw = was_read W window_stays z in
      rw (eq-eqb _ _ zw) (number-value s W.next (bytes "rules=") 0 32 (rw (eq-eqb _ _ zw) at z))

  -- whatever refuses a line has a number that lines give, or 29
  abbrev Fine : Lined → Type 0
  Fine l = (l.number ≡ 0 → ⊥) → Known l.number

  number_fine : (b : Lined) (line : ℕ) (key : List ℕ) (low high : ℕ) → Fine b → Fine (number_after s b line key low high)
  unfolding number_after
  number_fine b line key low high f =
      let a = (number_lies s b.next key low high).answer in
      by (eqb b.number 0) (λ t. rw t (λ z. known_line (a.real z) a.known)) (λ t. rw t f)

  word_fine : (b : Lined) (line : ℕ) (key ws : List ℕ) → Fine b → Fine (word_after s b line key ws)
  unfolding word_after
  word_fine b line key ws f =
      let a = (word_lies s b.next key ws).answer in
      by (eqb b.number 0) (λ t. rw t (λ z. known_line (a.real z) a.known)) (λ t. rw t f)

  form_fine : Fine F
  unfolding form_line word_after
  form_fine =
      let a = (word_lies s 0 (bytes "form=") (bytes "1|2")).answer in
      by (eqb X.number 23) (λ u. rw u (λ z. known_form)) (λ u. rw u (λ z. known_line (a.real z) a.known))

  match_fine : (f : ℕ) (d : Lined) → Fine d → Fine (match_line s f d)
  unfolding match_line
  match_fine f d g =
      by (eqb f 1) (λ t. rw t (word_fine d 2 (bytes "match=") (bytes "port|standard") g))
      (λ t. rw t (by (eqb d.number 0) (λ u. rw u g) (λ u. rw u g)))

  rules_fine : Fine R
  rules_fine =
      number_fine W (4 + K) (bytes "rules=") 0 32
      (number_fine T (3 + K) (bytes "window=") 1000000 600000000
      (number_fine M (2 + K) (bytes "threshold=") 2 16 (match_fine F.value D (word_fine F 1 (bytes "default=") (bytes "allow|block") form_fine))))

  -- the form's nest once more, line by line
  lines_lined : head_lines.read s 0 0 ≡ took_of R (form_at F.value, (action_at D.value, (matching_at M.value, (T.value, (W.value, R.value)))))
  unfolding head_lines body_in action_form
  lines_lined =
      let default = word_form (bytes "default=") (bytes "allow|block") in
      let lf = form_first in
      pair_lined _ _ s 0 0 F R (form_at F.value) _ form_lined
      (λ zf.
      let ld = word_line s F 1 (bytes "default=") (bytes "allow|block") zf in
      let read = word_lined s F 1 (bytes "default=") (bytes "allow|block") zf (omega arith) in
      pair_lined _ _ s F.next (F.line + 1) D R (action_at D.value) _ (map_lined action_at action_number default s F.next (F.line + 1) D _ read)
      (λ zd.
      let lm = match_line_lem F.value D zd ld in
      pair_lined _ _ s D.next (D.line + 1) M R (matching_at M.value) _ (match_lined F.value D zd ld)
      (λ zm.
      let lt = number-line s M (2 + K) (bytes "threshold=") 2 16 zm in
      pair_lined _ _ s M.next (M.line + 1) T R T.value _ (number_lined s M (2 + K) (bytes "threshold=") 2 16 zm (omega arith))
      (λ zt.
      let lw = number-line s T (3 + K) (bytes "window=") 1000000 600000000 zt in
      pair_lined _ _ s T.next (T.line + 1) W R W.value _ (number_lined s T (3 + K) (bytes "window=") 1000000 600000000 zt (omega arith))
      (λ zw. number_lined s W (4 + K) (bytes "rules=") 0 32 zw (omega arith)) window_stays) threshold_stays) matched_stays) default_stays) form_stays

module _ {s : List ℕ} {k : ℕ} {f d m t w r : Lined} (c : Chained s k f d m t w r) where
  -- the same of what the code read
  head_lined : head_lines.read s 0 0 ≡ took_of r (form_at f.value, (action_at d.value, (matching_at m.value, (t.value, (w.value, r.value)))))
  head_lined = rw (c.rules, c.window, c.threshold, c.matched, c.default, c.more, c.form) (lines_lined s)

  -- a line was refused: its number and where it stands, counted from 1
  pub head_stops : (r.number ≡ 0 → ⊥)
      → record { number = r.number; line = 1 + r.line; next = 0; form = 0; default_action = Allow; matching = Port; threshold = 0; window = 0; rules = 0 }
      ≡ head_of (head_lines.read s 0 0)
  unfolding head_of
  head_stops z = let e : r.line + 1 ≡ 1 + r.line = omega arith in rw (head_lined, ne_eqb _ _ z, head_of, e)

  -- all were read
  pub head_reads : r.number ≡ 0
      → record {
        number = 0;
        line = 1 + r.line;
        next = r.next;
        form = 1 + f.value;
        default_action = action_at d.value;
        matching = matching_at m.value;
        threshold = t.value;
        window = w.value;
        rules = r.value;
      }
      ≡ head_of (head_lines.read s 0 0)
  unfolding head_of
  head_reads z =
      let e : r.line + 1 ≡ 1 + r.line = omega arith in
      let n : f.value + 1 ≡ 1 + f.value = omega arith in
      rw (head_lined, eq-eqb _ _ z, head_of, e, n)

  -- then the form's place is 0 or 1
  pub head_form : r.number ≡ 0 → f.value < 2
  head_form z = rw c.form (form_small s (was_read s (F s) (form_stays s) (rw (c.rules, c.window, c.threshold, c.matched, c.default, c.more, c.form) at z)))

  -- and the threshold is not over 16
  pub head_threshold : r.number ≡ 0 → t.value ≤ 16
  head_threshold z =
      rw (c.threshold, c.matched, c.default, c.more, c.form) (threshold_small s (rw (c.rules, c.window, c.threshold, c.matched, c.default, c.more, c.form) at z))

  -- nor are there more than 32 rules
  pub head_rules : r.number ≡ 0 → r.value ≤ 32
  head_rules z =
      rw (c.rules, c.window, c.threshold, c.matched, c.default, c.more, c.form) (rules_few s (rw (c.rules, c.window, c.threshold, c.matched, c.default, c.more, c.form) at z))

  -- and what refuses a line has a number that lines give, or 29
  pub head_fine : (r.number ≡ 0 → ⊥) → Known r.number
  head_fine = rw (c.rules, c.window, c.threshold, c.matched, c.default, c.more, c.form) (rules_fine s)
