-- The lines before the rules as the code writes them and sums up their lengths: together at most 90 bytes, where the types of their values hold (`HeadTyped`), and a sum of lengths each capped at the
-- largest 64-bit number is the length of the text. Assumes nothing.
use Prim.Native.Nat.{ℕ, ◌+◌, ◌^◌, ◌≤◌, ◌<◌}
use mathlib.Core.Path.{◌≡◌, refl, sym, ap, ◌∙◌}
use mathlib.Core.List.{List, [], ◌++◌, append_assoc}
use native.Mathlib.Omega.{arith}
use lib.Dec.{eqb}
use lib.ListN.{length, length-append}
use borrow.Author.Tests.{eq-eqb, ne_eqb, eqb-true, eqb-false}
use Rattle.laws.specs.Lists.{every}
use Rattle.laws.proofs.Cases.{by}
use Rattle.slices.specs.Bytes.{bytes}
use Rattle.topics.specs.declared.matching.Matching.{Matching}
use Rattle.lines.specs.Line.{word_line, number_line, capped}
use Rattle.lines.specs.Word.{first_word, rest_words}
use Rattle.lines.specs.Wrote.{Wrote}
use Rattle.lines.proofs.lengths.LineLaws.{number_line-length, word_line-length}
use Rattle.lines.proofs.put.DecimalLaws.{decimal_short, decimal_20}
use Rattle.lines.proofs.put.WroteLaws.{wrote_then}
use Rattle.forms.proofs.LineBounds.{uncapped}
use Rattle.forms.proofs.ShortLaws.{word_long}
use Rattle.forms.specs.Form.{word_form, number_form, none_form, pair_form, map_form, numbered_form}
use Rattle.tables.specs.Numbers.{action_number}
use Rattle.tables.specs.declared.rules.TopicAction.{TopicAction}
use Rattle.rules_text.specs.RuleText.{action_form}
use Rattle.settings.specs.SettingsText.{Head, form_place, form_among, form_form, matching_number, match_in, body_in, head_lines}

-- the words of the forms and of an action
abbrev forms : List ℕ
forms = bytes "1|2"

abbrev actions : List ℕ
actions = bytes "allow|block"

-- the matcher's line in a form: nothing, or its word; at most 15 bytes
pub match_none : (form : ℕ) (m : Matching) → (form ≡ 2 → ⊥) → (match_in form).text m ≡ []
unfolding match_in none_form
match_none form m h = rw (ne_eqb form 2 h)

pub match_word : (form : ℕ) (m : Matching) → form ≡ 2 → (match_in form).text m ≡ word_line (bytes "match=") (bytes "port|standard") (matching_number m)
unfolding match_in map_form word_form
match_word form m h = rw (eq-eqb form 2 h)

word_room : (m : Matching) → length (word_line (bytes "match=") (bytes "port|standard") (matching_number m)) ≤ 15
unfolding every first_word rest_words
word_room m = rw word_line-length (omega (arith, word_long (bytes "port|standard") 8 refl (matching_number m)))

match_room : (form : ℕ) (m : Matching) → length ((match_in form).text m) ≤ 15
match_room form m =
    by (eqb form 2)
    (λ t. rw (match_word form m (eqb-true _ _ t)) (word_room m))
    (λ t. rw (match_none form m (eqb-false _ _ t)) (omega arith))

-- the same as the code writes and measures it
pub match_wrote : (form : ℕ) (m : Matching) {d e : List ℕ} {at k r : ℕ} → form ≡ 2 → k ≡ matching_number m → Wrote d e at (word_line (bytes "match=") (bytes "port|standard") k) r
    → Wrote d e at ((match_in form).text m) r
match_wrote form m h e w = rw (match_word form m h, ← e) w

pub match_sum : (form : ℕ) (m : Matching) {k r : ℕ} → form ≡ 2 → k ≡ matching_number m → r ≡ capped (length (word_line (bytes "match=") (bytes "port|standard") k))
    → (r ≡ length ((match_in form).text m)) × (r ≤ 15)
match_sum form m h e q =
    let n = uncapped (rw e at q) (omega (arith, word_room m)) in
    rw (match_word form m h) (n, omega (arith, n, word_room m))

-- what the types of the values hold
pub record HeadTyped (threshold window rules : ℕ) : Type 0 where
  pub threshold8 : threshold < 256
  pub window64 : window < 2 ^ 64
  pub rules16 : rules < 65536

module _ (form : ℕ) (action : TopicAction) (matching : Matching) (threshold window rules : ℕ) where
  abbrev head : Head
  head = (form, (action, (matching, (threshold, (window, rules)))))

  -- the lines, one behind the other
  head-text : word_line (bytes "form=") forms (form_place form) ++ word_line (bytes "default=") actions (action_number action) ++ (match_in form).text matching
      ++ number_line (bytes "threshold=") threshold ++ number_line (bytes "window=") window ++ number_line (bytes "rules=") rules ≡ head_lines.text head
  unfolding head_lines form_form form_among body_in numbered_form pair_form action_form map_form word_form number_form
  head-text = simp append_assoc

  -- six writes, one behind the other
  pub head_wrote : {k a : ℕ} {d e f g h i j : List ℕ} {at u v w x y z : ℕ} → k ≡ form_place form → a ≡ action_number action
      → Wrote d e at (word_line (bytes "form=") forms k) u → Wrote e f u (word_line (bytes "default=") actions a) v → Wrote f g v ((match_in form).text matching) w
      → Wrote g h w (number_line (bytes "threshold=") threshold) x → Wrote h i x (number_line (bytes "window=") window) y → Wrote i j y (number_line (bytes "rules=") rules) z
      → Wrote d j at (head_lines.text head) z
  head_wrote ek ea p1 p2 p3 p4 p5 p6 = rw (← head-text, ← ek, ← ea) (wrote_then (wrote_then (wrote_then (wrote_then (wrote_then p1 p2) p3) p4) p5) p6)

  -- the length of the text is the sum of the lengths of its lines
  text-length : length (head_lines.text head) ≡ length (word_line (bytes "form=") forms (form_place form)) + length (word_line (bytes "default=") actions (action_number action))
      + length ((match_in form).text matching) + length (number_line (bytes "threshold=") threshold) + length (number_line (bytes "window=") window)
      + length (number_line (bytes "rules=") rules)
  text-length = ap length (sym head-text) ∙ (simp length-append)

  -- the text is short
  head_short : HeadTyped threshold window rules → length (head_lines.text head) ≤ 90
  unfolding every first_word rest_words
  head_short t =
      omega (
        arith,
        text-length,
        word_line-length (bytes "form=") forms (form_place form),
        word_long forms 1 refl (form_place form),
        word_line-length (bytes "default=") actions (action_number action),
        word_long actions 5 refl (action_number action),
        match_room form matching,
        number_line-length (bytes "threshold=") threshold,
        decimal_short 2 threshold (omega (arith, t.threshold8)),
        number_line-length (bytes "window=") window,
        decimal_20 window t.window64,
        number_line-length (bytes "rules=") rules,
        decimal_short 4 rules (omega (arith, t.rules16)),
      )

  -- the sum of the code
  pub head_sum : {k a p x m y z w : ℕ} → HeadTyped threshold window rules → k ≡ form_place form → a ≡ action_number action → p ≡ capped (length (word_line (bytes "form=") forms k))
      → x ≡ capped (length (word_line (bytes "default=") actions a)) → m ≡ length ((match_in form).text matching) → y ≡ capped (length (number_line (bytes "threshold=") threshold))
      → z ≡ capped (length (number_line (bytes "window=") window)) → w ≡ capped (length (number_line (bytes "rules=") rules))
      → (p + x + m + y + z + w ≡ length (head_lines.text head)) × (p + x + m + y + z + w ≤ 200)
  head_sum t ek ea ep ex em ey ez ew =
      let s = head_short t in
      let p = uncapped (rw ek at ep) (omega (arith, text-length, s)) in
      let x = uncapped (rw ea at ex) (omega (arith, text-length, s)) in
      let y = uncapped ey (omega (arith, text-length, s)) in
      let z = uncapped ez (omega (arith, text-length, s)) in
      let w = uncapped ew (omega (arith, text-length, s)) in
      (omega (arith, text-length, s, p, x, em, y, z, w), omega (arith, text-length, s, p, x, em, y, z, w))
