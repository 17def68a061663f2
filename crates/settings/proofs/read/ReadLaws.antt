-- A whole settings text: what its parts gave, one after another, is what the text gives, and the counts that are added stay small. Assumes nothing.
use Prim.Native.Nat.{ℕ, ◌+◌, ◌≤◌, ◌<◌}
use mathlib.Core.Path.{◌≡◌, refl, ◌∙◌}
use mathlib.Core.Bool.{cond}
use mathlib.Core.List.{List, []}
use native.Mathlib.Omega.{arith}
use lib.Dec.{eqb}
use lib.ListN.{length}
use borrow.Author.Tests.{eq-eqb, ne_eqb, le-leb, lt-leb}
use Rattle.laws.proofs.Cases.{by}
use Rattle.topics.specs.declared.matching.Matching.{Matching}
use Rattle.lines.specs.Field.{text_end}
use Rattle.forms.specs.Form.{Took, took, stopped, on_took, number_form, word_form, none_form, pair_form, map_form, numbered_form, many_form, read_all, ended, whole_of}
use Rattle.forms.proofs.FormRound.{many_round}
use Rattle.forms.proofs.RealLaws.{RealTook}
use Rattle.rules_text.specs.RuleText.{RuleText, action_form, rule_form}
use Rattle.rules_text.proofs.RuleRound.{rule_round, rules_count}
use Rattle.settings.specs.Kept.{head_of, rules_read, not_read, settings_read, rules_from, read_of, HeadLines, SettingsRead, RulesLines}
use Rattle.settings.specs.Loaded.{table_of}
use Rattle.settings.specs.SettingsText.{Head, form_among, form_form, match_in, body_in, head_lines, rules_after, settings_from, settings_lines, settings_form, settings_of}
use Rattle.settings.proofs.SettingsRound.{head_round, head_real, rules_real}

-- the values of the lines before the rules, as the code has them
abbrev head_in : HeadLines → Head
head_in h = (h.form, (h.default_action, (h.matching, (h.threshold, (h.window, h.rules)))))

-- what the code has of those lines says what the form read
head_known : (t : Took Head) → RealTook 36 t → {h : HeadLines} → h ≡ head_of t
    → t ≡ cond (eqb h.number 0) (took (head_in h) h.next h.line) (stopped h.number h.line)
unfolding head_of
head_known (took x p l) r e = rw e
head_known (stopped n l) r e = rw (e, ne_eqb n 0 (r n l refl).0)

-- and so of the rules, by whether they were read
rules_known : (t : Took (List RuleText)) → RealTook 36 t → {r : RulesLines} → r ≡ rules_read t → {P : Type 0}
    → ((rs : List RuleText) → r.number ≡ 0 → t ≡ took rs r.next r.line → r.rules ≡ table_of rs → r.rule_count ≡ length rs → P)
    → ((r.number ≡ 0 → ⊥) → t ≡ stopped r.number r.line → P) → P
unfolding rules_read
rules_known (took rs p l) k e f g = f rs (rw e) (rw e) (rw e) (rw e)
rules_known (stopped n l) k e f g = g (rw e (k n l refl).0) (rw e)

-- five or six lines stand before the rules
match_lines : (form : ℕ) (m : Matching) → (match_in form).count m ≤ 1
unfolding match_in map_form word_form none_form
match_lines form m = by (eqb form 2) (λ t. rw t (omega arith)) (λ t. rw t (omega arith))

head_lines_lem : (x : Head) → head_lines.count x ≤ 6
unfolding head_lines body_in pair_form form_form form_among numbered_form map_form word_form action_form number_form
head_lines_lem x = omega (arith, match_lines x.0 x.1.1.0)

-- at most 32 rules follow
head_few : (x : Head) → head_lines.fits x → rules_after x ≤ 32
unfolding head_lines body_in pair_form number_form
head_few x f = f.1.1.1.1.1.1

-- a text that is too long
pub read_long : (s : List ℕ) {x : SettingsRead} → 65536 < length s → x ≡ not_read 27 0 → x ≡ read_of s
unfolding read_of settings_of whole_of settings_read
read_long s h e = rw (lt-leb _ _ h, settings_read) e

-- one that is not, whose lines before the rules gave d
pub record Begun (s : List ℕ) (d : HeadLines) : Type 0 where
  pub short : length s ≤ 65536
  pub head : d ≡ head_of (head_lines.read s 0 0)

module _ {s : List ℕ} {d : HeadLines} (b : Begun s d) where
  -- one of those lines was refused
  pub read_stops : {x : SettingsRead} → (d.number ≡ 0 → ⊥) → x ≡ not_read d.number d.line → x ≡ read_of s
  unfolding read_of settings_of whole_of ended settings_form settings_lines map_form pair_form on_took settings_read
  read_stops z e =
      rw (le-leb _ _ b.short, head_known (head_lines.read s 0 0) (head_real s 0 0) b.head, ne_eqb _ _ z, on_took, settings_read) e

  -- all were read
  head_took : d.number ≡ 0 → head_lines.read s 0 0 ≡ took (head_in d) d.next d.line
  head_took z = head_known (head_lines.read s 0 0) (head_real s 0 0) b.head ∙ (rw (eq-eqb _ _ z))

  -- then there are at most 32 rules, and at most six lines before them
  pub head_bounds : d.number ≡ 0 → (d.rules ≤ 32) × (d.line ≤ 6)
  head_bounds z =
      let back = head_round.back s 0 0 (head_took z) in
      (head_few (head_in d) back.1, omega (arith, back.2, head_lines_lem (head_in d)))

  -- and the rules begin after them
  rules_begin : rules_from s ≡ d.next
  unfolding rules_from
  rules_begin = rw b.head

-- the rules after those lines gave r
pub record Followed (s : List ℕ) (d : HeadLines) (r : RulesLines) : Type 0 where
  pub begun : Begun s d
  pub opened : d.number ≡ 0
  pub rules : r ≡ rules_read (read_all rule_form d.rules [] s d.next d.line)

module _ {s : List ℕ} {d : HeadLines} {r : RulesLines} (f : Followed s d r) where
  -- the text is its lines and then its end
  read_rules : (t : Took (List RuleText)) → read_all rule_form d.rules [] s d.next d.line ≡ t
      → settings_of s ≡ ended s (on_took t (λ rs p l. took (settings_from (head_in d, rs)) p l))
  unfolding settings_of whole_of settings_form settings_lines map_form pair_form many_form on_took
  read_rules (took rs p l) e = rw (le-leb _ _ f.begun.short, head_took f.begun f.opened, on_took, e)
  read_rules (stopped n l) e = rw (le-leb _ _ f.begun.short, head_took f.begun f.opened, on_took, e)

  -- by whether the rules were read
  by_rules : {P : Type 0}
      → ((rs : List RuleText) → read_all rule_form d.rules [] s d.next d.line ≡ took rs r.next r.line → r.rules ≡ table_of rs
      → r.rule_count ≡ length rs → r.number ≡ 0 → P)
      → (read_all rule_form d.rules [] s d.next d.line ≡ stopped r.number r.line → (r.number ≡ 0 → ⊥) → P) → P
  unfolding many_form
  by_rules g h =
      rules_known (read_all rule_form d.rules [] s d.next d.line) (rules_real d.rules s d.next d.line) f.rules
      (λ rs z e t n. g rs e t n z)
      (λ z e. h e z)

  -- a rule was refused
  pub rules_stop : {x : SettingsRead} → (r.number ≡ 0 → ⊥) → x ≡ not_read r.number r.line → x ≡ read_of s
  unfolding read_of ended on_took settings_read
  rules_stop z q =
      by_rules (λ rs e t n y. absurd (z y)) (λ e y. rw (read_rules (stopped r.number r.line) e, on_took, settings_read) q)

  -- something stands after the last line
  pub rules_end : {x : SettingsRead} {n : ℕ} → r.number ≡ 0 → n ≡ text_end s r.next → (n ≡ 0 → ⊥) → x ≡ not_read n (r.line + 1) → x ≡ read_of s
  unfolding read_of ended on_took settings_read
  rules_end z w m q =
      by_rules (λ rs e t n y. rw (read_rules (took rs r.next r.line) e, on_took, ← w, ne_eqb _ _ m, settings_read) q) (λ e y. absurd (y z))

  -- all is read
  pub all_read : {n : ℕ} → r.number ≡ 0 → n ≡ text_end s r.next → n ≡ 0
      → record {
        number = 0;
        line = r.line;
        form = d.form;
        default_action = d.default_action;
        matching = d.matching;
        threshold = d.threshold;
        window = d.window;
        rules_from = d.next;
        rule_count = r.rule_count;
        rules = r.rules;
      }
      ≡ read_of s
  unfolding read_of ended on_took settings_read
  all_read z w m =
      by_rules
      (λ rs e t n y. rw (read_rules (took rs r.next r.line) e, on_took, ← w, eq-eqb _ _ m, settings_read, t, n, rules_begin f.begun))
      (λ e y. absurd (y z))

  -- a text has at most 134 lines
  pub lines_few : r.number ≡ 0 → r.line ≤ 134
  unfolding many_form
  lines_few z =
      by_rules
      (λ rs e t n y.
      let back = (many_round rule_form rule_round d.rules).back s d.next d.line e in
      let few = head_bounds f.begun f.opened in
      omega (arith, back.2, back.1.0, rules_count [] rs, few.0, few.1))
      (λ e y. absurd (y z))
