-- The settings of a sound monitor whose numbers are within their types fit; so what is written of them is read as them, and the monitor that has them has them in every field. Assumes nothing.
use Prim.Native.Nat.{ℕ, zero, suc, ◌+◌, ◌-◌, ◌≤◌, ◌<◌}
use mathlib.Core.Path.{◌≡◌, refl, sym, ap, ◌∙◌}
use mathlib.Core.Bool.{true, false}
use mathlib.Core.List.{List, [], ◌∷◌, ◌++◌, map}
use native.Mathlib.Omega.{arith}
use lib.ListN.{length, get_or, take, drop, replicate, length-append, length-take, length-map, length-replicate, get_or-replicate, get_or-map, get_or-append, take-append-drop}
use lib.Seq.{get_or-take, take-take, length-take-le, ext_get_or, get_or-append-add, take_all}
use Rattle.laws.proofs.Cases.{by_le}
use Rattle.laws.proofs.Every.{every_first}
use Rattle.slices.specs.Bytes.{bytes, same}
use Rattle.lines.specs.Word.{first_word, rest_words}
use Rattle.forms.specs.Form.{FitAll, number_form, word_form, hex_form, pair_form, map_form, test_form, many_form}
use Rattle.forms.proofs.FormRound.{each_fits}
use Rattle.tables.specs.Rules.{pattern_of, rule_fine, empty_rule, no_rule}
use Rattle.tables.specs.declared.rules.QosPolicy.{QosPolicy}
use Rattle.tables.specs.declared.rules.TopicAction.{TopicAction}
use Rattle.tables.specs.declared.rules.TopicRule.{TopicRule}
use Rattle.tables.proofs.rules.NumberLaws.{action_back, policy_back}
use Rattle.tables.proofs.rules.RuleLaws.{fine_says}
use Rattle.rules_text.specs.RuleText.{RuleText, action_form, policy_form, rule_lines, rule_form, rule_refusal, given_in, rule_in}
use Rattle.monitor.specs.Calls.{fresh}
use Rattle.monitor.specs.Ranged.{RangedRule, Ranged}
use Rattle.monitor.specs.Sound.{Sound}
use Rattle.monitor.specs.declared.state.MqttMonitor.{MqttMonitor}
use Rattle.monitor.proofs.state.FormedLaws.{formed_parts}
use Rattle.settings.specs.Loaded.{settings_in, rule_held, table_of, monitor_of, SameSettings}
use Rattle.settings.specs.SettingsText.{form_refusal, body_in, head_lines, settings_lines, settings_form}
use Rattle.settings.proofs.FormLaws.{taken_known, form-fits, match_fits}

-- every action and every policy has its word
action_fits : (key : List ℕ) (a : TopicAction) → (action_form key).fits a
unfolding action_form map_form word_form first_word rest_words
action_fits key a = let b = action_back a in (omega (arith, b.1), b.0)

policy_fits : (q : QosPolicy) → policy_form.fits q
unfolding policy_form map_form word_form first_word rest_words
policy_fits q = let b = policy_back q in (omega (arith, b.1), b.0)

-- a pattern that differs from each before it is not given
not_given : (rs : List TopicRule) (p : List ℕ) → ((i : ℕ) → i < length rs → same (pattern_of (get_or rs i no_rule)) p ≡ false) → given_in (map rule_in rs) p ≡ false
unfolding given_in
not_given [] p h = refl
not_given (r ∷ rs) p h =
    let e : same (pattern_of r) p ≡ false = h zero (omega arith) in
    rw e (not_given rs p (λ i l. h (suc i) (omega arith)))

map-take : (rs : List TopicRule) (i : ℕ) → take i (map rule_in rs) ≡ map rule_in (take i rs)
map-take rs zero = refl
map-take [] (suc i) = refl
map-take (r ∷ rs) (suc i) = ap (λ (l : List RuleText). rule_in r ∷ l) (map-take rs i)

-- the first bytes of bytes are bytes
small_take : (n : ℕ) (l : List ℕ) → ((i : ℕ) → get_or l i 0 < 256) → (i : ℕ) → get_or (take n l) i 0 < 256
small_take zero l h i = omega arith
small_take (suc n) [] h i = omega arith
small_take (suc n) (c ∷ l) h zero = h zero
small_take (suc n) (c ∷ l) h (suc i) = small_take n l (λ j. h (suc j)) i

-- a rule that may be held fits after rules that do not have its pattern
rule_fits : (before : List RuleText) (r : TopicRule) → RangedRule r → rule_fine r ≡ true → given_in before (pattern_of r) ≡ false → (rule_form before).fits (rule_in r)
unfolding rule_form test_form map_form rule_lines pair_form hex_form number_form rule_refusal
rule_fits before r g f e =
    let p = fine_says r f in
    let n : length (pattern_of r) ≤ 128 = rw length-take (omega (arith, p.1)) in (
      (((n, small_take r.pattern_len r.pattern g.pattern_bytes), (action_fits (bytes "action=") r.action, (policy_fits r.qos_policy, (omega arith, omega (arith, g.rate))))), refl),
      rw (e, p.2),
    )

-- an element of a list that is mapped
map_at : {A B : Type 0} (f : A → B) (l : List A) (i : ℕ) (d : A) (e : B) → i < length l → get_or (map f l) i e ≡ f (get_or l i d)
map_at f [] i d e h = absurd (omega arith)
map_at f (x ∷ l) zero d e h = refl
map_at f (x ∷ l) (suc i) d e h = map_at f l i d e (omega arith)

-- a rule with zeros after its pattern is told by what its lines say
held_back : (r : TopicRule) → r.active ≡ true → length r.pattern ≡ 64 → r.pattern_len ≤ 64 → drop r.pattern_len r.pattern ≡ replicate (64 - r.pattern_len) 0
    → rule_held (rule_in r) ≡ r
held_back r a l n d =
    let e : length (pattern_of r) ≡ r.pattern_len = length-take-le _ _ (rw l n) in
    let p : take 64 (pattern_of r) ++ replicate (64 - length (pattern_of r)) 0 ≡ r.pattern =
    rw (e, take_all 64 (pattern_of r) (omega arith), ← d) (take-append-drop r.pattern_len r.pattern) in
    λ k. record { pattern = p k; pattern_len = e k; action = r.action; qos_policy = r.qos_policy; max_rate_per_sec = r.max_rate_per_sec; active = sym a k }

module _ (m : MqttMonitor) (s : Sound m) where
  -- the rules that count, and their texts
  abbrev held : List TopicRule
  held = take m.rule_count m.rules

  abbrev texts : List RuleText
  texts = map rule_in held

  count_le : m.rule_count ≤ 32
  count_le = (formed_parts m s.formed).count

  held_long : length held ≡ m.rule_count
  held_long = length-take-le _ _ (rw s.rules_sound.size count_le)

  held_at : (i : ℕ) → i < m.rule_count → get_or held i no_rule ≡ get_or m.rules i no_rule
  held_at i h = get_or-take m.rule_count m.rules i no_rule h

  rule_fine_lem : (i : ℕ) → i < m.rule_count → rule_fine (get_or m.rules i no_rule) ≡ true
  rule_fine_lem = every_first rule_fine m.rules no_rule m.rule_count (omega (arith, count_le, s.rules_sound.size)) (formed_parts m s.formed).rules_fine

  rules_fit : Ranged m → FitAll rule_form [] texts
  rules_fit ranged =
      each_fits rule_form (rule_in no_rule) [] texts
      (λ i l.
      let h : i < m.rule_count = rw (length-map, held_long) at l in
      rw (map-take, take-take i m.rule_count m.rules (omega arith), get_or-map rule_in held i no_rule, held_at i h)
      (rule_fits (map rule_in (take i m.rules)) (get_or m.rules i no_rule) (ranged.rules_ranged i) (rule_fine_lem i h)
      (not_given (take i m.rules) (pattern_of (get_or m.rules i no_rule))
      (λ j k.
      let q : j < i = rw (length-take-le i m.rules (rw s.rules_sound.size (omega (arith, count_le)))) at k in
      rw (get_or-take i m.rules j no_rule q) (s.rules_sound.apart j i q h)))))

  -- the settings of a sound monitor fit, in every form that is not refused for them
  pub settings_fit : Ranged m → (form : ℕ) → form_refusal form m.matching ≡ 0 → settings_form.fits (settings_in form m)
  unfolding settings_form map_form settings_lines pair_form head_lines body_in number_form many_form
  settings_fit ranged form h =
      let n : length texts ≤ 32 = rw (length-map, held_long) count_le in (
        (
          (
            form-fits form (taken_known form m.matching h),
            (
              action_fits (bytes "default=") m.default_action,
              (match_fits form m.matching h, ((s.threshold_low, s.threshold_high), ((s.window_low, s.window_high), (omega arith, n)))),
            ),
          ),
          (refl, rules_fit ranged),
        ),
        refl,
      )

  -- its table is told by the texts of its rules
  rule_back : (i : ℕ) → i < m.rule_count → rule_held (rule_in (get_or m.rules i no_rule)) ≡ get_or m.rules i no_rule
  rule_back i h =
      let f = fine_says (get_or m.rules i no_rule) (rule_fine_lem i h) in
      let c : i < 32 = omega (arith, count_le) in
      held_back (get_or m.rules i no_rule) f.0 (s.rules_sound.long i c) f.1 (s.rules_sound.rest i c)

  texts_long : length (map rule_held texts) ≡ m.rule_count
  texts_long = rw (length-map, length-map) held_long

  table_size : length (table_of texts) ≡ 32
  table_size = rw (length-append, texts_long, length-map, held_long, length-replicate) (omega (arith, count_le))

  table_at : (i : ℕ) → i < 32 → get_or (table_of texts) i no_rule ≡ get_or m.rules i no_rule
  table_at i h =
      by_le m.rule_count i
      (λ g.
      let e : i ≡ length (map rule_held texts) + (i - m.rule_count) = rw texts_long (omega arith) in
      let k : i - m.rule_count < 32 - length texts = rw (length-map, held_long) (omega arith) in
      ap (λ (j : ℕ). get_or (table_of texts) j no_rule) e
      ∙ get_or-append-add (map rule_held texts) (replicate (32 - length texts) empty_rule) (i - m.rule_count) no_rule
      ∙ get_or-replicate _ (i - m.rule_count) empty_rule no_rule k
      ∙ sym (s.rules_sound.free i g h))
      (λ g.
      get_or-append (map rule_held texts) (replicate (32 - length texts) empty_rule) no_rule i (rw texts_long g)
      ∙ map_at rule_held texts i (rule_in no_rule) no_rule (rw (length-map, held_long) g)
      ∙ ap rule_held (get_or-map rule_in held i no_rule ∙ ap rule_in (held_at i g))
      ∙ rule_back i g)

  table_back : table_of texts ≡ m.rules
  table_back = ext_get_or no_rule _ _ (table_size ∙ sym s.rules_sound.size) (λ i h. table_at i (rw table_size at h))

  -- the monitor that has its settings has them in every field
  pub settings_same : (form : ℕ) → SameSettings (monitor_of (settings_in form m)) m
  unfolding monitor_of fresh
  settings_same form =
      record { default_same = refl; matching_same = refl; threshold_same = refl; window_same = refl; count_same = rw length-map held_long; rules_same = table_back }
