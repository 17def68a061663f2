-- A loaded monitor is one that calls make: a constructor, `set_connect_storm_params`, which clamps nothing of a text that was accepted, and `add_rule` for each of its rules, which takes every one and
-- overwrites none. So whatever calls keep holds of it. Assumes nothing.
use Prim.Native.Nat.{ℕ, ◌+◌, ◌≤◌, ◌<◌, min, max}
use mathlib.Core.Path.{◌≡◌, refl, sym, ◌∙◌}
use mathlib.Core.Bool.{false}
use mathlib.Core.List.{List, [], ◌∷◌, ◌++◌, append-nil, append_assoc}
use native.Mathlib.Omega.{arith}
use lib.Dec.{eqb}
use lib.ListN.{length, length-append}
use borrow.Author.Tests.{eqb-true, eqb-false}
use Rattle.laws.proofs.Cases.{by}
use Rattle.topics.specs.Patterns.{pattern_refusal}
use Rattle.topics.specs.declared.matching.Matching.{Matching}
use Rattle.topics.proofs.patterns.PatternLaws.{accepted_length}
use Rattle.forms.specs.Form.{FitAll, fit_more, test_form, pair_form, map_form, number_form, many_form}
use Rattle.tables.specs.Rules.{is_held}
use Rattle.tables.specs.declared.rules.QosPolicy.{QosPolicy}
use Rattle.tables.specs.declared.rules.TopicAction.{TopicAction}
use Rattle.tables.proofs.rules.PlanLaws.{plan_new}
use Rattle.rules_text.specs.RuleText.{RuleText, rule_form, rule_refusal, given_in}
use Rattle.monitor.specs.Calls.{fresh, add_rule, set_storm}
use Rattle.monitor.specs.Sound.{Sound}
use Rattle.monitor.specs.State.{with_rules, with_settings}
use Rattle.monitor.specs.declared.state.MqttMonitor.{MqttMonitor}
use Rattle.monitor.proofs.rule_calls.AddLaws.{add_takes}
use Rattle.monitor.proofs.SoundCalls.{sound_fresh, sound_add, sound_storm}
use Rattle.settings.specs.Loaded.{table_of, monitor_of}
use Rattle.settings.specs.SettingsText.{Settings, body_in, head_lines, settings_lines, settings_form}
use Rattle.settings.proofs.rules.TableLaws.{Brief, brief_none, brief_more, brief_join, held_given, table_more}

-- what a rule that fits says: its pattern is taken, and was not given before
pub rule_says : (before : List RuleText) (a : RuleText) → (rule_form before).fits a → (pattern_refusal a.pattern ≡ 0) × (given_in before a.pattern ≡ false)
unfolding rule_form test_form rule_refusal
rule_says before a f =
    by (eqb (pattern_refusal a.pattern) 0)
    (λ t. by (given_in before a.pattern) (λ u. absurd (let q : 35 ≡ 0 = rw (t, u) at f.1 in omega arith)) (λ u. (eqb-true _ _ t, u)))
    (λ t. absurd (eqb-false _ _ t (rw t at f.1)))

-- rules that fit have patterns of at most 64 bytes
pub fit_brief : (before rs : List RuleText) → FitAll rule_form before rs → Brief rs
fit_brief before [] f = brief_none
fit_brief before (a ∷ rs) (fit_more h more) = brief_more (accepted_length a.pattern (rule_says before a h).0).1 (fit_brief (before ++ (a ∷ [])) rs more)

-- a fresh monitor with CONNECT settings and some rules
abbrev holds : Matching → TopicAction → ℕ → ℕ → List RuleText → MqttMonitor
holds m d t w rs = with_settings (with_rules (fresh m d) (table_of rs) (length rs)) t w

module _ (P : MqttMonitor → Type 0) (make : (matching : Matching) (default : TopicAction) → P (fresh matching default))
    (set_storm_keeps : (m : MqttMonitor) → P m → (t w : ℕ) → P (set_storm m t w).monitor)
    (add : (m : MqttMonitor) → P m → (p : List ℕ) (action : TopicAction) (policy : QosPolicy) (rate : ℕ) → P (add_rule m p action policy rate).monitor) where
  module _ (m : Matching) (d : TopicAction) (t w : ℕ) where
    -- one rule more
    one_more : (before : List RuleText) (a : RuleText) → Sound (holds m d t w before) → Brief before → length before < 32 → (rule_form before).fits a
        → (add_rule (holds m d t w before) a.pattern a.action a.policy a.rate).monitor ≡ holds m d t w (before ++ (a ∷ []))
    unfolding fresh
    one_more before a s b h f =
        let q = rule_says before a f in
        let g : is_held (table_of before) (length before) a.pattern ≡ false = held_given a.pattern before b (omega arith) ∙ q.1 in
        let e = plan_new (table_of before) (length before) a.pattern a.action a.policy a.rate refl q.0 refl refl g h in
        let n : length (before ++ (a ∷ [])) ≡ length before + 1 = rw length-append (omega arith) in
        add_takes (holds m d t w before) a.pattern a.action a.policy a.rate e s.formed refl
        ∙ (λ k. with_settings (with_rules (fresh m d) (table_more before a h k) (sym n k)) t w)

    all_added : (before rs : List RuleText) → P (holds m d t w before) → Sound (holds m d t w before) → Brief before → length before + length rs ≤ 32 → FitAll rule_form before rs
        → P (holds m d t w (before ++ rs))
    all_added before [] p s b h f = rw (append-nil before) p
    all_added before (a ∷ rs) p s b h (fit_more fa fr) =
        let e = one_more before a s b (omega arith) fa in
        let n : length (before ++ (a ∷ [])) ≡ length before + 1 = rw length-append (omega arith) in
        let p' : P (holds m d t w (before ++ (a ∷ []))) = rw e at (add (holds m d t w before) p a.pattern a.action a.policy a.rate) in
        let s' : Sound (holds m d t w (before ++ (a ∷ []))) = rw e at (sound_add s a.pattern a.action a.policy a.rate) in
        rw (append_assoc before (a ∷ []) rs) at
        (all_added (before ++ (a ∷ [])) rs p' s' (brief_join a b (accepted_length a.pattern (rule_says before a fa).0).1) (omega arith) fr)

    -- the CONNECT settings are in their ranges, so that none is clamped
    storm_is : 2 ≤ t → t ≤ 16 → 1000000 ≤ w → w ≤ 600000000 → (set_storm (fresh m d) t w).monitor ≡ holds m d t w []
    unfolding set_storm fresh
    storm_is a b c e =
        let f = (sound_fresh m d).formed in
        let x : min (max t 2) 16 ≡ t = omega arith in
        let y : min (max w 1000000) 600000000 ≡ w = omega arith in
        rw (f, x, y)

  -- what calls keep holds of the monitor with settings that fit
  pub by_calls : (v : Settings) → settings_form.fits v → P (monitor_of v)
  unfolding settings_form map_form settings_lines pair_form head_lines body_in number_form many_form monitor_of
  by_calls v f =
      let x = f.0.0.1.1.1 in
      let e = storm_is v.matching v.default v.threshold v.window x.0.0 x.0.1 x.1.0.0 x.1.0.1 in
      let p : P (holds v.matching v.default v.threshold v.window []) =
      rw e at (set_storm_keeps (fresh v.matching v.default) (make v.matching v.default) v.threshold v.window) in
      let s : Sound (holds v.matching v.default v.threshold v.window []) = rw e at (sound_storm (sound_fresh v.matching v.default) v.threshold v.window) in
      all_added v.matching v.default v.threshold v.window [] v.rules p s brief_none (let q : length v.rules ≤ 32 = x.1.1.1 in omega arith) f.0.1.1
