-- What is written of a monitor's settings, and how long it is: the lines before the rules and then the rules (`settings_wrote`, `settings_sum`), the numbers that refuse a text (`not_formed`,
-- `not_taken`), and the answer and the lent buffer for each way to end (`kept_refused`, `kept_short`, `kept_written`). Of a monitor that is well formed this is what is written of its lines and
-- rules (`bare_formed`, `bare_length`, `bare_written`, `bare_kept`). Assumes nothing.
use Prim.Native.Nat.{ℕ, ◌+◌, ◌≤◌, ◌<◌}
use mathlib.Core.Path.{◌≡◌, ap, ◌∙◌}
use mathlib.Core.Bool.{true, false}
use mathlib.Core.List.{List, [], ◌++◌, map}
use native.Mathlib.Omega.{arith}
use borrow.Author.Tests.{eq-eqb, ne_eqb, le-leb, lt-leb}
use lib.Dec.{eqb}
use lib.ListN.{length, take, length-append, length-map}
use Rattle.laws.proofs.Cases.{by}
use Rattle.lines.specs.Wrote.{Wrote}
use Rattle.lines.proofs.put.WroteLaws.{wrote_then}
use Rattle.forms.specs.Form.{pair_form, map_form, many_form, text_all}
use Rattle.rules_text.specs.RuleText.{rule_form, rule_in}
use Rattle.monitor.specs.Calls.{fresh}
use Rattle.monitor.specs.State.{well_formed}
use Rattle.monitor.specs.declared.state.MqttMonitor.{MqttMonitor}
use Rattle.monitor.proofs.SoundCalls.{sound_fresh}
use Rattle.monitor.proofs.state.FormedLaws.{formed_parts, parts_formed}
use Rattle.settings.specs.Loaded.{settings_text, text_refusal, unwritten, length_of, fitted, written_of, text_kept, Written}
use Rattle.settings.specs.Refused.{head_in as values_in, monitor_by}
use Rattle.settings.specs.SettingsText.{form_refusal, Head, head_lines, settings_lines, settings_form}

module _ (form : ℕ) (m : MqttMonitor) where
  -- the values of the lines before the rules, and the text of the rules, as the code asks for them
  abbrev head_in : Head
  head_in = (form, (m.default_action, (m.matching, (m.connect_storm_threshold, (m.connect_storm_window_us, m.rule_count)))))

  abbrev rules_text : List ℕ
  rules_text = text_all rule_form [] (map rule_in (take m.rule_count m.rules))

  module _ (many : length (take m.rule_count m.rules) ≡ m.rule_count) (f : well_formed m ≡ true) where
    -- as many rules as the monitor counts
    count_known : length (map rule_in (take m.rule_count m.rules)) ≡ m.rule_count
    count_known = length-map (take m.rule_count m.rules) rule_in ∙ many

    -- the text is the lines before the rules and then the rules
    text_parts : settings_text form m ≡ head_lines.text head_in ++ rules_text
    unfolding settings_text settings_form map_form settings_lines pair_form many_form
    text_parts = rw count_known

    -- two writes, one behind the other
    pub settings_wrote : {d e g : List ℕ} {p r : ℕ} → Wrote d e 0 (head_lines.text head_in) p → Wrote e g p rules_text r → Wrote d g 0 (settings_text form m) r
    settings_wrote v w = rw text_parts (wrote_then v w)

    -- the sum of the code, where the form is not refused
    pub settings_sum : {n h r : ℕ} → n ≡ form_refusal form m.matching → n ≡ 0 → h ≡ length (head_lines.text head_in) → r ≡ length rules_text → record { number = 0; length = h + r } ≡ length_of form m
    unfolding length_of text_refusal
    settings_sum en z eh er = rw (f, ← en, z, text_parts, eh, er) (simp length-append)

  -- 10: the monitor is not well formed
  pub not_formed : well_formed m ≡ false → unwritten 10 ≡ length_of form m
  unfolding length_of text_refusal
  not_formed f = rw f

  -- then what refuses the form
  pub not_taken : {n : ℕ} → well_formed m ≡ true → n ≡ form_refusal form m.matching → (n ≡ 0 → ⊥) → unwritten n ≡ length_of form m
  unfolding length_of text_refusal
  not_taken {n} f e k = rw (f, ← e, ne_eqb n 0 k)

  module _ {w : Written} (e : w ≡ length_of form m) where
    -- a monitor whose settings have a length is well formed
    pub formed_known : w.number ≡ 0 → well_formed m ≡ true
    unfolding length_of text_refusal
    formed_known z = by (well_formed m) (λ t. t) (λ t. absurd (omega (arith, z, ap (λ (w : Written). w.number) (rw t at e))))

    -- a text that is refused: its length is 0
    refused_length : (w.number ≡ 0 → ⊥) → w.length ≡ 0
    unfolding length_of
    refused_length z =
        by (eqb (text_refusal form m) 0)
        (λ t. absurd (z (ap (λ (w : Written). w.number) (rw t at e))))
        (λ t. ap (λ (w : Written). w.length) (rw t at e))

    module _ (d : List ℕ) where
      -- refused: the answer is the refusal, and the buffer stays
      pub kept_refused : (w.number ≡ 0 → ⊥) → (w ≡ written_of form m (length d)) × (d ≡ text_kept form m d)
      unfolding written_of fitted text_kept
      kept_refused z =
          let g = le-leb w.length (length d) (omega (arith, refused_length z)) in
          (rw (← e, g), rw (← e, g, ne_eqb w.number 0 z))

      -- 28: there is no room, and the buffer stays
      pub kept_short : length d < w.length → (unwritten 28 ≡ written_of form m (length d)) × (d ≡ text_kept form m d)
      unfolding written_of fitted text_kept
      kept_short h = let g = lt-leb w.length (length d) h in (rw (← e, g), rw (← e, g))

      -- written: the text stands at the beginning of the buffer
      pub kept_written : {g : List ℕ} {r : ℕ} → w.number ≡ 0 → w.length ≤ length d → Wrote d g 0 (settings_text form m) r
          → (w ≡ written_of form m (length d)) × (g ≡ text_kept form m d)
      unfolding written_of fitted text_kept
      kept_written z h v = let g = le-leb w.length (length d) h in (rw (← e, g), rw (← e, g, eq-eqb w.number 0 z) v.bytes)

-- a monitor that is well formed, and the fresh one that has its settings and rules
module _ (form : ℕ) (m : MqttMonitor) (f : well_formed m ≡ true) where
  abbrev bare : MqttMonitor
  bare = monitor_by (values_in form m) m.rules

  pub bare_formed : well_formed bare ≡ true
  bare_formed =
      let own = formed_parts m f in
      let new = formed_parts (fresh m.matching m.default_action) (sound_fresh m.matching m.default_action).formed in
      parts_formed bare
      (record { count = own.count; rules_fine = own.rules_fine; buckets_fine = new.buckets_fine; windows_fine = new.windows_fine; trackers_fine = new.trackers_fine })

  pub bare_length : length_of form bare ≡ length_of form m
  unfolding length_of text_refusal settings_text fresh
  bare_length = rw (f, bare_formed)

  pub bare_written : (room : ℕ) → written_of form bare room ≡ written_of form m room
  unfolding written_of
  bare_written room = ap (fitted room) bare_length

  pub bare_kept : (d : List ℕ) → text_kept form bare d ≡ text_kept form m d
  unfolding text_kept settings_text fresh
  bare_kept d = rw (bare_written (length d))
