-- Settings and their text: what specs/OneToOne.antt claims. Assumes nothing.
use Prim.Native.Nat.{ℕ, zero, suc, ◌+◌, ◌-◌, ◌≤◌, ◌<◌}
use mathlib.Core.Path.{◌≡◌, refl, sym, ap, ◌∙◌}
use mathlib.Core.Bool.{true, cond}
use mathlib.Core.List.{List, [], ◌∷◌, ◌++◌, map}
use native.Mathlib.Omega.{arith}
use lib.Dec.{eqb}
use lib.ListN.{length, get_or, take, replicate, length-append}
use lib.Seq.{sets, take_all}
use borrow.Author.Tests.{le-leb}
use Rattle.laws.specs.Lists.{every}
use Rattle.laws.proofs.Cases.{by, whichever}
use Rattle.slices.specs.Bytes.{bytes}
use Rattle.topics.specs.declared.matching.Matching.TheVariants.{Port}
use Rattle.topics.proofs.patterns.PatternLaws.{accepted_length}
use Rattle.lines.specs.Word.{first_word, rest_words}
use Rattle.forms.specs.Form.{took, FitAll, fit_more, hex_form, number_form, pair_form, map_form, test_form, many_form}
use Rattle.forms.proofs.ShortLaws.{Short, number_short, word_short, none_short, pair_short, map_short, numbered_short, many_short}
use Rattle.tables.specs.Rules.{empty_rule, no_rule}
use Rattle.rules_text.specs.RuleText.{RuleText, action_form, rule_lines, rule_form, rule_in}
use Rattle.rules_text.proofs.put.PutLaws.{lines_short}
use Rattle.monitor.specs.Calls.{fresh}
use Rattle.monitor.specs.Prepared.{Prepared, made, rule, storm}
use Rattle.monitor.specs.Ranged.{RangedRule, Ranged}
use Rattle.monitor.specs.Reached.{Reached, constructed, rule_added, storm_set}
use Rattle.monitor.specs.Sound.{Sound}
use Rattle.monitor.specs.State.{well_formed}
use Rattle.monitor.specs.declared.state.MqttMonitor.{MqttMonitor}
use Rattle.monitor.proofs.Ranged.{alone, zeros, free_rule, no_rule_lem, fresh_ranged}
use Rattle.monitor.proofs.Reached.{reached_sound}
use Rattle.settings.specs.Convert.{end_at, converted_end, convert_end, converted_kept, convert_kept, in_form}
use Rattle.settings.specs.Loaded.{settings_in, settings_text, text_refusal, length_of, fitted, written_of, text_kept, rule_held, table_of, monitor_of, loaded_of}
use Rattle.settings.specs.OneToOne.{Accepted, LoadsTo, longest_in, OneToOne, MadeByCalls}
use Rattle.settings.specs.SettingsText.{Settings, form_among, form_form, match_in, form_refusal, Head, body_in, head_lines, rules_after, lines_of, settings_lines, settings_form, settings_of}
use Rattle.settings.proofs.FormLaws.{fits_taken}
use Rattle.settings.proofs.Fits.{settings_fit, settings_same}
use Rattle.settings.proofs.Made.{rule_says, fit_brief, by_calls}
use Rattle.settings.proofs.SettingsRound.{settings_there, settings_back}
use Rattle.settings.proofs.rules.TableLaws.{Brief, brief_none, brief_more, held_pattern, table_used}

-- how long a rule and the lines before the rules are at most
rule_short : (before : List RuleText) → Short (rule_form before) 171
unfolding rule_form test_form map_form rule_lines pair_form number_form
rule_short before v f = lines_short v (accepted_length v.pattern (rule_says before v f).0).1 (let r : v.rate ≤ 65535 = f.0.0.1.1.1.1 in omega arith)

-- the line of the matcher is what form 2 has more
abbrev match_room : ℕ → ℕ
match_room form = cond (eqb form 2) 15 0

match_short : (form : ℕ) → Short (match_in form) (match_room form)
unfolding match_in every first_word rest_words
match_short form =
    by (eqb form 2)
    (λ t. rw t (map_short _ _ _ (word_short (bytes "match=") (bytes "port|standard") 8 refl)))
    (λ t. rw t (none_short Port))

body_short : (form : ℕ) → Short (body_in form) (14 + (match_room form + 39))
unfolding body_in action_form every first_word rest_words
body_short form =
    pair_short _ _ {n = 14} {m = match_room form + 39} (map_short _ _ _ (word_short (bytes "default=") (bytes "allow|block") 5 refl))
    (λ d _.
    pair_short _ _ {n = match_room form} {m = 39} (match_short form)
    (λ m _.
    pair_short _ _ {n = 13} {m = 26} (number_short (bytes "threshold=") 2 16 1 (omega arith))
    (λ t _.
    pair_short _ _ {n = 17} {m = 9} (number_short (bytes "window=") 1000000 600000000 8 (omega arith)) (λ w _. number_short (bytes "rules=") 0 32 1 (omega arith)))))

form_short : Short form_form 7
unfolding form_form form_among every first_word rest_words
form_short = numbered_short _ _ (map_short _ _ _ (word_short (bytes "form=") (bytes "1|2") 1 refl))

head_few : (h : Head) → head_lines.fits h → rules_after h ≤ 32
unfolding head_lines body_in pair_form number_form
head_few h f = f.1.1.1.1.1.1

room_for : (form : ℕ) → 5532 + match_room form ≡ longest_in form
room_for form = by (eqb form 2) (λ t. rw t) (λ t. rw t)

pub settings_short : (v : Settings) → settings_form.fits v → length (settings_form.text v) ≤ longest_in v.form
unfolding settings_form map_form settings_lines head_lines pair_form
settings_short v f =
    let h = f.0 in
    let a = form_short v.form h.0.0 in
    let b = body_short v.form (lines_of v).0.1 h.0.1 in
    let c = many_short rule_form 171 rule_short (length v.rules) v.rules h.1 in
    let d : length v.rules ≤ 32 = head_few (lines_of v).0 h.0 in
    rw (length-append, length-append) (omega (arith, a, b, c, d, room_for v.form))

-- no form has longer ones than form 2
pub longest_at_most : (form : ℕ) → longest_in form ≤ 5547
longest_at_most form = whichever (λ (n : ℕ). n ≤ 5547) (eqb form 2) (omega arith) (omega arith)

-- settings that fit have a text
pub a_text : (v : Settings) → settings_form.fits v → Accepted (settings_form.text v) v (settings_form.count v)
a_text v f = settings_there v f (omega (arith, settings_short v f, longest_at_most v.form))

-- a text that is loaded is accepted whole
pub whole : (s : List ℕ) {v : Settings} {p l : ℕ} → settings_of s ≡ took v p l → Accepted s v l
whole s {v} {p} {l} e =
    let b = settings_back s e in
    let q : took v p l ≡ took v (length (settings_form.text v)) (settings_form.count v) = sym e ∙ ap settings_of (sym b.0) ∙ a_text v b.1 in
    let n : p ≡ length (settings_form.text v) = cc in
    let r : p ≡ length s = n ∙ ap length b.0 in
    rw r at e

-- what is written of a state that calls handed out is read as its settings
written_loads : (form : ℕ) (m : MqttMonitor) → form_refusal form m.matching ≡ 0 → Reached m → Ranged m → LoadsTo (settings_text form m) m
unfolding settings_text loaded_of
written_loads form m k r g =
    let s = reached_sound r in
    let t = a_text (settings_in form m) (settings_fit m s g form k) in
    record { number = rw (t, loaded_of); same = rw (t, loaded_of) (settings_same m s form) }

-- a well-formed state is written where there is room; so one that calls handed out is, in as many bytes as any text has
pub room_enough : (form : ℕ) (m : MqttMonitor) (n : ℕ) → well_formed m ≡ true → form_refusal form m.matching ≡ 0 → length (settings_text form m) ≤ n
    → written_of form m n ≡ record { number = 0; length = length (settings_text form m) }
unfolding written_of fitted length_of text_refusal
room_enough form m n f k h = rw (f, k, le-leb _ _ h)

is_written : (form : ℕ) (m : MqttMonitor) (d : List ℕ) → form_refusal form m.matching ≡ 0 → Reached m → Ranged m → longest_in form ≤ length d
    → (written_of form m (length d) ≡ record { number = 0; length = length (settings_text form m) }) × (text_kept form m d ≡ sets d 0 (settings_text form m))
unfolding settings_text text_kept
is_written form m d k r g h =
    let s = reached_sound r in
    let n = settings_short (settings_in form m) (settings_fit m s g form k) in
    let w = room_enough form m (length d) s.formed k (omega (arith, n, h)) in
    (w, rw w)

-- the settings of a monitor that has settings that fit are they, in whichever form
rules_back : (rs : List RuleText) → Brief rs → map rule_in (map rule_held rs) ≡ rs
rules_back rs brief_none = refl
rules_back rs (brief_more {a = a} {rs = more} h b) =
    λ k. record { pattern = held_pattern a h k; action = a.action; policy = a.policy; rate = a.rate } ∷ rules_back more b k

pub settings_are : (form : ℕ) (v : Settings) → settings_form.fits v → settings_in form (monitor_of v) ≡ in_form form v
unfolding settings_form map_form settings_lines pair_form many_form monitor_of fresh
settings_are form v f =
    let e : map rule_in (take (length v.rules) (table_of v.rules)) ≡ v.rules = rw (table_used v.rules) (rules_back v.rules (fit_brief [] v.rules f.0.1.1)) in
    λ k. record { form = form; default = v.default; matching = v.matching; threshold = v.threshold; window = v.window; rules = e k }

loaded_written : (s : List ℕ) {v : Settings} {l : ℕ} → Accepted s v l → settings_text v.form (monitor_of v) ≡ s
unfolding settings_text
loaded_written s {v} e = let b = settings_back s e in ap (λ (x : Settings). settings_form.text x) (settings_are v.form v b.1) ∙ b.0

one_text : (s t : List ℕ) {v : Settings} {l k : ℕ} → Accepted s v l → Accepted t v k → s ≡ t
one_text s t e f = sym (settings_back s e).0 ∙ (settings_back t f).0

longest : (s : List ℕ) {v : Settings} {l : ℕ} → Accepted s v l → length s ≤ longest_in v.form
longest s {v} e = let b = settings_back s e in rw b.0 at (settings_short v b.1)

-- LOADED MONITORS

-- a monitor with some settings has their matcher
pub matches : (v : Settings) → (monitor_of v).matching ≡ v.matching
unfolding monitor_of fresh
matches v = refl

module _ (s : List ℕ) {v : Settings} {l : ℕ} (e : Accepted s v l) where
  fits : settings_form.fits v
  fits = (settings_back s e).1

  prepared : Prepared (monitor_of v)
  prepared = by_calls Prepared made (λ m p t w. storm p t w) (λ m p q action policy rate. rule p q action policy rate) v fits

  reached : Reached (monitor_of v)
  reached = by_calls Reached constructed (λ m r t w. storm_set t w r) (λ m r q action policy rate. rule_added q action policy rate r) v fits

  pub sound : Sound (monitor_of v)
  sound = reached_sound reached

  -- its form is known, and has a word for its matcher
  pub form_takes : form_refusal v.form v.matching ≡ 0
  unfolding settings_form map_form settings_lines pair_form head_lines body_in
  form_takes = fits_taken v.form v.matching fits.0.0.0 fits.0.0.1.1.0

  -- an accepted text is handed back
  written : (n : ℕ) → length s ≤ n → written_of v.form (monitor_of v) n ≡ record { number = 0; length = length s }
  written n h =
      let t = loaded_written s e in
      rw t at (room_enough v.form (monitor_of v) n sound.formed (rw (matches v) form_takes) (rw t h))

  given_back : (d : List ℕ) → length s ≤ length d → (convert_end 0 (length d) s ≡ record { number = 0; line = l; length = length s }) × (convert_kept 0 d s ≡ sets d 0 s)
  unfolding convert_end converted_end end_at convert_kept converted_kept text_kept
  given_back d h = (rw (e, converted_end, written (length d) h), rw (e, converted_kept, written (length d) h, loaded_written s e))

-- NUMBERS WITHIN THEIR TYPES

-- bytes behind bytes
join_small : (a b : List ℕ) → ((i : ℕ) → get_or a i 0 < 256) → ((i : ℕ) → get_or b i 0 < 256) → (i : ℕ) → get_or (a ++ b) i 0 < 256
join_small [] b h g i = g i
join_small (c ∷ a) b h g zero = h zero
join_small (c ∷ a) b h g (suc i) = join_small a b (λ j. h (suc j)) g i

held_ranged : (before : List RuleText) (a : RuleText) → (rule_form before).fits a → RangedRule (rule_held a)
unfolding rule_form test_form map_form rule_lines pair_form hex_form number_form
held_ranged before a f =
    let n = (accepted_length a.pattern (rule_says before a f).0).1 in
    record {
      pattern_bytes =
          join_small (take 64 a.pattern) (replicate (64 - length a.pattern) 0)
          (λ i. rw (take_all 64 a.pattern n) (f.0.0.0.1 i)) (zeros 256 (64 - length a.pattern) (omega arith));
      pattern_len = omega (arith, n);
      rate = let r : a.rate ≤ 65535 = f.0.0.1.1.1.1 in omega arith;
    }

table_ranged : (k : ℕ) (before rs : List RuleText) → FitAll rule_form before rs → (i : ℕ) → RangedRule (get_or (map rule_held rs ++ replicate k empty_rule) i no_rule)
table_ranged k before [] f i = alone RangedRule k empty_rule no_rule free_rule no_rule_lem i
table_ranged k before (a ∷ rs) (fit_more fa fr) zero = held_ranged before a fa
table_ranged k before (a ∷ rs) (fit_more fa fr) (suc i) = table_ranged k (before ++ (a ∷ [])) rs fr i

ranged : (s : List ℕ) {v : Settings} {l : ℕ} → Accepted s v l → Ranged (monitor_of v)
unfolding settings_form map_form settings_lines pair_form head_lines body_in number_form many_form monitor_of fresh
ranged s {v} e =
    let f = (settings_back s e).1.0 in
    let x = f.0.1.1.1 in
    let t : v.threshold ≤ 16 = x.0.1 in
    let w : v.window ≤ 600000000 = x.1.0.1 in
    let n : length v.rules ≤ 32 = x.1.1.1 in
    let g = fresh_ranged v.matching v.default in
    record {
      rules_ranged = table_ranged (32 - length v.rules) [] v.rules f.1.1;
      count_fits = omega arith;
      buckets_ranged = g.buckets_ranged;
      windows_ranged = g.windows_ranged;
      threshold_fits = omega arith;
      window_fits = omega arith;
      trackers_ranged = g.trackers_ranged;
      id_fits = g.id_fits;
      inspected_fits = g.inspected_fits;
      alerts_fit = g.alerts_fit;
    }

-- all of it
pub one_to_one : OneToOne
one_to_one =
    record {
      written_loads = written_loads;
      is_written = is_written;
      loaded_written = loaded_written;
      one_text = one_text;
      a_text = a_text;
      whole = whole;
      longest = longest;
      given_back = λ s d e h. given_back s e d h;
    }

pub made_by_calls : MadeByCalls
made_by_calls = record { prepared = prepared; reached = reached; sound = sound; ranged = ranged }
