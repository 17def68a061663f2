-- The settings of a monitor and the monitor that has some settings: what is written, what is loaded, and the two calls' answers.
-- Assumes nothing.
use Rattle.std.specs.Prelude.{cond, List, ◌++◌, map, ◌≡◌, ℕ, ◌-◌, eqb, leb, length, take, replicate}
use Rattle.std.proofs.lemmas.List.Edits.{sets}
use Rattle.topics.specs.declared.matching.Matching.TheVariants.{Port}
use Rattle.forms.specs.Form.{Took, took, stopped}
use Rattle.tables.specs.Rules.{rule_of, empty_rule}
use Rattle.tables.specs.declared.rules.TopicAction.TheVariants.{Block}
use Rattle.tables.specs.declared.rules.TopicRule.{TopicRule}
use Rattle.rules_text.specs.RuleText.{RuleText, rule_in}
use Rattle.monitor.specs.Calls.{fresh}
use Rattle.monitor.specs.State.{well_formed, with_rules, with_settings}
use Rattle.monitor.specs.declared.state.MqttMonitor.{MqttMonitor}
use Rattle.settings.specs.SettingsText.{Settings, form_refusal, settings_form}

-- WRITING

-- a monitor's settings, to be put in a form
abbrev pub settings_in : ℕ → MqttMonitor → Settings
settings_in form m =
    record {
      form = form;
      default = m.default_action;
      matching = m.matching;
      threshold = m.connect_storm_threshold;
      window = m.connect_storm_window_us;
      rules = map rule_in (take m.rule_count m.rules);
    }

-- their text
unfoldable pub settings_text : ℕ → MqttMonitor → List ℕ
settings_text form m = settings_form.text (settings_in form m)

-- the number that refuses a text of a monitor in a form: 10 first, then 29 for a form that is not known, or 37 for one that has no word for its matcher
unfoldable pub text_refusal : ℕ → MqttMonitor → ℕ
text_refusal form m = cond (well_formed m) (form_refusal form m.matching) 10

-- how a text was written, or measured: 0 and its length, or the number that refused it
pub record Written : Type 0 where
  pub number : ℕ
  pub length : ℕ

-- a refusal: nothing is written
abbrev pub unwritten : ℕ → Written
unwritten number = record { number = number; length = 0 }

-- how long the text is
unfoldable pub length_of : ℕ → MqttMonitor → Written
length_of form m =
    cond (eqb (text_refusal form m) 0) (record { number = 0; length = length (settings_text form m) }) (unwritten (text_refusal form m))

-- it is written where there is room for all of it, else 28
unfoldable pub fitted : ℕ → Written → Written
fitted room w = cond (leb w.length room) w (unwritten 28)

unfoldable pub written_of : ℕ → MqttMonitor → ℕ → Written
written_of form m room = fitted room (length_of form m)

-- the lent buffer then
unfoldable pub text_kept : ℕ → MqttMonitor → List ℕ → List ℕ
text_kept form m d = cond (eqb (written_of form m (length d)).number 0) (sets d 0 (settings_text form m)) d

-- LOADING

-- a rule as the table holds it
abbrev pub rule_held : RuleText → TopicRule
rule_held r = rule_of r.pattern r.action r.policy r.rate

-- a table of such
abbrev pub table_of : List RuleText → List TopicRule
table_of rs = map rule_held rs ++ replicate (32 - length rs) empty_rule

-- a fresh monitor with some settings
unfoldable pub monitor_of : Settings → MqttMonitor
monitor_of v =
    with_settings (with_rules (fresh v.matching v.default) (table_of v.rules) (length v.rules)) v.threshold v.window

-- what a text loaded to
pub record LoadedSettings : Type 0 where
  pub number : ℕ
  pub line : ℕ
  pub form : ℕ
  pub monitor : MqttMonitor

-- what a load hands back: the monitor, the form of its text and the last line; or number and line, beside a fresh monitor that denies all
unfoldable pub loaded_of : Took Settings → LoadedSettings
loaded_of (took v p l) = record { number = 0; line = l; form = v.form; monitor = monitor_of v }
loaded_of (stopped n l) = record { number = n; line = l; form = 0; monitor = fresh Port Block }

-- the settings of two monitors are the same, field by field
pub record SameSettings (a b : MqttMonitor) : Type 0 where
  pub default_same : a.default_action ≡ b.default_action
  pub matching_same : a.matching ≡ b.matching
  pub threshold_same : a.connect_storm_threshold ≡ b.connect_storm_threshold
  pub window_same : a.connect_storm_window_us ≡ b.connect_storm_window_us
  pub count_same : a.rule_count ≡ b.rule_count
  pub rules_same : a.rules ≡ b.rules
