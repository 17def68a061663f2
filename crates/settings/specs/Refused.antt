-- What refuses a settings text, or the writing of settings, and its number (docs/NUMBERS.md); and what the code's answers, a value or a refusal, are to the definitions, which have number, line and
-- value beside each other.
-- Assumes nothing.
use Rattle.std.specs.Prelude.{ℕ, cond, eqb, List, Result, Ok, Err}
use Rattle.laws.specs.Refusals.{refusal}
use Rattle.tables.specs.declared.rules.TopicRule.{TopicRule}
use Rattle.monitor.specs.Calls.{fresh}
use Rattle.monitor.specs.State.{with_rules, with_settings}
use Rattle.monitor.specs.declared.state.MqttMonitor.{MqttMonitor}
use Rattle.settings.specs.Kept.{HeadLines, RulesLines, SettingsRead, head_stopped, rules_stopped, not_read}
use Rattle.settings.specs.Loaded.{LoadedSettings, Written, unwritten}
use Rattle.settings.specs.SettingsText.{Head}
use Rattle.settings.specs.declared.convert.Converted.{Converted}
use Rattle.settings.specs.declared.convert.SettingsEnd.{SettingsEnd}
use Rattle.settings.specs.declared.head.HeadFound.{HeadFound}
use Rattle.settings.specs.declared.head.HeadValues.{HeadValues}
use Rattle.settings.specs.declared.load.Loaded.{Loaded}
use Rattle.settings.specs.declared.read.SettingsFound.{SettingsFound}
use Rattle.settings.specs.declared.refusal.Refused.{Refused}
use Rattle.settings.specs.declared.refusal.SettingsRefusal.{SettingsRefusal}
use Rattle.settings.specs.declared.refusal.SettingsRefusal.TheVariants.{TableFull, BadPattern, BadState, WrongKey, BadNumber, UnknownWord, BadHex, LongHex}
use Rattle.settings.specs.declared.refusal.SettingsRefusal.TheVariants.{NoLineEnd, LongText, NoRoom, UnknownForm, GivenTwice, NotUtf8, NoWord}
use Rattle.settings.specs.declared.rules.RulesFound.{RulesFound}

-- the number of a refusal
abbrev pub refusal_number : SettingsRefusal → ℕ
refusal_number TableFull = 6
refusal_number BadPattern = 9
refusal_number BadState = 10
refusal_number WrongKey = 21
refusal_number BadNumber = 22
refusal_number UnknownWord = 23
refusal_number BadHex = 24
refusal_number LongHex = 25
refusal_number NoLineEnd = 26
refusal_number LongText = 27
refusal_number NoRoom = 28
refusal_number UnknownForm = 29
refusal_number GivenTwice = 35
refusal_number NotUtf8 = 36
refusal_number NoWord = 37

-- the refusal of a line, by its number
unfoldable pub refusal_at : ℕ → SettingsRefusal
refusal_at n =
    cond (eqb n 21) WrongKey
    (cond (eqb n 22) BadNumber (cond (eqb n 23) UnknownWord (cond (eqb n 24) BadHex (cond (eqb n 25) LongHex (cond (eqb n 26) NoLineEnd UnknownForm)))))

-- a line that was read, whose number is 0, or a refusal at it
abbrev pub line_checked : ℕ → ℕ → Result Unit Refused
line_checked n l = cond (eqb n 0) (Ok tt) (Err (record { refusal = refusal_at n; line = l }))

-- the lines before the rules, their values in the order of the lines
abbrev pub head_values : HeadValues → Head
head_values h = (h.form, (h.default_action, (h.matching, (h.threshold, (h.window, h.rules)))))

abbrev pub head_told : Result HeadFound Refused → HeadLines
head_told (Ok f) =
    record {
      number = 0;
      line = f.line;
      next = f.next;
      form = f.values.form;
      default_action = f.values.default_action;
      matching = f.values.matching;
      threshold = f.values.threshold;
      window = f.values.window;
      rules = f.values.rules;
    }
head_told (Err e) = head_stopped (refusal_number e.refusal) e.line

-- those of a monitor, in a form
abbrev pub head_in : ℕ → MqttMonitor → HeadValues
head_in form m =
    record {
      form = form;
      default_action = m.default_action;
      matching = m.matching;
      threshold = m.connect_storm_threshold;
      window = m.connect_storm_window_us;
      rules = m.rule_count;
    }

-- so many rules
abbrev pub rules_told : ℕ → Result RulesFound Refused → RulesLines
rules_told count (Ok f) = record { number = 0; line = f.line; next = f.next; rule_count = count; rules = f.rules }
rules_told count (Err e) = rules_stopped (refusal_number e.refusal) e.line

-- a whole text
abbrev pub found_told : SettingsFound → SettingsRead
found_told f =
    record {
      number = 0;
      line = f.line;
      form = f.values.form;
      default_action = f.values.default_action;
      matching = f.values.matching;
      threshold = f.values.threshold;
      window = f.values.window;
      rules_from = f.rules_from;
      rule_count = f.values.rules;
      rules = f.rules;
    }

abbrev pub read_told : Result SettingsFound Refused → SettingsRead
read_told (Ok f) = found_told f
read_told (Err e) = not_read (refusal_number e.refusal) e.line

-- a fresh monitor with the settings of some lines, and rules
abbrev pub monitor_by : HeadValues → List TopicRule → MqttMonitor
monitor_by h rules = with_settings (with_rules (fresh h.matching h.default_action) rules h.rules) h.threshold h.window

-- the form of a text that was loaded; a refused one has none
abbrev pub form_told : Result ℕ SettingsRefusal → ℕ
form_told (Ok form) = form
form_told (Err e) = 0

-- a load
abbrev pub loaded_told : Loaded → LoadedSettings
loaded_told l = record { number = refusal refusal_number l.outcome; line = l.line; form = form_told l.outcome; monitor = l.monitor }

-- a writing, or a length
abbrev pub write_told : Result ℕ SettingsRefusal → Written
write_told (Ok n) = record { number = 0; length = n }
write_told (Err e) = unwritten (refusal_number e)

-- a conversion
abbrev pub end_told : Result Converted Refused → SettingsEnd
end_told (Ok c) = record { number = 0; line = c.line; length = c.length }
end_told (Err e) = record { number = refusal_number e.refusal; line = e.line; length = 0 }
