-- What the readers hand back of a settings text that was read, or of one that was refused: number and line, and nothing else of it.
-- Assumes nothing.
use Rattle.std.specs.Prelude.{List, ℕ, length, replicate}
use Rattle.topics.specs.declared.matching.Matching.{Matching}
use Rattle.topics.specs.declared.matching.Matching.TheVariants.{Port}
use Rattle.forms.specs.Form.{Took, took, stopped}
use Rattle.tables.specs.Rules.{empty_rule}
use Rattle.tables.specs.declared.rules.TopicAction.{TopicAction}
use Rattle.tables.specs.declared.rules.TopicAction.TheVariants.{Allow, Block}
use Rattle.tables.specs.declared.rules.TopicRule.{TopicRule}
use Rattle.rules_text.specs.RuleText.{RuleText}
use Rattle.settings.specs.Loaded.{table_of}
use Rattle.settings.specs.SettingsText.{Settings, Head, head_lines, settings_of}

-- what the lines before the rules gave: their values, how many lines these are, and the place after them
pub record HeadLines : Type 0 where
  pub number : ℕ
  pub line : ℕ
  pub next : ℕ
  pub form : ℕ
  pub default_action : TopicAction
  pub matching : Matching
  pub threshold : ℕ
  pub window : ℕ
  pub rules : ℕ

abbrev pub head_stopped : ℕ → ℕ → HeadLines
head_stopped number line =
    record { number = number; line = line; next = 0; form = 0; default_action = Allow; matching = Port; threshold = 0; window = 0; rules = 0 }

unfoldable pub head_of : Took Head → HeadLines
head_of (took h p l) =
    record {
      number = 0;
      line = l;
      next = p;
      form = h.0;
      default_action = h.1.0;
      matching = h.1.1.0;
      threshold = h.1.1.1.0;
      window = h.1.1.1.1.0;
      rules = h.1.1.1.1.1;
    }
head_of (stopped n l) = head_stopped n l

-- what the rules gave: the table, the lines read so far and the place after them
pub record RulesLines : Type 0 where
  pub number : ℕ
  pub line : ℕ
  pub next : ℕ
  pub rule_count : ℕ
  pub rules : List TopicRule

abbrev pub rules_stopped : ℕ → ℕ → RulesLines
rules_stopped number line = record { number = number; line = line; next = 0; rule_count = 0; rules = replicate 32 empty_rule }

unfoldable pub rules_read : Took (List RuleText) → RulesLines
rules_read (took rs p l) = record { number = 0; line = l; next = p; rule_count = length rs; rules = table_of rs }
rules_read (stopped n l) = rules_stopped n l

-- what a text gave
pub record SettingsRead : Type 0 where
  pub number : ℕ
  pub line : ℕ
  pub form : ℕ
  pub default_action : TopicAction
  pub matching : Matching
  pub threshold : ℕ
  pub window : ℕ
  pub rules_from : ℕ
  pub rule_count : ℕ
  pub rules : List TopicRule

-- the whole; the first rule's lines begin at `rules_from`. Where a number refuses the text the settings are those of a fresh monitor that denies all
abbrev pub not_read : ℕ → ℕ → SettingsRead
not_read number line =
    record {
      number = number;
      line = line;
      form = 0;
      default_action = Block;
      matching = Port;
      threshold = 5;
      window = 60000000;
      rules_from = 0;
      rule_count = 0;
      rules = replicate 32 empty_rule;
    }

unfoldable pub settings_read : ℕ → Took Settings → SettingsRead
settings_read from (took v p l) =
    record {
      number = 0;
      line = l;
      form = v.form;
      default_action = v.default;
      matching = v.matching;
      threshold = v.threshold;
      window = v.window;
      rules_from = from;
      rule_count = length v.rules;
      rules = table_of v.rules;
    }
settings_read from (stopped n l) = not_read n l

-- where the rules of a text begin: after the lines before them
unfoldable pub rules_from : List ℕ → ℕ
rules_from s = (head_of (head_lines.read s 0 0)).next

unfoldable pub read_of : List ℕ → SettingsRead
read_of s = settings_read (rules_from s) (settings_of s)
