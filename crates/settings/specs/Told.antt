-- What a settings text sets, in words for a person: how it ended and at which line, as the closing lines of a trace say it; of a text that was read then its form, what the default does, how rules
-- match, when a CONNECT is denied, and each rule with its pattern as text and in hex. Of a text that was refused the two lines are all.
-- Assumes nothing.
use Rattle.std.specs.Prelude.{cond, List, [], ◌∷◌, ◌++◌, map, ℕ, ◌+◌, eqb, leb, length, take}
use Rattle.std.proofs.lemmas.List.Edits.{sets}
use Rattle.slices.specs.Bytes.{bytes}
use Rattle.topics.specs.Shown.{shown}
use Rattle.topics.specs.declared.matching.Matching.{Matching}
use Rattle.lines.specs.Decimal.{decimal}
use Rattle.lines.specs.Line.{number_line, hex_line, word_line, seconds_line}
use Rattle.lines.specs.Word.{word_text}
use Rattle.forms.specs.Form.{Took, took, stopped}
use Rattle.tables.specs.Numbers.{action_number, policy_number}
use Rattle.tables.specs.declared.rules.QosPolicy.{QosPolicy}
use Rattle.tables.specs.declared.rules.TopicAction.{TopicAction}
use Rattle.rules_text.specs.RuleText.{RuleText, rule_in}
use Rattle.settings.specs.Convert.{form_meant, line_for, in_form}
use Rattle.settings.specs.SettingsText.{Settings, matching_number, form_refusal, settings_form, settings_of}
use Rattle.settings.specs.Kept.{SettingsRead}
use Rattle.settings.specs.declared.told.SettingsTold.{SettingsTold}

-- how the text ended, and where
unfoldable pub closing_told : ℕ → ℕ → List ℕ
closing_told number line = number_line (bytes "end=") number ++ number_line (bytes "line=") line

-- when a CONNECT is denied
unfoldable pub connect_told : ℕ → ℕ → List ℕ
connect_told threshold window =
    bytes "A CONNECT that makes " ++ decimal threshold ++ seconds_line (bytes " or more of one client is denied; they are counted over this many seconds: ") window

-- which matcher the rules are tried by
abbrev pub matchers : List ℕ
matchers = bytes "as in the Rust original (port)|as MQTT 3.1.1 says (standard)"

-- all but the rules
unfoldable pub head_told : ℕ → TopicAction → Matching → ℕ → ℕ → ℕ → List ℕ
head_told form default matching threshold window rules =
    number_line (bytes "A settings text of form ") form ++ word_line (bytes "A topic that no rule matches is ") (bytes "allowed|blocked") (action_number default)
    ++ word_line (bytes "Rules match ") matchers (matching_number matching) ++ connect_told threshold window
    ++ number_line (bytes "Rules, of which the first that matches decides: ") rules

-- a rule's rate
unfoldable pub rate_told : ℕ → List ℕ
rate_told rate = cond (eqb rate 0) (bytes ", no rate limit\n") (bytes ", at most " ++ decimal rate ++ bytes " a second for each topic\n")

-- its place, and what it does
unfoldable pub ruling_told : ℕ → TopicAction → QosPolicy → ℕ → List ℕ
ruling_told place action policy rate =
    decimal place ++ word_text (bytes ". allow|. block") (action_number action)
    ++ word_text (bytes ", any QoS|, alert below QoS 0|, alert below QoS 1|, alert below QoS 2|, alert unless QoS 0|, alert unless QoS 1|, alert unless QoS 2") (policy_number policy) ++ rate_told rate

-- its pattern
unfoldable pub pattern_told : List ℕ → List ℕ
pattern_told pattern = bytes "   text=" ++ shown pattern ++ hex_line (bytes "\n   pattern=") pattern

-- all of it
unfoldable pub rule_told : ℕ → RuleText → List ℕ
rule_told place r = ruling_told place r.action r.policy r.rate ++ pattern_told r.pattern

-- rules, the first of which has some place
unfoldable pub rules_told : ℕ → List RuleText → List ℕ
rules_told place [] = []
rules_told place (r ∷ rs) = rule_told place r ++ rules_told (place + 1) rs

-- all that the text sets
unfoldable pub settings_told : Settings → List ℕ
settings_told v = head_told v.form v.default v.matching v.threshold v.window (length v.rules) ++ rules_told 1 v.rules

-- all that is said of a text, by what it gives
unfoldable pub told_of : Took Settings → List ℕ
told_of (took v p l) = closing_told 0 l ++ settings_told v
told_of (stopped n l) = closing_told n l

unfoldable pub told_text : List ℕ → List ℕ
told_text s = told_of (settings_of s)

-- how that ended, with how many bytes are said
unfoldable pub told_as : Took Settings → ℕ → SettingsTold
told_as (took v p l) length = record { number = 0; line = l; length = length }
told_as (stopped n l) length = record { number = n; line = l; length = length }

-- A text in a form that is asked for, as it is handed to a person (request C-18): the whole text where nothing refuses it, else the two lines that say how it ended
unfoldable pub turned_of : ℕ → Took Settings → List ℕ
turned_of form (took v p l) =
    let g = form_meant form v.form in
    let n = form_refusal g v.matching in
    cond (eqb n 0) (settings_form.text (in_form g v)) (closing_told n (line_for l n))
turned_of form (stopped n l) = closing_told n l

unfoldable pub turned_text : ℕ → List ℕ → List ℕ
turned_text form s = turned_of form (settings_of s)

-- how that ended, with how many bytes are said
unfoldable pub turned_as : ℕ → Took Settings → ℕ → SettingsTold
turned_as form (took v p l) length =
    let n = form_refusal (form_meant form v.form) v.matching in
    record { number = n; line = line_for l n; length = length }
turned_as form (stopped n l) length = record { number = n; line = l; length = length }

-- room for what is said of any text, in either way; in less of it nothing is said, and the number is 28
abbrev pub told_room : ℕ
told_room = 16384

abbrev pub in_room : ℕ → SettingsTold → SettingsTold
in_room room x = cond (leb told_room room) x (record { number = 28; line = 0; length = 0 })

unfoldable pub told_end : ℕ → List ℕ → SettingsTold
told_end room s = in_room room (told_as (settings_of s) (length (told_text s)))

unfoldable pub turned_end : ℕ → ℕ → List ℕ → SettingsTold
turned_end form room s = in_room room (turned_as form (settings_of s) (length (turned_text form s)))

-- the lent buffer then
abbrev pub kept_in : List ℕ → List ℕ → List ℕ
kept_in d t = cond (leb told_room (length d)) (sets d 0 t) d

unfoldable pub told_kept : List ℕ → List ℕ → List ℕ
told_kept d s = kept_in d (told_text s)

unfoldable pub turned_kept : ℕ → List ℕ → List ℕ → List ℕ
turned_kept form d s = kept_in d (turned_text form s)

-- what the reader of a text hands back, as settings
abbrev pub settings_given : SettingsRead → Settings
settings_given r =
    record {
      form = r.form;
      default = r.default_action;
      matching = r.matching;
      threshold = r.threshold;
      window = r.window;
      rules = map rule_in (take r.rule_count r.rules);
    }
