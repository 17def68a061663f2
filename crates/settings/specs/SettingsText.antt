-- Requests C-13 and C-18: settings as text, in the lines' order: `form=1|2`, `default=`, in form 2 `match=port|standard`, `threshold=` 2..16, `window=` 1000000..600000000, `rules=`, then rule groups
-- as in the trace. `settings_form` is the whole of it, text and reader; `settings_of` is what a text gives. Refusals stand where the lines do: 27 for a text that is too long; of each line 26, 21 and
-- then its own; 29 where `form=` names no form that is known; 35, 9 or 36 at a rule's last line; 21 or 26 for what stands after the last line.
-- The form is one of the settings: a text keeps its own. Form 1 has no line for the matcher, and means port.
-- Assumes nothing.
use Rattle.std.specs.Prelude.{Bool, cond, ◌&&◌, ◌||◌, List, ℕ, ◌+◌, ◌-◌, eqb, length}
use Rattle.slices.specs.Bytes.{bytes}
use Rattle.topics.specs.Matching.{is_standard}
use Rattle.topics.specs.declared.matching.Matching.{Matching}
use Rattle.topics.specs.declared.matching.Matching.TheVariants.{Port, Standard}
use Rattle.forms.specs.Form.{Form, Took, number_form, word_form, none_form, pair_form, map_form, many_form, numbered_form, whole_of}
use Rattle.tables.specs.declared.rules.TopicAction.{TopicAction}
use Rattle.rules_text.specs.RuleText.{RuleText, action_form, rule_form}

-- what a settings text says
pub record Settings : Type 0 where
  pub form : ℕ
  pub default : TopicAction
  pub matching : Matching
  pub threshold : ℕ
  pub window : ℕ
  pub rules : List RuleText

-- the forms that are known, from 1, and a form's place among their words
abbrev pub is_form : ℕ → Bool
is_form form = eqb form 1 || eqb form 2

abbrev pub form_place : ℕ → ℕ
form_place form = form - 1

abbrev pub form_at : ℕ → ℕ
form_at place = place + 1

-- another word than a known form's is 29, where other lines say 23
abbrev pub form_number : ℕ → ℕ
form_number n = cond (eqb n 23) 29 n

-- `form=`, for a hub that knows some forms
unfoldable pub form_among : List ℕ → Form ℕ
form_among known = numbered_form form_number (map_form form_at form_place (word_form (bytes "form=") known))

-- `form=1|2`
unfoldable pub form_form : Form ℕ
form_form = form_among (bytes "1|2")

-- a matcher's place in `port|standard`, and the matcher at its place
abbrev pub matching_number : Matching → ℕ
matching_number Port = 0
matching_number Standard = 1

abbrev pub matching_at : ℕ → Matching
matching_at k = cond (eqb k 0) Port Standard

-- `match=port|standard`, which form 2 has; form 1 means port
unfoldable pub match_in : ℕ → Form Matching
match_in form = cond (eqb form 2) (map_form matching_at matching_number (word_form (bytes "match=") (bytes "port|standard"))) (none_form Port)

-- the number that refuses a form for settings: 29 for one that is not known; 37 for form 1 where they match by the standard, for which it has no word
unfoldable pub form_refusal : ℕ → Matching → ℕ
form_refusal form matching = cond (is_form form) (cond (eqb form 1 && is_standard matching) 37 0) 29

-- the values of the other lines before the rules: default, matcher, threshold, window, and how many rules follow
abbrev pub Body : Type 0
Body = TopicAction × (Matching × (ℕ × (ℕ × ℕ)))

-- those lines in a form
unfoldable pub body_in : ℕ → Form Body
body_in form =
    pair_form (action_form (bytes "default="))
    (λ d.
    pair_form (match_in form)
    (λ m.
    pair_form (number_form (bytes "threshold=") 2 16) (λ t. pair_form (number_form (bytes "window=") 1000000 600000000) (λ w. number_form (bytes "rules=") 0 32))))

-- the lines before the rules
abbrev pub Head : Type 0
Head = ℕ × Body

unfoldable pub head_lines : Form Head
head_lines = pair_form form_form body_in

abbrev pub rules_after : Head → ℕ
rules_after h = h.1.1.1.1.1

-- all lines
abbrev pub Lines : Type 0
Lines = Head × List RuleText

unfoldable pub settings_lines : Form Lines
settings_lines = pair_form head_lines (λ h. many_form rule_form (rules_after h))

abbrev pub settings_from : Lines → Settings
settings_from x =
    record {
      form = x.0.0;
      default = x.0.1.0;
      matching = x.0.1.1.0;
      threshold = x.0.1.1.1.0;
      window = x.0.1.1.1.1.0;
      rules = x.1;
    }

abbrev pub lines_of : Settings → Lines
lines_of v = ((v.form, (v.default, (v.matching, (v.threshold, (v.window, length v.rules))))), v.rules)

unfoldable pub settings_form : Form Settings
settings_form = map_form settings_from lines_of settings_lines

-- what a text gives: its settings, or a number and a line
unfoldable pub settings_of : List ℕ → Took Settings
settings_of s = whole_of settings_form s
