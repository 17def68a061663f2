-- Which rules of a settings text can never speak, told to a person (request C-20): each of them with the earlier rule that hides it, both patterns as text; and of two rules that are asked for a topic
-- that only the later one matches, or that there is none. Rules are told by their numbers from 1, as in Told.antt. Of a text that is refused the two closing lines are all.
-- Assumes nothing.
use Rattle.std.specs.Prelude.{Bool, cond, ◌&&◌, List, [], ◌∷◌, ◌++◌, ℕ, ◌+◌, ◌-◌, eqb, ltb, leb, length, get_or, take}
use Rattle.slices.specs.Bytes.{bytes, count_of}
use Rattle.topics.specs.Shown.{shown}
use Rattle.topics.specs.declared.covering.Witness.{Witness}
use Rattle.lines.specs.Decimal.{decimal}
use Rattle.lines.specs.Line.{number_line, hex_line}
use Rattle.tables.specs.Covers.{rule_witness, cover_report}
use Rattle.tables.specs.Rules.{pattern_of, no_rule}
use Rattle.tables.specs.declared.rules.TopicRule.{TopicRule}
use Rattle.settings.specs.Kept.{read_of, SettingsRead}
use Rattle.settings.specs.Told.{closing_told, in_room, kept_in}
use Rattle.settings.specs.declared.told.SettingsTold.{SettingsTold}

-- a sentence on two rules
unfoldable pub two_rules : List ℕ → ℕ → List ℕ → ℕ → List ℕ → List ℕ
two_rules start one middle other end = start ++ decimal one ++ middle ++ decimal other ++ end

-- it is no longer than this, a number having at most 20 digits
abbrev pub two_rules_most : List ℕ → List ℕ → List ℕ → ℕ
two_rules_most start middle end = 40 + length start + length middle + length end

-- a topic or a pattern as text
unfoldable pub shown_line : List ℕ → List ℕ → List ℕ
shown_line key t = key ++ shown t ++ bytes "\n"

-- the pattern of the rule with a number
abbrev pub pattern_no : List TopicRule → ℕ → List ℕ
pattern_no rules n = pattern_of (get_or rules (n - 1) no_rule)

-- the rule with the number `rule`, which the rule with the number `cover` hides; 0 hides none
unfoldable pub dead_told : List TopicRule → ℕ → ℕ → List ℕ
dead_told rules rule cover =
    cond (eqb cover 0) []
    (two_rules (bytes "Rule ") rule (bytes " can never speak: rule ") cover (bytes " comes first, and matches every topic that it matches\n")
    ++ shown_line (bytes "   text=") (pattern_no rules rule) ++ shown_line (bytes "   hidden by=") (pattern_no rules cover))

-- rules, the first of which has some number, each with what hides it
unfoldable pub deads_told : List TopicRule → ℕ → List ℕ → List ℕ
deads_told rules rule [] = []
deads_told rules rule (cover ∷ covers) = dead_told rules rule cover ++ deads_told rules (rule + 1) covers

-- all that is told of a report
unfoldable pub report_told : List TopicRule → List ℕ → List ℕ
report_told rules covers = number_line (bytes "Rules that can never speak: ") (length covers - count_of 0 covers) ++ deads_told rules 1 covers

-- and of a text
unfoldable pub dead_of : SettingsRead → List ℕ
dead_of r =
    closing_told r.number r.line
    ++ cond (eqb r.number 0) (report_told r.rules (cover_report r.matching r.rules r.rule_count)) []

unfoldable pub dead_text : List ℕ → List ℕ
dead_text s = dead_of (read_of s)

unfoldable pub dead_end : ℕ → List ℕ → SettingsTold
dead_end room s = in_room room (record { number = (read_of s).number; line = (read_of s).line; length = length (dead_text s) })

unfoldable pub dead_kept : List ℕ → List ℕ → List ℕ
dead_kept d s = kept_in d (dead_text s)

-- two rules of a text, an earlier and a later, by their numbers
unfoldable pub is_pair : ℕ → ℕ → ℕ → Bool
is_pair count later earlier = ltb 0 earlier && ltb earlier later && leb later count

-- the number that refuses the question: the text's own, or else 9
unfoldable pub pair_number : SettingsRead → ℕ → ℕ → ℕ
pair_number r later earlier = cond (eqb r.number 0) (cond (is_pair r.rule_count later earlier) 0 9) r.number

-- what was found between them
unfoldable pub between_told : ℕ → ℕ → Witness → List ℕ
between_told later earlier w =
    cond (eqb w.len 0) (two_rules (bytes "Rule ") earlier (bytes " matches every topic that rule ") later (bytes " matches\n"))
    (two_rules (bytes "Rule ") later (bytes " matches this topic, and rule ") earlier (bytes " does not\n")
    ++ shown_line (bytes "   text=") (take w.len w.name) ++ hex_line (bytes "   topic=") (take w.len w.name))

unfoldable pub pair_of : ℕ → ℕ → SettingsRead → List ℕ
pair_of later earlier r =
    cond (eqb (pair_number r later earlier) 0)
    (between_told later earlier (rule_witness r.matching (get_or r.rules (later - 1) no_rule) (get_or r.rules (earlier - 1) no_rule)))
    (closing_told (pair_number r later earlier) r.line)

unfoldable pub pair_text : ℕ → ℕ → List ℕ → List ℕ
pair_text later earlier s = pair_of later earlier (read_of s)

unfoldable pub pair_end : ℕ → ℕ → ℕ → List ℕ → SettingsTold
pair_end later earlier room s =
    in_room room (record { number = pair_number (read_of s) later earlier; line = (read_of s).line; length = length (pair_text later earlier s) })

unfoldable pub pair_kept : ℕ → ℕ → List ℕ → List ℕ → List ℕ
pair_kept later earlier d s = kept_in d (pair_text later earlier s)
