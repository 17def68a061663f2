-- Request C-20: which rules of a monitor can never speak, and a name by which it is seen that one can. Its own matcher decides. 10 is tested first.
-- Assumes nothing.
use Rattle.std.specs.Prelude.{cond, ◌&&◌, [], List, ℕ, ltb, get_or, replicate, Result, Ok, Err}
use Rattle.topics.specs.declared.covering.Witness.{Witness}
use Rattle.topics.specs.Covering.{as_witness}
use Rattle.tables.specs.Covers.{rule_witness, cover_report}
use Rattle.tables.specs.Rules.{no_rule}
use Rattle.monitor.specs.Refusal.{refusal_number}
use Rattle.monitor.specs.State.{well_formed}
use Rattle.monitor.specs.declared.refusal.Refusal.{Refusal}
use Rattle.monitor.specs.declared.state.MqttMonitor.{MqttMonitor}

-- for each rule the number, from 1, of the first earlier one that covers it, 0 for none; all 0 where `number` refuses the state
pub record CoverReport : Type 0 where
  pub number : ℕ
  pub covers : List ℕ

-- a name that only the later of two rules matches; its length is 0 where there is none, and where `number` refuses
pub record LaterName : Type 0 where
  pub number : ℕ
  pub witness : Witness

-- `covered_rules`: for each rule the number, from 1, of the first earlier one that matches every name that it matches; 0 for none
unfoldable pub covered_rules : MqttMonitor → CoverReport
covered_rules m =
    cond (well_formed m) (record { number = 0; covers = cover_report m.matching m.rules m.rule_count })
    (record { number = 10; covers = replicate 32 0 })

-- no name, by a number
abbrev pub no_later_name : ℕ → LaterName
no_later_name number = record { number = number; witness = as_witness [] }

-- `later_name`: a name that the later of two rules matches and the earlier does not; 9 for a later one at or past the count, or an earlier one that is not below it
unfoldable pub later_name : MqttMonitor → ℕ → ℕ → LaterName
later_name m later earlier =
    cond (well_formed m)
    (cond (ltb later m.rule_count && ltb earlier later)
    (record { number = 0; witness = rule_witness m.matching (get_or m.rules later no_rule) (get_or m.rules earlier no_rule) })
    (no_later_name 9))
    (no_later_name 10)

-- what the two calls tell
abbrev pub told_covers : Result (List ℕ) Refusal → CoverReport
told_covers (Ok covers) = record { number = 0; covers = covers }
told_covers (Err e) = record { number = refusal_number e; covers = replicate 32 0 }

abbrev pub told_name : Result Witness Refusal → LaterName
told_name (Ok witness) = record { number = 0; witness = witness }
told_name (Err e) = no_later_name (refusal_number e)
