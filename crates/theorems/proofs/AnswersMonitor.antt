-- One answer for every public function of `monitor`, and nothing asked of its caller (specs/One.antt). Assumes nothing.
use mathlib.Core.Path.{refl, sym, ◌∙◌}
use Rattle.monitor.proofs.state.ToldLaws.{value_once, done_once, inspected_once, outlook_once, left_once, covers_once, name_once}
use Rattle.monitor.specs.contracts.alerts.severity_number as alerts-severity_number
use Rattle.monitor.proofs.alerts.severity_number.Reads as alerts-severity_number-reads
use Rattle.monitor.specs.contracts.alerts.severity_of as alerts-severity_of
use Rattle.monitor.proofs.alerts.severity_of.Reads as alerts-severity_of-reads
use Rattle.monitor.specs.contracts.alerts.count_on as alerts-count_on
use Rattle.monitor.proofs.alerts.count_on.Reads as alerts-count_on-reads
use Rattle.monitor.specs.contracts.alerts.raise_all as alerts-raise_all
use Rattle.monitor.proofs.alerts.raise_all.Reads as alerts-raise_all-reads
use Rattle.monitor.specs.contracts.state.MqttMonitor.fresh as state-MqttMonitor-fresh
use Rattle.monitor.proofs.state.MqttMonitor.fresh.Reads as state-MqttMonitor-fresh-reads
use Rattle.monitor.specs.contracts.state.MqttMonitor.new as state-MqttMonitor-new
use Rattle.monitor.proofs.state.MqttMonitor.new.Reads as state-MqttMonitor-new-reads
use Rattle.monitor.specs.contracts.state.MqttMonitor.new_deny_default as state-MqttMonitor-new_deny_default
use Rattle.monitor.proofs.state.MqttMonitor.new_deny_default.Reads as state-MqttMonitor-new_deny_default-reads
use Rattle.monitor.specs.contracts.state.MqttMonitor.new_standard as state-MqttMonitor-new_standard
use Rattle.monitor.proofs.state.MqttMonitor.new_standard.Reads as state-MqttMonitor-new_standard-reads
use Rattle.monitor.specs.contracts.state.MqttMonitor.new_standard_deny_default as state-MqttMonitor-new_standard_deny_default
use Rattle.monitor.proofs.state.MqttMonitor.new_standard_deny_default.Reads as state-MqttMonitor-new_standard_deny_default-reads
use Rattle.monitor.specs.contracts.state.MqttMonitor.total_inspected as state-MqttMonitor-total_inspected
use Rattle.monitor.proofs.state.MqttMonitor.total_inspected.Reads as state-MqttMonitor-total_inspected-reads
use Rattle.monitor.specs.contracts.state.MqttMonitor.total_alerts as state-MqttMonitor-total_alerts
use Rattle.monitor.proofs.state.MqttMonitor.total_alerts.Reads as state-MqttMonitor-total_alerts-reads
use Rattle.monitor.specs.contracts.state.MqttMonitor.rule_count as state-MqttMonitor-rule_count
use Rattle.monitor.proofs.state.MqttMonitor.rule_count.Reads as state-MqttMonitor-rule_count-reads
use Rattle.monitor.specs.contracts.state.MqttMonitor.set_connect_storm_params as state-MqttMonitor-set_connect_storm_params
use Rattle.monitor.proofs.state.MqttMonitor.set_connect_storm_params.Reads as state-MqttMonitor-set_connect_storm_params-reads
use Rattle.monitor.specs.contracts.state.MqttMonitor.remove_rate_bucket as state-MqttMonitor-remove_rate_bucket
use Rattle.monitor.proofs.state.MqttMonitor.remove_rate_bucket.Reads as state-MqttMonitor-remove_rate_bucket-reads
use Rattle.monitor.specs.contracts.state.MqttMonitor.remove_ewma_tracker as state-MqttMonitor-remove_ewma_tracker
use Rattle.monitor.proofs.state.MqttMonitor.remove_ewma_tracker.Reads as state-MqttMonitor-remove_ewma_tracker-reads
use Rattle.monitor.specs.contracts.state.MqttMonitor.reset_state as state-MqttMonitor-reset_state
use Rattle.monitor.proofs.state.MqttMonitor.reset_state.Reads as state-MqttMonitor-reset_state-reads
use Rattle.monitor.specs.contracts.state.MqttMonitor.covered_rules as state-MqttMonitor-covered_rules
use Rattle.monitor.proofs.state.MqttMonitor.covered_rules.Reads as state-MqttMonitor-covered_rules-reads
use Rattle.monitor.specs.contracts.state.MqttMonitor.later_name as state-MqttMonitor-later_name
use Rattle.monitor.proofs.state.MqttMonitor.later_name.Reads as state-MqttMonitor-later_name-reads
use Rattle.monitor.specs.contracts.state.MqttMonitor.gate_for as state-MqttMonitor-gate_for
use Rattle.monitor.proofs.state.MqttMonitor.gate_for.Reads as state-MqttMonitor-gate_for-reads
use Rattle.monitor.specs.contracts.state.MqttMonitor.apply as state-MqttMonitor-apply
use Rattle.monitor.proofs.state.MqttMonitor.apply.Reads as state-MqttMonitor-apply-reads
use Rattle.monitor.specs.contracts.state.MqttMonitor.inspect as state-MqttMonitor-inspect
use Rattle.monitor.proofs.state.MqttMonitor.inspect.Reads as state-MqttMonitor-inspect-reads
use Rattle.monitor.specs.contracts.message.type_number as message-type_number
use Rattle.monitor.proofs.message.type_number.Reads as message-type_number-reads
use Rattle.monitor.specs.contracts.message.type_at as message-type_at
use Rattle.monitor.proofs.message.type_at.Reads as message-type_at-reads
use Rattle.monitor.specs.contracts.plan.Plan.result as plan-Plan-result
use Rattle.monitor.proofs.plan.Plan.result.Reads as plan-Plan-result-reads
use Rattle.monitor.specs.contracts.state.MqttMonitor.seen_for as state-MqttMonitor-seen_for
use Rattle.monitor.proofs.state.MqttMonitor.seen_for.Reads as state-MqttMonitor-seen_for-reads
use Rattle.monitor.specs.contracts.plan.id_for as plan-id_for
use Rattle.monitor.proofs.plan.id_for.Reads as plan-id_for-reads
use Rattle.monitor.specs.contracts.state.MqttMonitor.spent_for as state-MqttMonitor-spent_for
use Rattle.monitor.proofs.state.MqttMonitor.spent_for.Reads as state-MqttMonitor-spent_for-reads
use Rattle.monitor.specs.contracts.state.MqttMonitor.fed_for as state-MqttMonitor-fed_for
use Rattle.monitor.proofs.state.MqttMonitor.fed_for.Reads as state-MqttMonitor-fed_for-reads
use Rattle.monitor.specs.contracts.plan.plan_from as plan-plan_from
use Rattle.monitor.proofs.plan.plan_from.Reads as plan-plan_from-reads
use Rattle.monitor.specs.contracts.plan.plan_light as plan-plan_light
use Rattle.monitor.proofs.plan.plan_light.Reads as plan-plan_light-reads
use Rattle.monitor.specs.contracts.state.MqttMonitor.plan_for as state-MqttMonitor-plan_for
use Rattle.monitor.proofs.state.MqttMonitor.plan_for.Reads as state-MqttMonitor-plan_for-reads
use Rattle.monitor.specs.contracts.refusal.Refusal.number as refusal-Refusal-number
use Rattle.monitor.proofs.refusal.Refusal.number.Reads as refusal-Refusal-number-reads
use Rattle.monitor.specs.contracts.state.MqttMonitor.add_rule as state-MqttMonitor-add_rule
use Rattle.monitor.proofs.state.MqttMonitor.add_rule.Reads as state-MqttMonitor-add_rule-reads
use Rattle.monitor.specs.contracts.state.MqttMonitor.remove_rule as state-MqttMonitor-remove_rule
use Rattle.monitor.proofs.state.MqttMonitor.remove_rule.Reads as state-MqttMonitor-remove_rule-reads
use Rattle.monitor.specs.contracts.state.MqttMonitor.swap_rules as state-MqttMonitor-swap_rules
use Rattle.monitor.proofs.state.MqttMonitor.swap_rules.Reads as state-MqttMonitor-swap_rules-reads
use Rattle.monitor.specs.contracts.state.MqttMonitor.clear_rules as state-MqttMonitor-clear_rules
use Rattle.monitor.proofs.state.MqttMonitor.clear_rules.Reads as state-MqttMonitor-clear_rules-reads
use Rattle.monitor.specs.contracts.state.MqttMonitor.validate_rules as state-MqttMonitor-validate_rules
use Rattle.monitor.proofs.state.MqttMonitor.validate_rules.Reads as state-MqttMonitor-validate_rules-reads
use Rattle.monitor.specs.contracts.state.MqttMonitor.standing as state-MqttMonitor-standing
use Rattle.monitor.proofs.state.MqttMonitor.standing.Reads as state-MqttMonitor-standing-reads
use Rattle.monitor.specs.contracts.state.MqttMonitor.tokens_left as state-MqttMonitor-tokens_left
use Rattle.monitor.proofs.state.MqttMonitor.tokens_left.Reads as state-MqttMonitor-tokens_left-reads
use Rattle.monitor.specs.contracts.state.MqttMonitor.is_well_formed as state-MqttMonitor-is_well_formed
use Rattle.monitor.proofs.state.MqttMonitor.is_well_formed.Reads as state-MqttMonitor-is_well_formed-reads
use Rattle.monitor.specs.contracts.state.free_rules as state-free_rules
use Rattle.monitor.proofs.state.free_rules.Reads as state-free_rules-reads
use Rattle.theorems.specs.One.{Any, One, OneLeft}

pub one-alerts-severity_number : One alerts-severity_number.ended alerts-severity_number-reads.Post
one-alerts-severity_number κs a x y e f p q = p ∙ sym q

pub any-alerts-severity_number : Any alerts-severity_number.ended alerts-severity_number-reads.Asked
any-alerts-severity_number κs a = tt

pub one-alerts-severity_of : One alerts-severity_of.ended alerts-severity_of-reads.Post
one-alerts-severity_of κs a x y e f p q = p ∙ sym q

pub any-alerts-severity_of : Any alerts-severity_of.ended alerts-severity_of-reads.Asked
any-alerts-severity_of κs a = tt

pub one-alerts-count_on : One alerts-count_on.ended alerts-count_on-reads.Post
one-alerts-count_on κs a x y e f p q = p ∙ sym q

pub any-alerts-count_on : Any alerts-count_on.ended alerts-count_on-reads.Asked
any-alerts-count_on κs a = tt

pub one-alerts-raise_all : One alerts-raise_all.ended alerts-raise_all-reads.Post
one-alerts-raise_all κs a x y e f p q = p ∙ sym q

pub any-alerts-raise_all : Any alerts-raise_all.ended alerts-raise_all-reads.Asked
any-alerts-raise_all κs a = tt

pub one-state-MqttMonitor-fresh : One state-MqttMonitor-fresh.ended state-MqttMonitor-fresh-reads.Post
one-state-MqttMonitor-fresh κs a x y e f p q = p ∙ sym q

pub any-state-MqttMonitor-fresh : Any state-MqttMonitor-fresh.ended state-MqttMonitor-fresh-reads.Asked
any-state-MqttMonitor-fresh κs a = tt

pub one-state-MqttMonitor-new : One state-MqttMonitor-new.ended state-MqttMonitor-new-reads.Post
one-state-MqttMonitor-new κs a x y e f p q = p ∙ sym q

pub any-state-MqttMonitor-new : Any state-MqttMonitor-new.ended state-MqttMonitor-new-reads.Asked
any-state-MqttMonitor-new κs a = tt

pub one-state-MqttMonitor-new_deny_default : One state-MqttMonitor-new_deny_default.ended state-MqttMonitor-new_deny_default-reads.Post
one-state-MqttMonitor-new_deny_default κs a x y e f p q = p ∙ sym q

pub any-state-MqttMonitor-new_deny_default : Any state-MqttMonitor-new_deny_default.ended state-MqttMonitor-new_deny_default-reads.Asked
any-state-MqttMonitor-new_deny_default κs a = tt

pub one-state-MqttMonitor-new_standard : One state-MqttMonitor-new_standard.ended state-MqttMonitor-new_standard-reads.Post
one-state-MqttMonitor-new_standard κs a x y e f p q = p ∙ sym q

pub any-state-MqttMonitor-new_standard : Any state-MqttMonitor-new_standard.ended state-MqttMonitor-new_standard-reads.Asked
any-state-MqttMonitor-new_standard κs a = tt

pub one-state-MqttMonitor-new_standard_deny_default : One state-MqttMonitor-new_standard_deny_default.ended state-MqttMonitor-new_standard_deny_default-reads.Post
one-state-MqttMonitor-new_standard_deny_default κs a x y e f p q = p ∙ sym q

pub any-state-MqttMonitor-new_standard_deny_default : Any state-MqttMonitor-new_standard_deny_default.ended state-MqttMonitor-new_standard_deny_default-reads.Asked
any-state-MqttMonitor-new_standard_deny_default κs a = tt

pub one-state-MqttMonitor-total_inspected : One state-MqttMonitor-total_inspected.ended state-MqttMonitor-total_inspected-reads.Post
one-state-MqttMonitor-total_inspected κs a x y e f p q = p ∙ sym q

pub any-state-MqttMonitor-total_inspected : Any state-MqttMonitor-total_inspected.ended state-MqttMonitor-total_inspected-reads.Asked
any-state-MqttMonitor-total_inspected κs a = tt

pub one-state-MqttMonitor-total_alerts : One state-MqttMonitor-total_alerts.ended state-MqttMonitor-total_alerts-reads.Post
one-state-MqttMonitor-total_alerts κs a x y e f p q = p ∙ sym q

pub any-state-MqttMonitor-total_alerts : Any state-MqttMonitor-total_alerts.ended state-MqttMonitor-total_alerts-reads.Asked
any-state-MqttMonitor-total_alerts κs a = tt

pub one-state-MqttMonitor-rule_count : One state-MqttMonitor-rule_count.ended state-MqttMonitor-rule_count-reads.Post
one-state-MqttMonitor-rule_count κs a x y e f p q = p ∙ sym q

pub any-state-MqttMonitor-rule_count : Any state-MqttMonitor-rule_count.ended state-MqttMonitor-rule_count-reads.Asked
any-state-MqttMonitor-rule_count κs a = tt

pub one-state-MqttMonitor-set_connect_storm_params : OneLeft state-MqttMonitor-set_connect_storm_params.ended state-MqttMonitor-set_connect_storm_params-reads.Post (λ κs e. e.0.now)
one-state-MqttMonitor-set_connect_storm_params κs a x y e f p q = (done_once _ _ (p.0 ∙ sym q.0), p.1 ∙ sym q.1)

pub any-state-MqttMonitor-set_connect_storm_params : Any state-MqttMonitor-set_connect_storm_params.ended state-MqttMonitor-set_connect_storm_params-reads.Asked
any-state-MqttMonitor-set_connect_storm_params κs a = tt

pub one-state-MqttMonitor-remove_rate_bucket : OneLeft state-MqttMonitor-remove_rate_bucket.ended state-MqttMonitor-remove_rate_bucket-reads.Post (λ κs e. e.0.now)
one-state-MqttMonitor-remove_rate_bucket κs a x y e f p q = (done_once _ _ (p.0 ∙ sym q.0), p.1 ∙ sym q.1)

pub any-state-MqttMonitor-remove_rate_bucket : Any state-MqttMonitor-remove_rate_bucket.ended state-MqttMonitor-remove_rate_bucket-reads.Asked
any-state-MqttMonitor-remove_rate_bucket κs a = tt

pub one-state-MqttMonitor-remove_ewma_tracker : OneLeft state-MqttMonitor-remove_ewma_tracker.ended state-MqttMonitor-remove_ewma_tracker-reads.Post (λ κs e. e.0.now)
one-state-MqttMonitor-remove_ewma_tracker κs a x y e f p q = (done_once _ _ (p.0 ∙ sym q.0), p.1 ∙ sym q.1)

pub any-state-MqttMonitor-remove_ewma_tracker : Any state-MqttMonitor-remove_ewma_tracker.ended state-MqttMonitor-remove_ewma_tracker-reads.Asked
any-state-MqttMonitor-remove_ewma_tracker κs a = tt

pub one-state-MqttMonitor-reset_state : OneLeft state-MqttMonitor-reset_state.ended state-MqttMonitor-reset_state-reads.Post (λ κs e. e.0.now)
one-state-MqttMonitor-reset_state κs a x y e f p q = (done_once _ _ (p.0 ∙ sym q.0), p.1 ∙ sym q.1)

pub any-state-MqttMonitor-reset_state : Any state-MqttMonitor-reset_state.ended state-MqttMonitor-reset_state-reads.Asked
any-state-MqttMonitor-reset_state κs a = tt

pub one-state-MqttMonitor-covered_rules : One state-MqttMonitor-covered_rules.ended state-MqttMonitor-covered_rules-reads.Post
one-state-MqttMonitor-covered_rules κs a x y e f p q = covers_once _ _ (p ∙ sym q)

pub any-state-MqttMonitor-covered_rules : Any state-MqttMonitor-covered_rules.ended state-MqttMonitor-covered_rules-reads.Asked
any-state-MqttMonitor-covered_rules κs a = tt

pub one-state-MqttMonitor-later_name : One state-MqttMonitor-later_name.ended state-MqttMonitor-later_name-reads.Post
one-state-MqttMonitor-later_name κs a x y e f p q = name_once _ _ (p ∙ sym q)

pub any-state-MqttMonitor-later_name : Any state-MqttMonitor-later_name.ended state-MqttMonitor-later_name-reads.Asked
any-state-MqttMonitor-later_name κs a = tt

pub one-state-MqttMonitor-gate_for : One state-MqttMonitor-gate_for.ended state-MqttMonitor-gate_for-reads.Post
one-state-MqttMonitor-gate_for κs a x y e f p q = p ∙ sym q

pub any-state-MqttMonitor-gate_for : Any state-MqttMonitor-gate_for.ended state-MqttMonitor-gate_for-reads.Asked
any-state-MqttMonitor-gate_for κs a = tt

pub one-state-MqttMonitor-apply : OneLeft state-MqttMonitor-apply.ended state-MqttMonitor-apply-reads.Post (λ κs e. e.0.now)
one-state-MqttMonitor-apply κs a x y e f p q = (refl, p ∙ sym q)

pub any-state-MqttMonitor-apply : Any state-MqttMonitor-apply.ended state-MqttMonitor-apply-reads.Asked
any-state-MqttMonitor-apply κs a = tt

pub one-state-MqttMonitor-inspect : OneLeft state-MqttMonitor-inspect.ended state-MqttMonitor-inspect-reads.Post (λ κs e. e.0.now)
one-state-MqttMonitor-inspect κs a x y e f p q = inspected_once _ _ _ _ (p ∙ sym q)

pub any-state-MqttMonitor-inspect : Any state-MqttMonitor-inspect.ended state-MqttMonitor-inspect-reads.Asked
any-state-MqttMonitor-inspect κs a = tt

pub one-message-type_number : One message-type_number.ended message-type_number-reads.Post
one-message-type_number κs a x y e f p q = p ∙ sym q

pub any-message-type_number : Any message-type_number.ended message-type_number-reads.Asked
any-message-type_number κs a = tt

pub one-message-type_at : One message-type_at.ended message-type_at-reads.Post
one-message-type_at κs a x y e f p q = p ∙ sym q

pub any-message-type_at : Any message-type_at.ended message-type_at-reads.Asked
any-message-type_at κs a = tt

pub one-plan-Plan-result : One plan-Plan-result.ended plan-Plan-result-reads.Post
one-plan-Plan-result κs a x y e f p q = p ∙ sym q

pub any-plan-Plan-result : Any plan-Plan-result.ended plan-Plan-result-reads.Asked
any-plan-Plan-result κs a = tt

pub one-state-MqttMonitor-seen_for : One state-MqttMonitor-seen_for.ended state-MqttMonitor-seen_for-reads.Post
one-state-MqttMonitor-seen_for κs a x y e f p q = p ∙ sym q

pub any-state-MqttMonitor-seen_for : Any state-MqttMonitor-seen_for.ended state-MqttMonitor-seen_for-reads.Asked
any-state-MqttMonitor-seen_for κs a = tt

pub one-plan-id_for : One plan-id_for.ended plan-id_for-reads.Post
one-plan-id_for κs a x y e f p q = p ∙ sym q

pub any-plan-id_for : Any plan-id_for.ended plan-id_for-reads.Asked
any-plan-id_for κs a = tt

pub one-state-MqttMonitor-spent_for : One state-MqttMonitor-spent_for.ended state-MqttMonitor-spent_for-reads.Post
one-state-MqttMonitor-spent_for κs a x y e f p q = p ∙ sym q

pub any-state-MqttMonitor-spent_for : Any state-MqttMonitor-spent_for.ended state-MqttMonitor-spent_for-reads.Asked
any-state-MqttMonitor-spent_for κs a = tt

pub one-state-MqttMonitor-fed_for : One state-MqttMonitor-fed_for.ended state-MqttMonitor-fed_for-reads.Post
one-state-MqttMonitor-fed_for κs a x y e f p q = p ∙ sym q

pub any-state-MqttMonitor-fed_for : Any state-MqttMonitor-fed_for.ended state-MqttMonitor-fed_for-reads.Asked
any-state-MqttMonitor-fed_for κs a = tt

pub one-plan-plan_from : One plan-plan_from.ended plan-plan_from-reads.Post
one-plan-plan_from κs a x y e f p q = p ∙ sym q

pub any-plan-plan_from : Any plan-plan_from.ended plan-plan_from-reads.Asked
any-plan-plan_from κs a = tt

pub one-plan-plan_light : One plan-plan_light.ended plan-plan_light-reads.Post
one-plan-plan_light κs a x y e f p q = p ∙ sym q

pub any-plan-plan_light : Any plan-plan_light.ended plan-plan_light-reads.Asked
any-plan-plan_light κs a = tt

pub one-state-MqttMonitor-plan_for : One state-MqttMonitor-plan_for.ended state-MqttMonitor-plan_for-reads.Post
one-state-MqttMonitor-plan_for κs a x y e f p q = p ∙ sym q

pub any-state-MqttMonitor-plan_for : Any state-MqttMonitor-plan_for.ended state-MqttMonitor-plan_for-reads.Asked
any-state-MqttMonitor-plan_for κs a = tt

pub one-refusal-Refusal-number : One refusal-Refusal-number.ended refusal-Refusal-number-reads.Post
one-refusal-Refusal-number κs a x y e f p q = p ∙ sym q

pub any-refusal-Refusal-number : Any refusal-Refusal-number.ended refusal-Refusal-number-reads.Asked
any-refusal-Refusal-number κs a = tt

pub one-state-MqttMonitor-add_rule : OneLeft state-MqttMonitor-add_rule.ended state-MqttMonitor-add_rule-reads.Post (λ κs e. e.0.now)
one-state-MqttMonitor-add_rule κs a x y e f p q = (value_once _ _ (p.0 ∙ sym q.0), p.1 ∙ sym q.1)

pub any-state-MqttMonitor-add_rule : Any state-MqttMonitor-add_rule.ended state-MqttMonitor-add_rule-reads.Asked
any-state-MqttMonitor-add_rule κs a = tt

pub one-state-MqttMonitor-remove_rule : OneLeft state-MqttMonitor-remove_rule.ended state-MqttMonitor-remove_rule-reads.Post (λ κs e. e.0.now)
one-state-MqttMonitor-remove_rule κs a x y e f p q = (done_once _ _ (p.0 ∙ sym q.0), p.1 ∙ sym q.1)

pub any-state-MqttMonitor-remove_rule : Any state-MqttMonitor-remove_rule.ended state-MqttMonitor-remove_rule-reads.Asked
any-state-MqttMonitor-remove_rule κs a = tt

pub one-state-MqttMonitor-swap_rules : OneLeft state-MqttMonitor-swap_rules.ended state-MqttMonitor-swap_rules-reads.Post (λ κs e. e.0.now)
one-state-MqttMonitor-swap_rules κs a x y e f p q = (done_once _ _ (p.0 ∙ sym q.0), p.1 ∙ sym q.1)

pub any-state-MqttMonitor-swap_rules : Any state-MqttMonitor-swap_rules.ended state-MqttMonitor-swap_rules-reads.Asked
any-state-MqttMonitor-swap_rules κs a = tt

pub one-state-MqttMonitor-clear_rules : OneLeft state-MqttMonitor-clear_rules.ended state-MqttMonitor-clear_rules-reads.Post (λ κs e. e.0.now)
one-state-MqttMonitor-clear_rules κs a x y e f p q = (done_once _ _ (p.0 ∙ sym q.0), p.1 ∙ sym q.1)

pub any-state-MqttMonitor-clear_rules : Any state-MqttMonitor-clear_rules.ended state-MqttMonitor-clear_rules-reads.Asked
any-state-MqttMonitor-clear_rules κs a = tt

pub one-state-MqttMonitor-validate_rules : One state-MqttMonitor-validate_rules.ended state-MqttMonitor-validate_rules-reads.Post
one-state-MqttMonitor-validate_rules κs a x y e f p q = value_once _ _ (p ∙ sym q)

pub any-state-MqttMonitor-validate_rules : Any state-MqttMonitor-validate_rules.ended state-MqttMonitor-validate_rules-reads.Asked
any-state-MqttMonitor-validate_rules κs a = tt

pub one-state-MqttMonitor-standing : One state-MqttMonitor-standing.ended state-MqttMonitor-standing-reads.Post
one-state-MqttMonitor-standing κs a x y e f p q = outlook_once _ _ (p ∙ sym q)

pub any-state-MqttMonitor-standing : Any state-MqttMonitor-standing.ended state-MqttMonitor-standing-reads.Asked
any-state-MqttMonitor-standing κs a = tt

pub one-state-MqttMonitor-tokens_left : One state-MqttMonitor-tokens_left.ended state-MqttMonitor-tokens_left-reads.Post
one-state-MqttMonitor-tokens_left κs a x y e f p q = left_once _ _ (p ∙ sym q)

pub any-state-MqttMonitor-tokens_left : Any state-MqttMonitor-tokens_left.ended state-MqttMonitor-tokens_left-reads.Asked
any-state-MqttMonitor-tokens_left κs a = tt

pub one-state-MqttMonitor-is_well_formed : One state-MqttMonitor-is_well_formed.ended state-MqttMonitor-is_well_formed-reads.Post
one-state-MqttMonitor-is_well_formed κs a x y e f p q = p ∙ sym q

pub any-state-MqttMonitor-is_well_formed : Any state-MqttMonitor-is_well_formed.ended state-MqttMonitor-is_well_formed-reads.Asked
any-state-MqttMonitor-is_well_formed κs a = tt

pub one-state-free_rules : One state-free_rules.ended state-free_rules-reads.Post
one-state-free_rules κs a x y e f p q = p ∙ sym q

pub any-state-free_rules : Any state-free_rules.ended state-free_rules-reads.Asked
any-state-free_rules κs a = tt
