-- One answer for every public function of `tables`, and nothing asked of its caller (specs/One.antt). Assumes nothing.
use mathlib.Core.Path.{refl, sym, ◌∙◌}
use Rattle.tables.proofs.rules.PlanLaws.{told_once}
use Rattle.tables.specs.contracts.buckets.RateBucket.try_consume as buckets-RateBucket-try_consume
use Rattle.tables.proofs.buckets.RateBucket.try_consume.Reads as buckets-RateBucket-try_consume-reads
use Rattle.tables.specs.contracts.buckets.RateBucket.is_expired as buckets-RateBucket-is_expired
use Rattle.tables.proofs.buckets.RateBucket.is_expired.Reads as buckets-RateBucket-is_expired-reads
use Rattle.tables.specs.contracts.buckets.RateBucket.is_fine as buckets-RateBucket-is_fine
use Rattle.tables.proofs.buckets.RateBucket.is_fine.Reads as buckets-RateBucket-is_fine-reads
use Rattle.tables.specs.contracts.buckets.rate_limit_check as buckets-rate_limit_check
use Rattle.tables.proofs.buckets.rate_limit_check.Reads as buckets-rate_limit_check-reads
use Rattle.tables.specs.contracts.buckets.removed_bucket as buckets-removed_bucket
use Rattle.tables.proofs.buckets.removed_bucket.Reads as buckets-removed_bucket-reads
use Rattle.tables.specs.contracts.covers.rule_witness as covers-rule_witness
use Rattle.tables.proofs.covers.rule_witness.Reads as covers-rule_witness-reads
use Rattle.tables.specs.contracts.covers.cover_report as covers-cover_report
use Rattle.tables.proofs.covers.cover_report.Reads as covers-cover_report-reads
use Rattle.tables.specs.contracts.identity.Id.of as identity-Id-of
use Rattle.tables.proofs.identity.Id.of.Reads as identity-Id-of-reads
use Rattle.tables.specs.contracts.identity.Id.numbers_agree as identity-Id-numbers_agree
use Rattle.tables.proofs.identity.Id.numbers_agree.Reads as identity-Id-numbers_agree-reads
use Rattle.tables.specs.contracts.identity.Id.all_numbers_agree as identity-Id-all_numbers_agree
use Rattle.tables.proofs.identity.Id.all_numbers_agree.Reads as identity-Id-all_numbers_agree-reads
use Rattle.tables.specs.contracts.identity.Id.first_bytes_agree as identity-Id-first_bytes_agree
use Rattle.tables.proofs.identity.Id.first_bytes_agree.Reads as identity-Id-first_bytes_agree-reads
use Rattle.tables.specs.contracts.identity.Id.prefixes_agree as identity-Id-prefixes_agree
use Rattle.tables.proofs.identity.Id.prefixes_agree.Reads as identity-Id-prefixes_agree-reads
use Rattle.tables.specs.contracts.identity.Id.is_of as identity-Id-is_of
use Rattle.tables.proofs.identity.Id.is_of.Reads as identity-Id-is_of-reads
use Rattle.tables.specs.contracts.identity.Id.is_removed_by as identity-Id-is_removed_by
use Rattle.tables.proofs.identity.Id.is_removed_by.Reads as identity-Id-is_removed_by-reads
use Rattle.tables.specs.contracts.rules.qos_number as rules-qos_number
use Rattle.tables.proofs.rules.qos_number.Reads as rules-qos_number-reads
use Rattle.tables.specs.contracts.rules.qos_at as rules-qos_at
use Rattle.tables.proofs.rules.qos_at.Reads as rules-qos_at-reads
use Rattle.tables.specs.contracts.rules.action_number as rules-action_number
use Rattle.tables.proofs.rules.action_number.Reads as rules-action_number-reads
use Rattle.tables.specs.contracts.rules.action_at as rules-action_at
use Rattle.tables.proofs.rules.action_at.Reads as rules-action_at-reads
use Rattle.tables.specs.contracts.rules.policy_number as rules-policy_number
use Rattle.tables.proofs.rules.policy_number.Reads as rules-policy_number-reads
use Rattle.tables.specs.contracts.rules.policy_at as rules-policy_at
use Rattle.tables.proofs.rules.policy_at.Reads as rules-policy_at-reads
use Rattle.tables.specs.contracts.rules.QosPolicy.takes as rules-QosPolicy-takes
use Rattle.tables.proofs.rules.QosPolicy.takes.Reads as rules-QosPolicy-takes-reads
use Rattle.tables.specs.contracts.rules.used as rules-used
use Rattle.tables.proofs.rules.used.Reads as rules-used-reads
use Rattle.tables.specs.contracts.rules.places as rules-places
use Rattle.tables.proofs.rules.places.Reads as rules-places-reads
use Rattle.tables.specs.contracts.rules.TopicRule.pattern as rules-TopicRule-pattern
use Rattle.tables.proofs.rules.TopicRule.pattern.Reads as rules-TopicRule-pattern-reads
use Rattle.tables.specs.contracts.rules.TopicRule.takes as rules-TopicRule-takes
use Rattle.tables.proofs.rules.TopicRule.takes.Reads as rules-TopicRule-takes-reads
use Rattle.tables.specs.contracts.rules.TopicRule.is_fine as rules-TopicRule-is_fine
use Rattle.tables.proofs.rules.TopicRule.is_fine.Reads as rules-TopicRule-is_fine-reads
use Rattle.tables.specs.contracts.rules.equal_rule as rules-equal_rule
use Rattle.tables.proofs.rules.equal_rule.Reads as rules-equal_rule-reads
use Rattle.tables.specs.contracts.rules.RuleRefusal.number as rules-RuleRefusal-number
use Rattle.tables.proofs.rules.RuleRefusal.number.Reads as rules-RuleRefusal-number-reads
use Rattle.tables.specs.contracts.rules.plan_rule as rules-plan_rule
use Rattle.tables.proofs.rules.plan_rule.Reads as rules-plan_rule-reads
use Rattle.tables.specs.contracts.rules.shadow_count as rules-shadow_count
use Rattle.tables.proofs.rules.shadow_count.Reads as rules-shadow_count-reads
use Rattle.tables.specs.contracts.standing.opening_of as standing-opening_of
use Rattle.tables.proofs.standing.opening_of.Reads as standing-opening_of-reads
use Rattle.tables.specs.contracts.standing.opening_new as standing-opening_new
use Rattle.tables.proofs.standing.opening_new.Reads as standing-opening_new-reads
use Rattle.tables.specs.contracts.standing.look_ahead as standing-look_ahead
use Rattle.tables.proofs.standing.look_ahead.Reads as standing-look_ahead-reads
use Rattle.tables.specs.contracts.standing.taken as standing-taken
use Rattle.tables.proofs.standing.taken.Reads as standing-taken-reads
use Rattle.tables.specs.contracts.standing.oldest_live as standing-oldest_live
use Rattle.tables.proofs.standing.oldest_live.Reads as standing-oldest_live-reads
use Rattle.tables.specs.contracts.trackers.EwmaTracker.update as trackers-EwmaTracker-update
use Rattle.tables.proofs.trackers.EwmaTracker.update.Reads as trackers-EwmaTracker-update-reads
use Rattle.tables.specs.contracts.trackers.EwmaTracker.is_anomaly as trackers-EwmaTracker-is_anomaly
use Rattle.tables.proofs.trackers.EwmaTracker.is_anomaly.Reads as trackers-EwmaTracker-is_anomaly-reads
use Rattle.tables.specs.contracts.trackers.EwmaTracker.is_fine as trackers-EwmaTracker-is_fine
use Rattle.tables.proofs.trackers.EwmaTracker.is_fine.Reads as trackers-EwmaTracker-is_fine-reads
use Rattle.tables.specs.contracts.trackers.ewma_update as trackers-ewma_update
use Rattle.tables.proofs.trackers.ewma_update.Reads as trackers-ewma_update-reads
use Rattle.tables.specs.contracts.trackers.removed_tracker as trackers-removed_tracker
use Rattle.tables.proofs.trackers.removed_tracker.Reads as trackers-removed_tracker-reads
use Rattle.tables.specs.contracts.windows.ClientStormEntry.«record» as windows-ClientStormEntry-record
use Rattle.tables.proofs.windows.ClientStormEntry.«record».Reads as windows-ClientStormEntry-record-reads
use Rattle.tables.specs.contracts.windows.ClientStormEntry.count_in_window as windows-ClientStormEntry-count_in_window
use Rattle.tables.proofs.windows.ClientStormEntry.count_in_window.Reads as windows-ClientStormEntry-count_in_window-reads
use Rattle.tables.specs.contracts.windows.ClientStormEntry.is_fine as windows-ClientStormEntry-is_fine
use Rattle.tables.proofs.windows.ClientStormEntry.is_fine.Reads as windows-ClientStormEntry-is_fine-reads
use Rattle.tables.specs.contracts.windows.record_connect as windows-record_connect
use Rattle.tables.proofs.windows.record_connect.Reads as windows-record_connect-reads
use Rattle.theorems.specs.One.{Any, One, OneLeft, OneRead}

pub one-buckets-RateBucket-try_consume : OneLeft buckets-RateBucket-try_consume.ended buckets-RateBucket-try_consume-reads.Post (λ κs e. e.0.now)
one-buckets-RateBucket-try_consume κs a x y e f p q = (p.0 ∙ sym q.0, p.1 ∙ sym q.1)

pub any-buckets-RateBucket-try_consume : Any buckets-RateBucket-try_consume.ended buckets-RateBucket-try_consume-reads.Asked
any-buckets-RateBucket-try_consume κs a = tt

pub one-buckets-RateBucket-is_expired : One buckets-RateBucket-is_expired.ended buckets-RateBucket-is_expired-reads.Post
one-buckets-RateBucket-is_expired κs a x y e f p q = p ∙ sym q

pub any-buckets-RateBucket-is_expired : Any buckets-RateBucket-is_expired.ended buckets-RateBucket-is_expired-reads.Asked
any-buckets-RateBucket-is_expired κs a = tt

pub one-buckets-RateBucket-is_fine : One buckets-RateBucket-is_fine.ended buckets-RateBucket-is_fine-reads.Post
one-buckets-RateBucket-is_fine κs a x y e f p q = p ∙ sym q

pub any-buckets-RateBucket-is_fine : Any buckets-RateBucket-is_fine.ended buckets-RateBucket-is_fine-reads.Asked
any-buckets-RateBucket-is_fine κs a = tt

pub one-buckets-rate_limit_check : One buckets-rate_limit_check.ended buckets-rate_limit_check-reads.Post
one-buckets-rate_limit_check κs a x y e f p q = p ∙ sym q

pub any-buckets-rate_limit_check : Any buckets-rate_limit_check.ended buckets-rate_limit_check-reads.Asked
any-buckets-rate_limit_check κs a = tt

pub one-buckets-removed_bucket : One buckets-removed_bucket.ended buckets-removed_bucket-reads.Post
one-buckets-removed_bucket κs a x y e f p q = p ∙ sym q

pub any-buckets-removed_bucket : Any buckets-removed_bucket.ended buckets-removed_bucket-reads.Asked
any-buckets-removed_bucket κs a = tt

pub one-covers-rule_witness : One covers-rule_witness.ended covers-rule_witness-reads.Post
one-covers-rule_witness κs a x y e f p q = p ∙ sym q

pub any-covers-rule_witness : Any covers-rule_witness.ended covers-rule_witness-reads.Asked
any-covers-rule_witness κs a = tt

pub one-covers-cover_report : One covers-cover_report.ended covers-cover_report-reads.Post
one-covers-cover_report κs a x y e f p q = p ∙ sym q

pub any-covers-cover_report : Any covers-cover_report.ended covers-cover_report-reads.Asked
any-covers-cover_report κs a = tt

pub one-identity-Id-of : One identity-Id-of.ended identity-Id-of-reads.Post
one-identity-Id-of κs a x y e f p q = p ∙ sym q

pub any-identity-Id-of : Any identity-Id-of.ended identity-Id-of-reads.Asked
any-identity-Id-of κs a = tt

pub one-identity-Id-numbers_agree : One identity-Id-numbers_agree.ended identity-Id-numbers_agree-reads.Post
one-identity-Id-numbers_agree κs a x y e f p q = p ∙ sym q

pub any-identity-Id-numbers_agree : Any identity-Id-numbers_agree.ended identity-Id-numbers_agree-reads.Asked
any-identity-Id-numbers_agree κs a = tt

pub one-identity-Id-all_numbers_agree : One identity-Id-all_numbers_agree.ended identity-Id-all_numbers_agree-reads.Post
one-identity-Id-all_numbers_agree κs a x y e f p q = p ∙ sym q

pub any-identity-Id-all_numbers_agree : Any identity-Id-all_numbers_agree.ended identity-Id-all_numbers_agree-reads.Asked
any-identity-Id-all_numbers_agree κs a = tt

pub one-identity-Id-first_bytes_agree : One identity-Id-first_bytes_agree.ended identity-Id-first_bytes_agree-reads.Post
one-identity-Id-first_bytes_agree κs a x y e f p q = p ∙ sym q

pub any-identity-Id-first_bytes_agree : Any identity-Id-first_bytes_agree.ended identity-Id-first_bytes_agree-reads.Asked
any-identity-Id-first_bytes_agree κs a = tt

pub one-identity-Id-prefixes_agree : One identity-Id-prefixes_agree.ended identity-Id-prefixes_agree-reads.Post
one-identity-Id-prefixes_agree κs a x y e f p q = p ∙ sym q

pub any-identity-Id-prefixes_agree : Any identity-Id-prefixes_agree.ended identity-Id-prefixes_agree-reads.Asked
any-identity-Id-prefixes_agree κs a = tt

pub one-identity-Id-is_of : One identity-Id-is_of.ended identity-Id-is_of-reads.Post
one-identity-Id-is_of κs a x y e f p q = p ∙ sym q

pub any-identity-Id-is_of : Any identity-Id-is_of.ended identity-Id-is_of-reads.Asked
any-identity-Id-is_of κs a = tt

pub one-identity-Id-is_removed_by : One identity-Id-is_removed_by.ended identity-Id-is_removed_by-reads.Post
one-identity-Id-is_removed_by κs a x y e f p q = p ∙ sym q

pub any-identity-Id-is_removed_by : Any identity-Id-is_removed_by.ended identity-Id-is_removed_by-reads.Asked
any-identity-Id-is_removed_by κs a = tt

pub one-rules-qos_number : One rules-qos_number.ended rules-qos_number-reads.Post
one-rules-qos_number κs a x y e f p q = p.0 ∙ sym q.0

pub any-rules-qos_number : Any rules-qos_number.ended rules-qos_number-reads.Asked
any-rules-qos_number κs a = tt

pub one-rules-qos_at : One rules-qos_at.ended rules-qos_at-reads.Post
one-rules-qos_at κs a x y e f p q = p ∙ sym q

pub any-rules-qos_at : Any rules-qos_at.ended rules-qos_at-reads.Asked
any-rules-qos_at κs a = tt

pub one-rules-action_number : One rules-action_number.ended rules-action_number-reads.Post
one-rules-action_number κs a x y e f p q = p ∙ sym q

pub any-rules-action_number : Any rules-action_number.ended rules-action_number-reads.Asked
any-rules-action_number κs a = tt

pub one-rules-action_at : One rules-action_at.ended rules-action_at-reads.Post
one-rules-action_at κs a x y e f p q = p ∙ sym q

pub any-rules-action_at : Any rules-action_at.ended rules-action_at-reads.Asked
any-rules-action_at κs a = tt

pub one-rules-policy_number : One rules-policy_number.ended rules-policy_number-reads.Post
one-rules-policy_number κs a x y e f p q = p ∙ sym q

pub any-rules-policy_number : Any rules-policy_number.ended rules-policy_number-reads.Asked
any-rules-policy_number κs a = tt

pub one-rules-policy_at : One rules-policy_at.ended rules-policy_at-reads.Post
one-rules-policy_at κs a x y e f p q = p ∙ sym q

pub any-rules-policy_at : Any rules-policy_at.ended rules-policy_at-reads.Asked
any-rules-policy_at κs a = tt

pub one-rules-QosPolicy-takes : One rules-QosPolicy-takes.ended rules-QosPolicy-takes-reads.Post
one-rules-QosPolicy-takes κs a x y e f p q = p ∙ sym q

pub any-rules-QosPolicy-takes : Any rules-QosPolicy-takes.ended rules-QosPolicy-takes-reads.Asked
any-rules-QosPolicy-takes κs a = tt

pub one-rules-used : One rules-used.ended rules-used-reads.Post
one-rules-used κs a x y e f p q = p ∙ sym q

pub any-rules-used : Any rules-used.ended rules-used-reads.Asked
any-rules-used κs a = tt

pub one-rules-places : One rules-places.ended rules-places-reads.Post
one-rules-places κs a x y e f p q = p ∙ sym q

pub any-rules-places : Any rules-places.ended rules-places-reads.Asked
any-rules-places κs a = tt

pub one-rules-TopicRule-pattern : OneRead rules-TopicRule-pattern.ended rules-TopicRule-pattern-reads.Post (λ κs x. x.now)
one-rules-TopicRule-pattern κs a x y e f p q = p ∙ sym q

pub any-rules-TopicRule-pattern : Any rules-TopicRule-pattern.ended rules-TopicRule-pattern-reads.Asked
any-rules-TopicRule-pattern κs a = tt

pub one-rules-TopicRule-takes : One rules-TopicRule-takes.ended rules-TopicRule-takes-reads.Post
one-rules-TopicRule-takes κs a x y e f p q = p ∙ sym q

pub any-rules-TopicRule-takes : Any rules-TopicRule-takes.ended rules-TopicRule-takes-reads.Asked
any-rules-TopicRule-takes κs a = tt

pub one-rules-TopicRule-is_fine : One rules-TopicRule-is_fine.ended rules-TopicRule-is_fine-reads.Post
one-rules-TopicRule-is_fine κs a x y e f p q = p ∙ sym q

pub any-rules-TopicRule-is_fine : Any rules-TopicRule-is_fine.ended rules-TopicRule-is_fine-reads.Asked
any-rules-TopicRule-is_fine κs a = tt

pub one-rules-equal_rule : One rules-equal_rule.ended rules-equal_rule-reads.Post
one-rules-equal_rule κs a x y e f p q = p ∙ sym q

pub any-rules-equal_rule : Any rules-equal_rule.ended rules-equal_rule-reads.Asked
any-rules-equal_rule κs a = tt

pub one-rules-RuleRefusal-number : One rules-RuleRefusal-number.ended rules-RuleRefusal-number-reads.Post
one-rules-RuleRefusal-number κs a x y e f p q = p ∙ sym q

pub any-rules-RuleRefusal-number : Any rules-RuleRefusal-number.ended rules-RuleRefusal-number-reads.Asked
any-rules-RuleRefusal-number κs a = tt

pub one-rules-plan_rule : One rules-plan_rule.ended rules-plan_rule-reads.Post
one-rules-plan_rule κs a x y e f p q = told_once _ _ _ (p.0 ∙ sym q.0)

pub any-rules-plan_rule : Any rules-plan_rule.ended rules-plan_rule-reads.Asked
any-rules-plan_rule κs a = tt

pub one-rules-shadow_count : One rules-shadow_count.ended rules-shadow_count-reads.Post
one-rules-shadow_count κs a x y e f p q = p ∙ sym q

pub any-rules-shadow_count : Any rules-shadow_count.ended rules-shadow_count-reads.Asked
any-rules-shadow_count κs a = tt

pub one-standing-opening_of : One standing-opening_of.ended standing-opening_of-reads.Post
one-standing-opening_of κs a x y e f p q = p ∙ sym q

pub any-standing-opening_of : Any standing-opening_of.ended standing-opening_of-reads.Asked
any-standing-opening_of κs a = tt

pub one-standing-opening_new : One standing-opening_new.ended standing-opening_new-reads.Post
one-standing-opening_new κs a x y e f p q = p ∙ sym q

pub any-standing-opening_new : Any standing-opening_new.ended standing-opening_new-reads.Asked
any-standing-opening_new κs a = tt

pub one-standing-look_ahead : One standing-look_ahead.ended standing-look_ahead-reads.Post
one-standing-look_ahead κs a x y e f p q = p ∙ sym q

pub any-standing-look_ahead : Any standing-look_ahead.ended standing-look_ahead-reads.Asked
any-standing-look_ahead κs a = tt

pub one-standing-taken : One standing-taken.ended standing-taken-reads.Post
one-standing-taken κs a x y e f p q = p ∙ sym q

pub any-standing-taken : Any standing-taken.ended standing-taken-reads.Asked
any-standing-taken κs a = tt

pub one-standing-oldest_live : One standing-oldest_live.ended standing-oldest_live-reads.Post
one-standing-oldest_live κs a x y e f p q = p ∙ sym q

pub any-standing-oldest_live : Any standing-oldest_live.ended standing-oldest_live-reads.Asked
any-standing-oldest_live κs a = tt

pub one-trackers-EwmaTracker-update : OneLeft trackers-EwmaTracker-update.ended trackers-EwmaTracker-update-reads.Post (λ κs e. e.0.now)
one-trackers-EwmaTracker-update κs a x y e f p q = (refl, p ∙ sym q)

pub any-trackers-EwmaTracker-update : Any trackers-EwmaTracker-update.ended trackers-EwmaTracker-update-reads.Asked
any-trackers-EwmaTracker-update κs a = tt

pub one-trackers-EwmaTracker-is_anomaly : One trackers-EwmaTracker-is_anomaly.ended trackers-EwmaTracker-is_anomaly-reads.Post
one-trackers-EwmaTracker-is_anomaly κs a x y e f p q = p ∙ sym q

pub any-trackers-EwmaTracker-is_anomaly : Any trackers-EwmaTracker-is_anomaly.ended trackers-EwmaTracker-is_anomaly-reads.Asked
any-trackers-EwmaTracker-is_anomaly κs a = tt

pub one-trackers-EwmaTracker-is_fine : One trackers-EwmaTracker-is_fine.ended trackers-EwmaTracker-is_fine-reads.Post
one-trackers-EwmaTracker-is_fine κs a x y e f p q = p ∙ sym q

pub any-trackers-EwmaTracker-is_fine : Any trackers-EwmaTracker-is_fine.ended trackers-EwmaTracker-is_fine-reads.Asked
any-trackers-EwmaTracker-is_fine κs a = tt

pub one-trackers-ewma_update : One trackers-ewma_update.ended trackers-ewma_update-reads.Post
one-trackers-ewma_update κs a x y e f p q = p ∙ sym q

pub any-trackers-ewma_update : Any trackers-ewma_update.ended trackers-ewma_update-reads.Asked
any-trackers-ewma_update κs a = tt

pub one-trackers-removed_tracker : One trackers-removed_tracker.ended trackers-removed_tracker-reads.Post
one-trackers-removed_tracker κs a x y e f p q = p ∙ sym q

pub any-trackers-removed_tracker : Any trackers-removed_tracker.ended trackers-removed_tracker-reads.Asked
any-trackers-removed_tracker κs a = tt

pub one-windows-ClientStormEntry-record : OneLeft windows-ClientStormEntry-record.ended windows-ClientStormEntry-record-reads.Post (λ κs e. e.0.now)
one-windows-ClientStormEntry-record κs a x y e f p q = (refl, p ∙ sym q)

pub any-windows-ClientStormEntry-record : Any windows-ClientStormEntry-record.ended windows-ClientStormEntry-record-reads.Asked
any-windows-ClientStormEntry-record κs a = tt

pub one-windows-ClientStormEntry-count_in_window : One windows-ClientStormEntry-count_in_window.ended windows-ClientStormEntry-count_in_window-reads.Post
one-windows-ClientStormEntry-count_in_window κs a x y e f p q = p ∙ sym q

pub any-windows-ClientStormEntry-count_in_window : Any windows-ClientStormEntry-count_in_window.ended windows-ClientStormEntry-count_in_window-reads.Asked
any-windows-ClientStormEntry-count_in_window κs a = tt

pub one-windows-ClientStormEntry-is_fine : One windows-ClientStormEntry-is_fine.ended windows-ClientStormEntry-is_fine-reads.Post
one-windows-ClientStormEntry-is_fine κs a x y e f p q = p ∙ sym q

pub any-windows-ClientStormEntry-is_fine : Any windows-ClientStormEntry-is_fine.ended windows-ClientStormEntry-is_fine-reads.Asked
any-windows-ClientStormEntry-is_fine κs a = tt

pub one-windows-record_connect : One windows-record_connect.ended windows-record_connect-reads.Post
one-windows-record_connect κs a x y e f p q = p ∙ sym q

pub any-windows-record_connect : Any windows-record_connect.ended windows-record_connect-reads.Asked
any-windows-record_connect κs a = tt
