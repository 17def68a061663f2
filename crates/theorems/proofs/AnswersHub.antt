-- One answer for every public function of `hub`, and nothing asked of its caller (specs/One.antt). Assumes nothing.
use mathlib.Core.Path.{refl, sym, ◌∙◌}
use Rattle.hub.specs.contracts.hashing.hub_fnv1a_hash as hashing-hub_fnv1a_hash
use Rattle.hub.proofs.hashing.hub_fnv1a_hash.Reads as hashing-hub_fnv1a_hash-reads
use Rattle.hub.specs.contracts.hashing.hub_djb2_hash as hashing-hub_djb2_hash
use Rattle.hub.proofs.hashing.hub_djb2_hash.Reads as hashing-hub_djb2_hash-reads
use Rattle.hub.specs.contracts.hashing.hub_suffix_hash as hashing-hub_suffix_hash
use Rattle.hub.proofs.hashing.hub_suffix_hash.Reads as hashing-hub_suffix_hash-reads
use Rattle.hub.specs.contracts.hashing.hub_client_hashes as hashing-hub_client_hashes
use Rattle.hub.proofs.hashing.hub_client_hashes.Reads as hashing-hub_client_hashes-reads
use Rattle.hub.specs.contracts.hashing.hub_compute_payload_hash as hashing-hub_compute_payload_hash
use Rattle.hub.proofs.hashing.hub_compute_payload_hash.Reads as hashing-hub_compute_payload_hash-reads
use Rattle.hub.specs.contracts.matching.hub_validate_mqtt_wildcard as matching-hub_validate_mqtt_wildcard
use Rattle.hub.proofs.matching.hub_validate_mqtt_wildcard.Reads as matching-hub_validate_mqtt_wildcard-reads
use Rattle.hub.specs.contracts.matching.hub_is_utf8 as matching-hub_is_utf8
use Rattle.hub.proofs.matching.hub_is_utf8.Reads as matching-hub_is_utf8-reads
use Rattle.hub.specs.contracts.matching.hub_pattern_refusal as matching-hub_pattern_refusal
use Rattle.hub.proofs.matching.hub_pattern_refusal.Reads as matching-hub_pattern_refusal-reads
use Rattle.hub.specs.contracts.matching.hub_topic_matches as matching-hub_topic_matches
use Rattle.hub.proofs.matching.hub_topic_matches.Reads as matching-hub_topic_matches-reads
use Rattle.hub.specs.contracts.matching.hub_standard_matches as matching-hub_standard_matches
use Rattle.hub.proofs.matching.hub_standard_matches.Reads as matching-hub_standard_matches-reads
use Rattle.hub.specs.contracts.matching.hub_is_broad_wildcard_subscribe as matching-hub_is_broad_wildcard_subscribe
use Rattle.hub.proofs.matching.hub_is_broad_wildcard_subscribe.Reads as matching-hub_is_broad_wildcard_subscribe-reads
use Rattle.hub.specs.contracts.matching.hub_starts_with_dollar as matching-hub_starts_with_dollar
use Rattle.hub.proofs.matching.hub_starts_with_dollar.Reads as matching-hub_starts_with_dollar-reads
use Rattle.hub.specs.contracts.matching.hub_contains_invalid_publish_char as matching-hub_contains_invalid_publish_char
use Rattle.hub.proofs.matching.hub_contains_invalid_publish_char.Reads as matching-hub_contains_invalid_publish_char-reads
use Rattle.hub.specs.contracts.tracing.hub_trace as tracing-hub_trace
use Rattle.hub.proofs.tracing.hub_trace.Reads as tracing-hub_trace-reads
use Rattle.hub.specs.contracts.tracing.hub_trace_length as tracing-hub_trace_length
use Rattle.hub.proofs.tracing.hub_trace_length.Reads as tracing-hub_trace_length-reads
use Rattle.hub.specs.contracts.tracing.hub_trace_standard as tracing-hub_trace_standard
use Rattle.hub.proofs.tracing.hub_trace_standard.Reads as tracing-hub_trace_standard-reads
use Rattle.hub.specs.contracts.tracing.hub_trace_standard_length as tracing-hub_trace_standard_length
use Rattle.hub.proofs.tracing.hub_trace_standard_length.Reads as tracing-hub_trace_standard_length-reads
use Rattle.theorems.specs.One.{Any, One, OneLeft}

pub one-hashing-hub_fnv1a_hash : One hashing-hub_fnv1a_hash.ended hashing-hub_fnv1a_hash-reads.Post
one-hashing-hub_fnv1a_hash κs a x y e f p q = p ∙ sym q

pub any-hashing-hub_fnv1a_hash : Any hashing-hub_fnv1a_hash.ended hashing-hub_fnv1a_hash-reads.Asked
any-hashing-hub_fnv1a_hash κs a = tt

pub one-hashing-hub_djb2_hash : One hashing-hub_djb2_hash.ended hashing-hub_djb2_hash-reads.Post
one-hashing-hub_djb2_hash κs a x y e f p q = p ∙ sym q

pub any-hashing-hub_djb2_hash : Any hashing-hub_djb2_hash.ended hashing-hub_djb2_hash-reads.Asked
any-hashing-hub_djb2_hash κs a = tt

pub one-hashing-hub_suffix_hash : One hashing-hub_suffix_hash.ended hashing-hub_suffix_hash-reads.Post
one-hashing-hub_suffix_hash κs a x y e f p q = p ∙ sym q

pub any-hashing-hub_suffix_hash : Any hashing-hub_suffix_hash.ended hashing-hub_suffix_hash-reads.Asked
any-hashing-hub_suffix_hash κs a = tt

pub one-hashing-hub_client_hashes : One hashing-hub_client_hashes.ended hashing-hub_client_hashes-reads.Post
one-hashing-hub_client_hashes κs a x y e f p q = p ∙ sym q

pub any-hashing-hub_client_hashes : Any hashing-hub_client_hashes.ended hashing-hub_client_hashes-reads.Asked
any-hashing-hub_client_hashes κs a = tt

pub one-hashing-hub_compute_payload_hash : OneLeft hashing-hub_compute_payload_hash.ended hashing-hub_compute_payload_hash-reads.Post (λ κs e. e.1.0.now)
one-hashing-hub_compute_payload_hash κs a x y e f p q = (refl, p ∙ sym q)

pub any-hashing-hub_compute_payload_hash : Any hashing-hub_compute_payload_hash.ended hashing-hub_compute_payload_hash-reads.Asked
any-hashing-hub_compute_payload_hash κs a = tt

pub one-matching-hub_validate_mqtt_wildcard : One matching-hub_validate_mqtt_wildcard.ended matching-hub_validate_mqtt_wildcard-reads.Post
one-matching-hub_validate_mqtt_wildcard κs a x y e f p q = p ∙ sym q

pub any-matching-hub_validate_mqtt_wildcard : Any matching-hub_validate_mqtt_wildcard.ended matching-hub_validate_mqtt_wildcard-reads.Asked
any-matching-hub_validate_mqtt_wildcard κs a = tt

pub one-matching-hub_pattern_refusal : One matching-hub_pattern_refusal.ended matching-hub_pattern_refusal-reads.Post
one-matching-hub_pattern_refusal κs a x y e f p q = p ∙ sym q

pub any-matching-hub_pattern_refusal : Any matching-hub_pattern_refusal.ended matching-hub_pattern_refusal-reads.Asked
any-matching-hub_pattern_refusal κs a = tt

pub one-matching-hub_topic_matches : One matching-hub_topic_matches.ended matching-hub_topic_matches-reads.Post
one-matching-hub_topic_matches κs a x y e f p q = p ∙ sym q

pub any-matching-hub_topic_matches : Any matching-hub_topic_matches.ended matching-hub_topic_matches-reads.Asked
any-matching-hub_topic_matches κs a = tt

pub one-matching-hub_standard_matches : One matching-hub_standard_matches.ended matching-hub_standard_matches-reads.Post
one-matching-hub_standard_matches κs a x y e f p q = p ∙ sym q

pub any-matching-hub_standard_matches : Any matching-hub_standard_matches.ended matching-hub_standard_matches-reads.Asked
any-matching-hub_standard_matches κs a = tt

pub one-matching-hub_is_broad_wildcard_subscribe : One matching-hub_is_broad_wildcard_subscribe.ended matching-hub_is_broad_wildcard_subscribe-reads.Post
one-matching-hub_is_broad_wildcard_subscribe κs a x y e f p q = p ∙ sym q

pub any-matching-hub_is_broad_wildcard_subscribe : Any matching-hub_is_broad_wildcard_subscribe.ended matching-hub_is_broad_wildcard_subscribe-reads.Asked
any-matching-hub_is_broad_wildcard_subscribe κs a = tt

pub one-matching-hub_starts_with_dollar : One matching-hub_starts_with_dollar.ended matching-hub_starts_with_dollar-reads.Post
one-matching-hub_starts_with_dollar κs a x y e f p q = p ∙ sym q

pub any-matching-hub_starts_with_dollar : Any matching-hub_starts_with_dollar.ended matching-hub_starts_with_dollar-reads.Asked
any-matching-hub_starts_with_dollar κs a = tt

pub one-matching-hub_contains_invalid_publish_char : One matching-hub_contains_invalid_publish_char.ended matching-hub_contains_invalid_publish_char-reads.Post
one-matching-hub_contains_invalid_publish_char κs a x y e f p q = p ∙ sym q

pub any-matching-hub_contains_invalid_publish_char : Any matching-hub_contains_invalid_publish_char.ended matching-hub_contains_invalid_publish_char-reads.Asked
any-matching-hub_contains_invalid_publish_char κs a = tt

pub one-tracing-hub_trace : OneLeft tracing-hub_trace.ended tracing-hub_trace-reads.Post (λ κs e. e.1.0.now)
one-tracing-hub_trace κs a x y e f p q = (p.0 ∙ sym q.0, p.1 ∙ sym q.1)

pub any-tracing-hub_trace : Any tracing-hub_trace.ended tracing-hub_trace-reads.Asked
any-tracing-hub_trace κs a = tt

pub one-tracing-hub_trace_length : One tracing-hub_trace_length.ended tracing-hub_trace_length-reads.Post
one-tracing-hub_trace_length κs a x y e f p q = p ∙ sym q

pub any-tracing-hub_trace_length : Any tracing-hub_trace_length.ended tracing-hub_trace_length-reads.Asked
any-tracing-hub_trace_length κs a = tt

pub one-tracing-hub_trace_standard : OneLeft tracing-hub_trace_standard.ended tracing-hub_trace_standard-reads.Post (λ κs e. e.1.0.now)
one-tracing-hub_trace_standard κs a x y e f p q = (p.0 ∙ sym q.0, p.1 ∙ sym q.1)

pub any-tracing-hub_trace_standard : Any tracing-hub_trace_standard.ended tracing-hub_trace_standard-reads.Asked
any-tracing-hub_trace_standard κs a = tt

pub one-tracing-hub_trace_standard_length : One tracing-hub_trace_standard_length.ended tracing-hub_trace_standard_length-reads.Post
one-tracing-hub_trace_standard_length κs a x y e f p q = p ∙ sym q

pub any-tracing-hub_trace_standard_length : Any tracing-hub_trace_standard_length.ended tracing-hub_trace_standard_length-reads.Asked
any-tracing-hub_trace_standard_length κs a = tt

pub one-matching-hub_is_utf8 : One matching-hub_is_utf8.ended matching-hub_is_utf8-reads.Post
one-matching-hub_is_utf8 κs a x y e f p q = p ∙ sym q

pub any-matching-hub_is_utf8 : Any matching-hub_is_utf8.ended matching-hub_is_utf8-reads.Asked
any-matching-hub_is_utf8 κs a = tt
