-- One answer for every public function of `topics`, and nothing asked of its caller (specs/One.antt). Assumes nothing.
use mathlib.Core.Path.{sym, ◌∙◌}
use Rattle.topics.proofs.patterns.PatternLaws.{check_once}
use Rattle.topics.specs.contracts.hashes.wrapping_mul32 as hashes-wrapping_mul32
use Rattle.topics.proofs.hashes.wrapping_mul32.Reads as hashes-wrapping_mul32-reads
use Rattle.topics.specs.contracts.hashes.fnv_step as hashes-fnv_step
use Rattle.topics.proofs.hashes.fnv_step.Reads as hashes-fnv_step-reads
use Rattle.topics.specs.contracts.hashes.fnv1a_hash as hashes-fnv1a_hash
use Rattle.topics.proofs.hashes.fnv1a_hash.Reads as hashes-fnv1a_hash-reads
use Rattle.topics.specs.contracts.hashes.djb2_hash as hashes-djb2_hash
use Rattle.topics.proofs.hashes.djb2_hash.Reads as hashes-djb2_hash-reads
use Rattle.topics.specs.contracts.hashes.suffix_hash as hashes-suffix_hash
use Rattle.topics.proofs.hashes.suffix_hash.Reads as hashes-suffix_hash-reads
use Rattle.topics.specs.contracts.hashes.client_hashes as hashes-client_hashes
use Rattle.topics.proofs.hashes.client_hashes.Reads as hashes-client_hashes-reads
use Rattle.topics.specs.contracts.matching.topic_matches as matching-topic_matches
use Rattle.topics.proofs.matching.topic_matches.Reads as matching-topic_matches-reads
use Rattle.topics.specs.contracts.matching.standard_matches as matching-standard_matches
use Rattle.topics.proofs.matching.standard_matches.Reads as matching-standard_matches-reads
use Rattle.topics.specs.contracts.matching.match_number as matching-match_number
use Rattle.topics.proofs.matching.match_number.Reads as matching-match_number-reads
use Rattle.topics.specs.contracts.names.is_broad_wildcard_subscribe as names-is_broad_wildcard_subscribe
use Rattle.topics.proofs.names.is_broad_wildcard_subscribe.Reads as names-is_broad_wildcard_subscribe-reads
use Rattle.topics.specs.contracts.names.starts_with_dollar as names-starts_with_dollar
use Rattle.topics.proofs.names.starts_with_dollar.Reads as names-starts_with_dollar-reads
use Rattle.topics.specs.contracts.names.contains_invalid_publish_char as names-contains_invalid_publish_char
use Rattle.topics.proofs.names.contains_invalid_publish_char.Reads as names-contains_invalid_publish_char-reads
use Rattle.topics.specs.contracts.patterns.validate_mqtt_wildcard as patterns-validate_mqtt_wildcard
use Rattle.topics.proofs.patterns.validate_mqtt_wildcard.Reads as patterns-validate_mqtt_wildcard-reads
use Rattle.topics.specs.contracts.patterns.PatternRefusal.number as patterns-PatternRefusal-number
use Rattle.topics.proofs.patterns.PatternRefusal.number.Reads as patterns-PatternRefusal-number-reads
use Rattle.topics.specs.contracts.patterns.check_pattern as patterns-check_pattern
use Rattle.topics.proofs.patterns.check_pattern.Reads as patterns-check_pattern-reads
use Rattle.topics.specs.contracts.payload.compute_payload_hash as payload-compute_payload_hash
use Rattle.topics.proofs.payload.compute_payload_hash.Reads as payload-compute_payload_hash-reads
use Rattle.topics.specs.contracts.matching.matches_with as matching-matches_with
use Rattle.topics.proofs.matching.matches_with.Reads as matching-matches_with-reads
use Rattle.topics.specs.contracts.matching.matches_by as matching-matches_by
use Rattle.topics.proofs.matching.matches_by.Reads as matching-matches_by-reads
use Rattle.topics.specs.contracts.utf8.is_utf8 as utf8-is_utf8
use Rattle.topics.proofs.utf8.is_utf8.Reads as utf8-is_utf8-reads
use Rattle.topics.specs.contracts.shown.is_readable as shown-is_readable
use Rattle.topics.proofs.shown.is_readable.Reads as shown-is_readable-reads
use Rattle.topics.specs.contracts.shown.shown_byte as shown-shown_byte
use Rattle.topics.proofs.shown.shown_byte.Reads as shown-shown_byte-reads
use Rattle.topics.specs.contracts.covering.find_witness as covering-find_witness
use Rattle.topics.proofs.covering.find_witness.Reads as covering-find_witness-reads
use Rattle.topics.specs.contracts.covering.covers as covering-covers
use Rattle.topics.proofs.covering.covers.Reads as covering-covers-reads
use Rattle.topics.specs.contracts.matching.is_standard as matching-is_standard
use Rattle.topics.proofs.matching.is_standard.Reads as matching-is_standard-reads
use Rattle.theorems.specs.One.{Any, One}

pub one-hashes-wrapping_mul32 : One hashes-wrapping_mul32.ended hashes-wrapping_mul32-reads.Post
one-hashes-wrapping_mul32 κs a x y e f p q = p ∙ sym q

pub any-hashes-wrapping_mul32 : Any hashes-wrapping_mul32.ended hashes-wrapping_mul32-reads.Asked
any-hashes-wrapping_mul32 κs a = tt

pub one-hashes-fnv_step : One hashes-fnv_step.ended hashes-fnv_step-reads.Post
one-hashes-fnv_step κs a x y e f p q = p ∙ sym q

pub any-hashes-fnv_step : Any hashes-fnv_step.ended hashes-fnv_step-reads.Asked
any-hashes-fnv_step κs a = tt

pub one-hashes-fnv1a_hash : One hashes-fnv1a_hash.ended hashes-fnv1a_hash-reads.Post
one-hashes-fnv1a_hash κs a x y e f p q = p ∙ sym q

pub any-hashes-fnv1a_hash : Any hashes-fnv1a_hash.ended hashes-fnv1a_hash-reads.Asked
any-hashes-fnv1a_hash κs a = tt

pub one-hashes-djb2_hash : One hashes-djb2_hash.ended hashes-djb2_hash-reads.Post
one-hashes-djb2_hash κs a x y e f p q = p ∙ sym q

pub any-hashes-djb2_hash : Any hashes-djb2_hash.ended hashes-djb2_hash-reads.Asked
any-hashes-djb2_hash κs a = tt

pub one-hashes-suffix_hash : One hashes-suffix_hash.ended hashes-suffix_hash-reads.Post
one-hashes-suffix_hash κs a x y e f p q = p ∙ sym q

pub any-hashes-suffix_hash : Any hashes-suffix_hash.ended hashes-suffix_hash-reads.Asked
any-hashes-suffix_hash κs a = tt

pub one-hashes-client_hashes : One hashes-client_hashes.ended hashes-client_hashes-reads.Post
one-hashes-client_hashes κs a x y e f p q = p ∙ sym q

pub any-hashes-client_hashes : Any hashes-client_hashes.ended hashes-client_hashes-reads.Asked
any-hashes-client_hashes κs a = tt

pub one-matching-topic_matches : One matching-topic_matches.ended matching-topic_matches-reads.Post
one-matching-topic_matches κs a x y e f p q = p ∙ sym q

pub any-matching-topic_matches : Any matching-topic_matches.ended matching-topic_matches-reads.Asked
any-matching-topic_matches κs a = tt

pub one-matching-standard_matches : One matching-standard_matches.ended matching-standard_matches-reads.Post
one-matching-standard_matches κs a x y e f p q = p ∙ sym q

pub any-matching-standard_matches : Any matching-standard_matches.ended matching-standard_matches-reads.Asked
any-matching-standard_matches κs a = tt

pub one-matching-match_number : One matching-match_number.ended matching-match_number-reads.Post
one-matching-match_number κs a x y e f p q = p ∙ sym q

pub any-matching-match_number : Any matching-match_number.ended matching-match_number-reads.Asked
any-matching-match_number κs a = tt

pub one-names-is_broad_wildcard_subscribe : One names-is_broad_wildcard_subscribe.ended names-is_broad_wildcard_subscribe-reads.Post
one-names-is_broad_wildcard_subscribe κs a x y e f p q = p ∙ sym q

pub any-names-is_broad_wildcard_subscribe : Any names-is_broad_wildcard_subscribe.ended names-is_broad_wildcard_subscribe-reads.Asked
any-names-is_broad_wildcard_subscribe κs a = tt

pub one-names-starts_with_dollar : One names-starts_with_dollar.ended names-starts_with_dollar-reads.Post
one-names-starts_with_dollar κs a x y e f p q = p ∙ sym q

pub any-names-starts_with_dollar : Any names-starts_with_dollar.ended names-starts_with_dollar-reads.Asked
any-names-starts_with_dollar κs a = tt

pub one-names-contains_invalid_publish_char : One names-contains_invalid_publish_char.ended names-contains_invalid_publish_char-reads.Post
one-names-contains_invalid_publish_char κs a x y e f p q = p ∙ sym q

pub any-names-contains_invalid_publish_char : Any names-contains_invalid_publish_char.ended names-contains_invalid_publish_char-reads.Asked
any-names-contains_invalid_publish_char κs a = tt

pub one-patterns-validate_mqtt_wildcard : One patterns-validate_mqtt_wildcard.ended patterns-validate_mqtt_wildcard-reads.Post
one-patterns-validate_mqtt_wildcard κs a x y e f p q = p ∙ sym q

pub any-patterns-validate_mqtt_wildcard : Any patterns-validate_mqtt_wildcard.ended patterns-validate_mqtt_wildcard-reads.Asked
any-patterns-validate_mqtt_wildcard κs a = tt

pub one-patterns-PatternRefusal-number : One patterns-PatternRefusal-number.ended patterns-PatternRefusal-number-reads.Post
one-patterns-PatternRefusal-number κs a x y e f p q = p ∙ sym q

pub any-patterns-PatternRefusal-number : Any patterns-PatternRefusal-number.ended patterns-PatternRefusal-number-reads.Asked
any-patterns-PatternRefusal-number κs a = tt

pub one-patterns-check_pattern : One patterns-check_pattern.ended patterns-check_pattern-reads.Post
one-patterns-check_pattern κs a x y e f p q = check_once _ _ (p ∙ sym q)

pub any-patterns-check_pattern : Any patterns-check_pattern.ended patterns-check_pattern-reads.Asked
any-patterns-check_pattern κs a = tt

pub one-payload-compute_payload_hash : One payload-compute_payload_hash.ended payload-compute_payload_hash-reads.Post
one-payload-compute_payload_hash κs a x y e f p q = p ∙ sym q

pub any-payload-compute_payload_hash : Any payload-compute_payload_hash.ended payload-compute_payload_hash-reads.Asked
any-payload-compute_payload_hash κs a = tt

pub one-matching-matches_with : One matching-matches_with.ended matching-matches_with-reads.Post
one-matching-matches_with κs a x y e f p q = p ∙ sym q

pub any-matching-matches_with : Any matching-matches_with.ended matching-matches_with-reads.Asked
any-matching-matches_with κs a = tt

pub one-matching-matches_by : One matching-matches_by.ended matching-matches_by-reads.Post
one-matching-matches_by κs a x y e f p q = p ∙ sym q

pub any-matching-matches_by : Any matching-matches_by.ended matching-matches_by-reads.Asked
any-matching-matches_by κs a = tt

pub one-utf8-is_utf8 : One utf8-is_utf8.ended utf8-is_utf8-reads.Post
one-utf8-is_utf8 κs a x y e f p q = p ∙ sym q

pub any-utf8-is_utf8 : Any utf8-is_utf8.ended utf8-is_utf8-reads.Asked
any-utf8-is_utf8 κs a = tt

pub one-shown-is_readable : One shown-is_readable.ended shown-is_readable-reads.Post
one-shown-is_readable κs a x y e f p q = p ∙ sym q

pub any-shown-is_readable : Any shown-is_readable.ended shown-is_readable-reads.Asked
any-shown-is_readable κs a = tt

pub one-shown-shown_byte : One shown-shown_byte.ended shown-shown_byte-reads.Post
one-shown-shown_byte κs a x y e f p q = p ∙ sym q

pub any-shown-shown_byte : Any shown-shown_byte.ended shown-shown_byte-reads.Asked
any-shown-shown_byte κs a = tt

pub one-covering-find_witness : One covering-find_witness.ended covering-find_witness-reads.Post
one-covering-find_witness κs a x y e f p q = p ∙ sym q

pub any-covering-find_witness : Any covering-find_witness.ended covering-find_witness-reads.Asked
any-covering-find_witness κs a = tt

pub one-covering-covers : One covering-covers.ended covering-covers-reads.Post
one-covering-covers κs a x y e f p q = p ∙ sym q

pub any-covering-covers : Any covering-covers.ended covering-covers-reads.Asked
any-covering-covers κs a = tt

pub one-matching-is_standard : One matching-is_standard.ended matching-is_standard-reads.Post
one-matching-is_standard κs a x y e f p q = p ∙ sym q

pub any-matching-is_standard : Any matching-is_standard.ended matching-is_standard-reads.Asked
any-matching-is_standard κs a = tt
