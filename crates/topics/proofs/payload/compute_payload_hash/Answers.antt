use Rattle.std.proofs.Common.{sym, ◌∙◌, ap, rules, tests}
use Rattle.topics.specs.Payload.{word_bytes}
use Rattle.topics.proofs.hashes.HashLaws.{payload_none, payload_some}
use Rattle.topics.proofs.payload.compute_payload_hash.Goals as goal

pub returns-then-is_empty : goal.returns-then-is_empty
returns-then-is_empty c = sym (payload_none _ (search (rules, tests)))

pub returns : goal.returns
returns c = c.word_bytes.ensures ∙ ap word_bytes c.streams_of.ensures ∙ sym (payload_some _ (search (rules, tests)))
