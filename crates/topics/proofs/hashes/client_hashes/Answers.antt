use Rattle.std.proofs.Common.{sym, rules, tests}
use Rattle.topics.proofs.hashes.HashLaws.{client_none, client_some}
use Rattle.topics.proofs.hashes.client_hashes.Goals as goal

pub returns-then-is_empty : goal.returns-then-is_empty
returns-then-is_empty c = sym (client_none _ (search (rules, tests)))

pub returns : goal.returns
returns c = rw (c.fnv1a_hash.ensures, c.djb2_hash.ensures) (sym (client_some _ (search (rules, tests))))
