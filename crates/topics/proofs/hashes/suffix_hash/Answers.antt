-- `hashes::suffix_hash` meets its contract: its test is the definition's, and the slice from 32 on is what is left after 32 bytes (`tail_whole`).
-- Assumes nothing.
use Rattle.std.proofs.Common.{le-leb}
use borrow.Author.Tests.{lt-leb}
use Rattle.laws.proofs.Lists.{tail_whole}
use Rattle.topics.specs.Hashes.{suffix_hash}
use Rattle.topics.proofs.hashes.suffix_hash.Goals as goal

pub returns-then-topic-le32 : goal.returns-then-topic-le32
unfolding suffix_hash
returns-then-topic-le32 c = rw (le-leb _ _ c.if-topic-le32.true)

pub returns : goal.returns
unfolding suffix_hash
returns c = rw (lt-leb _ _ c.if-topic-le32.false, ← tail_whole _ 32) c.djb2_hash.ensures
