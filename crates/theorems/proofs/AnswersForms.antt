-- One answer for every public function of `forms`, and nothing asked of its caller (specs/One.antt). Assumes nothing.
use mathlib.Core.Path.{sym, ◌∙◌}
use Rattle.forms.specs.contracts.chain.begin as chain-begin
use Rattle.forms.proofs.chain.begin.Reads as chain-begin-reads
use Rattle.forms.specs.contracts.chain.number_after as chain-number_after
use Rattle.forms.proofs.chain.number_after.Reads as chain-number_after-reads
use Rattle.forms.specs.contracts.chain.word_after as chain-word_after
use Rattle.forms.proofs.chain.word_after.Reads as chain-word_after-reads
use Rattle.theorems.specs.One.{Any, One}

pub one-chain-begin : One chain-begin.ended chain-begin-reads.Post
one-chain-begin κs a x y e f p q = p ∙ sym q

pub any-chain-begin : Any chain-begin.ended chain-begin-reads.Asked
any-chain-begin κs a = tt

pub one-chain-number_after : One chain-number_after.ended chain-number_after-reads.Post
one-chain-number_after κs a x y e f p q = p ∙ sym q

pub any-chain-number_after : Any chain-number_after.ended chain-number_after-reads.Asked
any-chain-number_after κs a = tt

pub one-chain-word_after : One chain-word_after.ended chain-word_after-reads.Post
one-chain-word_after κs a x y e f p q = p ∙ sym q

pub any-chain-word_after : Any chain-word_after.ended chain-word_after-reads.Asked
any-chain-word_after κs a = tt
