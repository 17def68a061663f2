-- One answer for every public function of `rules_text`, and nothing asked of its caller (specs/One.antt). Assumes nothing.
use mathlib.Core.Path.{sym, ◌∙◌}
use Rattle.rules_text.specs.contracts.read.read_rule as read-read_rule
use Rattle.rules_text.proofs.read.read_rule.Reads as read-read_rule-reads
use Rattle.rules_text.specs.contracts.put.put_rule as put-put_rule
use Rattle.rules_text.proofs.put.put_rule.Reads as put-put_rule-reads
use Rattle.rules_text.specs.contracts.put.rule_len as put-rule_len
use Rattle.rules_text.proofs.put.rule_len.Reads as put-rule_len-reads
use Rattle.rules_text.specs.contracts.shown.put_shown as shown-put_shown
use Rattle.rules_text.proofs.shown.put_shown.Reads as shown-put_shown-reads
use Rattle.theorems.specs.One.{Any, One, OneLeft}
use Rattle.theorems.proofs.AnswersLines.{wrote_once}

pub one-read-read_rule : OneLeft read-read_rule.ended read-read_rule-reads.Post (λ κs e. e.1.1.0.now)
one-read-read_rule κs a x y e f p q = (p.0 ∙ sym q.0, p.1.1 ∙ sym q.1.1)

pub any-read-read_rule : Any read-read_rule.ended read-read_rule-reads.Asked
any-read-read_rule κs a = tt

pub one-put-put_rule : OneLeft put-put_rule.ended put-put_rule-reads.Post (λ κs e. e.0.now)
one-put-put_rule κs a x y e f p q = wrote_once p q

pub any-put-put_rule : Any put-put_rule.ended put-put_rule-reads.Asked
any-put-put_rule κs a = tt

pub one-put-rule_len : One put-rule_len.ended put-rule_len-reads.Post
one-put-rule_len κs a x y e f p q = p.0 ∙ sym q.0

pub any-put-rule_len : Any put-rule_len.ended put-rule_len-reads.Asked
any-put-rule_len κs a = tt

pub one-shown-put_shown : OneLeft shown-put_shown.ended shown-put_shown-reads.Post (λ κs e. e.0.now)
one-shown-put_shown κs a x y e f p q = wrote_once p q

pub any-shown-put_shown : Any shown-put_shown.ended shown-put_shown-reads.Asked
any-shown-put_shown κs a = tt
