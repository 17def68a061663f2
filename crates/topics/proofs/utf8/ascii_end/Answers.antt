use Rattle.std.proofs.Common.{rules, tests, ◌∙◌, not, nat_lt}
use Rattle.std.proofs.lemmas.Iterator.Search.{position_from_yields_List}
use Rattle.std.proofs.lemmas.Iterator.{YieldsList-from_slice}
use Rattle.topics.proofs.utf8.AsciiLaws.{ascii_position}
use Rattle.topics.proofs.utf8.ascii_end.Goals as goal

pub returns-clause-value : goal.returns-clause-value
returns-clause-value c =
    let h = position_from_yields_List (λ b. not (nat_lt b 0x80)) _ _ c.position.result c.position.ensures.ran (YieldsList-from_slice c.args.s.now (cc)) (λ x b q k. search (rules, tests)) in
    c.unwrap_or.ensures ∙ rw h (ascii_position c.args.s.now)
