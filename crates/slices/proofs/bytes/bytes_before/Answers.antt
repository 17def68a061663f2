use Rattle.std.proofs.Common.{rules, tests, ◌==◌, ◌∙◌}
use Rattle.std.proofs.lemmas.Iterator.Search.{position_from_yields_List}
use Rattle.std.proofs.lemmas.Iterator.{YieldsList-from_slice}
use Rattle.slices.proofs.bytes.StdLaws.{to_position}
use Rattle.slices.proofs.bytes.bytes_before.Goals as goal

pub returns : goal.returns
returns c =
    let h = position_from_yields_List (λ b. b == c.args.c) _ _ c.position.result c.position.ensures.ran (YieldsList-from_slice c.args.s.now (cc)) (λ x b q k. search (rules, tests)) in
    c.unwrap_or.ensures ∙ rw h (to_position c.args.c c.args.s.now)
