use Rattle.std.proofs.Common.{rules, tests, sym, ◌∙◌, ◌==◌}
use Rattle.std.proofs.lemmas.Iterator.Search.{any_from_yields_List}
use Rattle.std.proofs.lemmas.Iterator.{YieldsList-from_slice}
use Rattle.slices.proofs.bytes.StdLaws.{has_any}
use Rattle.slices.proofs.bytes.has_byte.Goals as goal

pub returns : goal.returns
returns c =
    any_from_yields_List (λ b. b == c.args.c) _ _ c.any.result c.any.ensures.ran (YieldsList-from_slice c.args.s.now (cc)) (λ x b q k. search (rules, tests))
    ∙ sym (has_any _ _)
