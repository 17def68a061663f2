use Rattle.std.proofs.Common.{rules, tests, sym, ◌∙◌}
use Rattle.std.proofs.lemmas.Iterator.Search.{all_from_yields_List}
use Rattle.std.proofs.lemmas.Iterator.{YieldsList-from_slice}
use Rattle.laws.proofs.Every.{list_all_every}
use Rattle.lines.specs.ReadHex.{is_hex}
use Rattle.lines.proofs.value.all_hex.Goals as goal

pub returns : goal.returns
returns c =
    all_from_yields_List is_hex _ _ c.all.result c.all.ensures.ran (YieldsList-from_slice c.args.l.now (cc)) (λ x b q k. search (rules, tests))
    ∙ list_all_every is_hex _
