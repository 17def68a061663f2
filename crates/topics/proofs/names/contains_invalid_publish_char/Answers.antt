use Rattle.std.proofs.Common.{rules, tests, sym, ◌∙◌, [], ◌∷◌}
use Rattle.std.proofs.lemmas.Iterator.Search.{any_from_yields_List}
use Rattle.std.proofs.lemmas.Iterator.{YieldsList-from_slice}
use Rattle.topics.specs.Names.{bad_publish}
use Rattle.topics.proofs.names.NameLaws.{bad_any}
use Rattle.topics.proofs.names.contains_invalid_publish_char.Goals as goal

pub returns : goal.returns
returns c =
    any_from_yields_List (λ b. bad_publish (b ∷ [])) _ _ c.any.result c.any.ensures.ran (YieldsList-from_slice c.args.topic.now (cc)) (λ x b q k. search (rules, tests))
    ∙ sym (bad_any _)
