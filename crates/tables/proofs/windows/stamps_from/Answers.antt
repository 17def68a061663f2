use Rattle.std.proofs.Common.{rules, ◌∙◌, sym, ◌≡◌, leb}
use Rattle.std.specs.List.{count_by}
use Rattle.tables.proofs.windows.WindowLaws.{count_from_by}
use Rattle.tables.proofs.windows.stamps_from.Goals as goal

pub returns-clause-count : goal.returns-clause-count
returns-clause-count c =
    let e : c.count.result ≡ count_by (λ s. leb c.args.start s) c.args.stamps.now = search rules in
    e ∙ sym (count_from_by c.args.start c.args.stamps.now)
