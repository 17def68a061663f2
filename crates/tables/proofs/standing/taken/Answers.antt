use Rattle.std.proofs.Common.{rules, ◌∙◌, sym, ◌≡◌}
use Rattle.std.specs.List.{count_by}
use Rattle.tables.proofs.standing.StandingLaws.{taken_by}
use Rattle.tables.proofs.standing.taken.Goals as goal

pub returns : goal.returns
returns c =
    let e : c.count.result ≡ count_by (λ b. b.active) c.args.buckets.now = search rules in
    e ∙ sym (taken_by c.args.buckets.now)
