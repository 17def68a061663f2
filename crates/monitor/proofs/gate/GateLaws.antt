-- Where no rule takes a topic, the search ends where the rules do. Assumes nothing.
use mathlib.Core.Bool.{Bool, ◌&&◌}
use mathlib.Core.List.{List}
use mathlib.Core.Path.{◌≡◌}
use Prim.Native.Nat.{ℕ, ◌≤◌, min}
use native.Mathlib.Omega.{arith}
use borrow.Author.Tests.{le-ltb}
use lib.ListN.{length, take, length-take}
use Rattle.tables.specs.Rules.{first_rule, pattern_of}
use Rattle.tables.specs.Scan.{find}
use Rattle.tables.specs.declared.rules.TopicAction.{TopicAction}
use Rattle.tables.specs.declared.rules.TopicRule.{TopicRule}
use Rattle.tables.proofs.ScanLaws.{find-le}
use Rattle.monitor.specs.Gate.{ruled_by_default, ruling_of}
use Rattle.monitor.specs.declared.gate.Ruling.{Ruling}

-- so the default rules, from that place
pub ruled_none : (matcher : List ℕ → List ℕ → Bool) (rules : List TopicRule) (n : ℕ) (default : TopicAction) (topic : List ℕ) {r : Ruling} → length rules ≡ 32
    → min n 32 ≤ first_rule matcher topic rules n → r ≡ ruled_by_default default (min n 32) → r ≡ ruling_of matcher rules n default topic
unfolding ruling_of first_rule
ruled_none matcher rules n default topic full none e =
    let p : TopicRule → Bool = λ x. x.active && matcher topic (pattern_of x) in
    let end : find p (take n rules) ≡ min n 32 = omega (arith, none, find-le p (take n rules), length-take n rules, full) in
    rw (le-ltb _ _ none, end) e
