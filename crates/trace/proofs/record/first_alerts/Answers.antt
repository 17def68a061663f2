use Prim.Native.Nat.{ℕ, min}
use mathlib.Core.List.{List}
use mathlib.Core.Path.{◌≡◌}
use native.Mathlib.Omega.{arith}
use lib.Dec.{leb}
use lib.ListN.{length, take}
use lib.Seq.{take_all}
use borrow.Author.Rules.{rules}
use borrow.Author.Tests.{leb-true, leb-false}
use Rattle.laws.proofs.Cases.{by}
use Rattle.monitor.specs.declared.alerts.SecurityAlert.{SecurityAlert}
use Rattle.trace.proofs.record.first_alerts.Goals as goal

-- no more than there are
up_to : (l : List SecurityAlert) (n : ℕ) → length l ≡ 4 → take (min n 4) l ≡ take n l
up_to l n e =
    by (leb n 4)
    (λ t. let m : min n 4 ≡ n = omega (arith, leb-true n 4 t) in rw m)
    (λ t. let f = leb-false n 4 t in rw (take_all (min n 4) l (omega (arith, e, f)), take_all n l (omega (arith, e, f))))

pub returns-clause-first : goal.returns-clause-first
returns-clause-first c =
    let l : length c.args.alerts.now ≡ 4 = search rules in
    rw (c.min.ensures, c.from.ensures) (up_to c.args.alerts.now c.args.count l)
