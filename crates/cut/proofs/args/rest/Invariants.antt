-- `cut::args::rest` meets its contract. The invariant: what is left after as many fields as are still to pass. Assumes nothing.
use Prim.Native.Nat.{◌-◌}
use mathlib.Core.Path.{◌≡◌}
use Rattle.cut.specs.Args.{rest_of}
use Rattle.cut.proofs.args.rest.Given as goal

abbrev pub invariant-loop : goal.invariant-loop
invariant-loop l = rest_of (l.k - l.counter) l.left ≡ rest_of l.k l.q
