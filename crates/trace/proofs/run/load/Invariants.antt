-- What is left of the rules, loaded after the lines that were read, is what the text loads. Assumes nothing.
use Prim.Native.Nat.{◌-◌}
use Rattle.trace.proofs.run.LoadLaws.{Loading}
use Rattle.trace.proofs.run.load.Given as goal

abbrev pub invariant-loop-rule : goal.invariant-loop-rule
invariant-loop-rule l = Loading l.fn.matching l.text (l._rule-end - l._rule) l.place l.m
