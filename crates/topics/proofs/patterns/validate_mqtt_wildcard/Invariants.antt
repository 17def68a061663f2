-- `patterns::validate_mqtt_wildcard` meets its contract. The invariant: what is left of the pattern is placed, where `fresh` says that a level begins here,
-- exactly if the whole pattern is valid. Assumes nothing.
use Rattle.std.proofs.Common.{◌≡◌, drop}
use Rattle.topics.specs.Patterns.{valid_wildcards}
use Rattle.topics.proofs.patterns.Placed.{placed}
use Rattle.topics.proofs.patterns.validate_mqtt_wildcard.Given as goal

abbrev pub invariant-loop-i : goal.invariant-loop-i
invariant-loop-i l = placed l.fresh (drop l.i l.pattern) ≡ valid_wildcards l.pattern
