-- `matching::walk` meets its contract. The invariant: what is left of the topic under what is left of the pattern answers as the whole; the measure:
-- the pattern's bytes left. Assumes nothing.
use Rattle.std.proofs.Common.{ℕ, Bool, List, ◌≡◌, ◌-◌, ◌≤◌, length, drop}
use Rattle.topics.specs.Matching.{match_bytes}
use Rattle.topics.proofs.matching.walk.Given as goal

pub record Walked (empty_last : Bool) (topic pattern : List ℕ) (ti pi : ℕ) : Type 0 where
  pub in_topic : ti ≤ length topic
  pub in_pattern : pi ≤ length pattern
  pub same : match_bytes empty_last (drop ti topic) (drop pi pattern) ≡ match_bytes empty_last topic pattern

abbrev pub invariant-loop-ti : goal.invariant-loop-ti
invariant-loop-ti l = Walked l.empty_last l.topic l.pattern l.ti l.pi

abbrev pub decreases-loop-ti : goal.decreases-loop-ti
decreases-loop-ti l = length l.pattern - l.pi
