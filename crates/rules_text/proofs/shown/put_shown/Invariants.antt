-- `rules_text::shown::put_shown`: the bytes of `topic` up to each turn are written as they are shown. Assumes nothing.
use mathlib.Core.List.{map}
use lib.ListN.{take}
use Rattle.lines.specs.Wrote.{Wrote}
use Rattle.topics.specs.Shown.{shown_byte}
use Rattle.rules_text.proofs.shown.put_shown.Given as goal

abbrev pub invariant-loop-byte : goal.invariant-loop-byte
invariant-loop-byte l = Wrote l.initial.out l.out l.at (map (shown_byte l.whole) (take l.byte-index l.topic)) l.p
