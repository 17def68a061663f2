-- What is answered to an input, under the matcher that was asked for: the trace's text to one that was read to its end, and where the limit stands then; nothing at all to one of which reading failed.
use Rattle.std.specs.Prelude.{List, [], ℕ, take}
use Rattle.topics.specs.declared.matching.Matching.{Matching}
use Rattle.trace.specs.Standing.{standing_text}
use Rattle.trace.specs.Trace.{trace_text}
use Rattle.std.specs.Prelude.{Result, Ok, Err, ℤ}

unfoldable pub answer_to : Matching → Result ℕ ℤ → List ℕ → List ℕ
answer_to matching (Ok n) s = trace_text matching (take n s)
answer_to matching (Err error) s = []

unfoldable pub standing_after : Matching → Result ℕ ℤ → List ℕ → List ℕ
standing_after matching (Ok n) s = standing_text matching (take n s)
standing_after matching (Err error) s = []
