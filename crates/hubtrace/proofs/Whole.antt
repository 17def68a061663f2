-- A buffer of `enough` bytes holds the whole answer to any text, and where the limit stands after it: neither call ends in 28 there, and the bytes that each counts are all of its text. It stands on
-- the bounds of `trace` on both texts. So they are what is answered to a text that was read to its end. Assumes nothing.
use Prim.Native.Nat.{ℕ, ◌≤◌}
use mathlib.Core.Path.{◌≡◌}
use mathlib.Core.List.{List}
use native.Mathlib.Omega.{arith}
use borrow.Author.Tests.{le-leb}
use lib.ListN.{length, take}
use Rattle.topics.specs.declared.matching.Matching.{Matching}
use Rattle.trace.specs.Standing.{standing_text, standing_end, standing_kept}
use Rattle.trace.specs.Trace.{trace_text, trace_end, trace_kept, enough}
use Rattle.trace.proofs.Bound.{trace_enough}
use Rattle.io.specs.Counts.{IsPrefixLen}
use Rattle.hubtrace.specs.Answered.{answer_to, standing_after}
use Rattle.streams.proofs.StreamLaws.{stored}
use Rattle.std.proofs.Common.{Result, Ok, ℤ}

module _ (matching : Matching) (d s : List ℕ) (h : enough ≡ length d) where
  whole : IsPrefixLen (trace_end matching (length d) s).length (trace_kept matching d s) × (take (trace_end matching (length d) s).length (trace_kept matching d s) ≡ trace_text matching s)
  unfolding trace_end trace_kept
  whole =
      let fits : length (trace_text matching s) ≤ length d = omega (arith, trace_enough matching s, h) in
      rw (le-leb _ _ fits) (stored d (trace_text matching s) fits)

  whole_standing : length (standing_text matching s) ≤ enough
      → IsPrefixLen (standing_end matching (length d) s).length (standing_kept matching d s)
      × (take (standing_end matching (length d) s).length (standing_kept matching d s) ≡ standing_text matching s)
  unfolding standing_end standing_kept
  whole_standing few =
      let fits : length (standing_text matching s) ≤ length d = omega (arith, few, h) in
      rw (le-leb _ _ fits) (stored d (standing_text matching s) fits)

module _ (matching : Matching) (d s : List ℕ) (r : Result ℕ ℤ) (k : ℕ) (h : enough ≡ length d) (e : r ≡ Ok k) where
  pub answered_whole : IsPrefixLen (trace_end matching (length d) (take k s)).length (trace_kept matching d (take k s))
      × (take (trace_end matching (length d) (take k s)).length (trace_kept matching d (take k s)) ≡ answer_to matching r s)
  unfolding answer_to
  answered_whole = rw e (whole matching d (take k s) h)

  pub stands_whole : length (standing_text matching (take k s)) ≤ enough
      → IsPrefixLen (standing_end matching (length d) (take k s)).length (standing_kept matching d (take k s))
      × (take (standing_end matching (length d) (take k s)).length (standing_kept matching d (take k s)) ≡ standing_after matching r s)
  unfolding standing_after
  stands_whole few = rw e (whole_standing matching d (take k s) h few)
