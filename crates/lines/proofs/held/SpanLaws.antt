-- Laws of lines: where one begins and ends, for whoever reads it. Assumes nothing.
use Prim.Native.Nat.{ℕ, ◌≤◌, ◌<◌}
use mathlib.Core.Path.{◌≡◌}
use mathlib.Core.Bool.{true}
use mathlib.Core.List.{List}
use native.Mathlib.Omega.{arith}
use lib.ListN.{length}
use borrow.Author.Tests.{ltb-true}
use Rattle.slices.specs.Bytes.{find_byte}
use Rattle.slices.proofs.bytes.PlaceLaws.{place_within}
use Rattle.lines.specs.Span.{span_of}

module _ (s : List ℕ) (at : ℕ) where
  -- a line lies in its text
  pub span_within : ((span_of s at).from ≤ (span_of s at).to) × ((span_of s at).to ≤ length s)
  unfolding span_of
  span_within = place_within 10 s at

  -- a whole line begins at its place, and its LF is inside
  pub span_whole : (span_of s at).whole ≡ true → ((span_of s at).from ≡ at) × ((span_of s at).to < length s)
  unfolding span_of
  span_whole e =
      let h : find_byte 10 s at < length s = ltb-true _ _ e in
      (omega (arith, place_within 10 s at), h)
