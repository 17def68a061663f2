-- What a program makes of an input that was read and of an answer that is to be written: the part of a buffer that was read, and a text at the beginning of a buffer that has room for it.
-- Assumes nothing.
use Prim.Native.Nat.{ℕ, ◌+◌, ◌≤◌}
use mathlib.Core.Path.{◌≡◌, sym, ap, ◌∙◌}
use mathlib.Core.List.{List}
use native.Mathlib.Omega.{arith}
use lib.ListN.{length, take, drop}
use lib.Seq.{sets, sets-eq, length-sets, take-append_seam, length-take-le}
use Rattle.io.specs.Counts.{IsPrefixLen}
use Rattle.io.proofs.Counting.{prefix_len_of_le}
use Rattle.streams.specs.Turns.{DoneWithin}
use Rattle.std.proofs.Common.{Result, Ok, ℤ}

-- a text that was stored at the beginning of a list that has room for it: its bytes are counted, and they are the list's first
pub stored : (d t : List ℕ) → length t ≤ length d → IsPrefixLen (length t) (sets d 0 t) × (take (length t) (sets d 0 t) ≡ t)
stored d t h =
    (prefix_len_of_le (length t) (sets d 0 t) (omega (arith, h, length-sets d 0 t)), ap (take (length t)) (sets-eq t d 0 (omega (arith, h))) ∙ take-append_seam t (drop (0 + length t) d))

-- what was read is a part of the buffer that it was read into
pub read_part : (r : Result ℕ ℤ) (k : ℕ) (s : List ℕ) → r ≡ Ok k → DoneWithin r (length s) → k ≡ length (take k s)
read_part r k s e w = let h : k ≤ length s = rw e at w in sym (length-take-le k s h)
