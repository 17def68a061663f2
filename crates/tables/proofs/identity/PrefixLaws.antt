-- An identity has 32 first bytes, so that more than 32 are never compared. Assumes nothing.
use Rattle.std.proofs.Common.{◌≡◌, ◌∙◌, List, ℕ, min, take, length, ap, sym}
use Rattle.std.proofs.lemmas.List.{take_min}

pub take_min_32 : (n : ℕ) (bytes : List ℕ) → length bytes ≡ 32 → take (min n 32) bytes ≡ take n bytes
take_min_32 n bytes e = ap (λ k. take (min n k) bytes) (sym e) ∙ take_min n bytes
