-- Folds over a list, for any state and any kind of element. Assumes nothing.
use mathlib.Core.List.{List, [], ◌∷◌, foldl}

module _ {A H : Type 0} (f : H → A → H) where
  -- what is true at the start and kept by each step is true at the end
  pub fold_keeps : (P : H → Type 0) → ((h : H) (a : A) → P h → P (f h a)) → {h : H} (s : List A) → P h → P (foldl f h s)
  fold_keeps P k [] p = p
  fold_keeps P k {h = h} (a ∷ s) p = fold_keeps P k {h = f h a} s (k h a p)
