-- Document 01, "Order inside one inspection": the three small tests on a topic's bytes.
-- Assumes nothing.
use Rattle.std.specs.Prelude.{ℕ, Bool, ◌||◌, List}
use Prim.Native.Char.{code}
use Rattle.slices.specs.Bytes.{bytes, same, starts_with, has}

-- exactly `#`, `+` or `+/#`
abbrev pub is_broad : List ℕ → Bool
is_broad t = same (bytes "#") t || same (bytes "+") t || same (bytes "+/#") t

-- a leading dollar
abbrev pub starts_with_dollar : List ℕ → Bool
starts_with_dollar t = starts_with (code "$") t

-- a zero byte, `+` or `#`, which no Publish may carry
abbrev pub bad_publish : List ℕ → Bool
bad_publish t = has 0 t || has (code "+") t || has (code "#") t
