-- A topic as a person reads it, beside its hex: as it is where it is UTF-8 without control characters, which MQTT 3.1.1 section 1.5.3 advises against (U+0000 to U+001F and U+007F to U+009F) and
-- which a terminal might obey; else with a dot for each byte that is not printable ASCII. It has as many bytes as the topic.
-- Assumes nothing.
use Rattle.std.specs.Prelude.{ℕ, Bool, true, cond, not, ◌&&◌, ◌||◌, List, [], ◌∷◌, map, ◌==◌, nat_le, nat_lt}
use Rattle.topics.specs.Utf8.{is_utf8}

-- the byte ends no control character: those from U+0080 on are the byte 194 and one below 160
abbrev pub fine : ℕ → ℕ → Bool
fine before b = nat_le 32 b && not (b == 127) && not (before == 194 && nat_lt b 160)

-- no control character among the bytes of a UTF-8 text, after a byte
unfoldable pub fine_after : ℕ → List ℕ → Bool
fine_after before [] = true
fine_after before (b ∷ bs) = fine before b && fine_after b bs

-- it can be shown as it is
unfoldable pub readable : List ℕ → Bool
readable s = is_utf8 s && fine_after 0 s

-- a byte as it is shown, of a text that can be shown as it is or not: 46 is the dot
abbrev pub shown_byte : Bool → ℕ → ℕ
shown_byte whole b = cond (whole || nat_le 32 b && nat_le b 126) b 46

unfoldable pub shown : List ℕ → List ℕ
shown s = map (shown_byte (readable s)) s
