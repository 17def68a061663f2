-- MQTT 3.1.1, section 1.5: the fields that a packet's body is made of. A body is a chain of fields, each read behind the one before it. One that runs past the body's end, or is no
-- string where a string must stand, is broken, and so is every field behind a broken one. So a chain needs one test, at its end.
-- Assumes nothing.
use Rattle.std.specs.Prelude.{Bool, true, false, cond, not, ◌&&◌, List, ℕ, ◌+◌, ◌*◌, ◌≤◌, leb, length, get_or, Option, Some, None}
use Rattle.slices.specs.Bytes.{has}
use Rattle.lines.specs.Span.{part}
use Rattle.topics.specs.Utf8.{is_utf8}
use Rattle.packets.specs.declared.fields.Field.{Field}

-- [MQTT-1.5.3-1] the bytes of a string are well formed UTF-8, with no surrogate
-- [MQTT-1.5.3-2] U+0000 is not among its characters
-- [MQTT-1.5.3-3] U+FEFF is a character as any other
unfoldable pub is_string : List ℕ → Bool
is_string s =
    is_utf8 s
    && not (has 0 s)

-- a field: whether it is there; its number, for one that is a number; its bytes are from..next, and the next field begins at `next`
pub record ToldField : Type 0 where
  pub fine : Bool
  pub value : ℕ
  pub from : ℕ
  pub next : ℕ

-- a field that is not there
abbrev pub broken_field : ToldField
broken_field = record { fine = false; value = 0; from = 0; next = 0 }

-- a field that is there: its number, where it begins, where the next one does
abbrev pub field_of : ℕ → ℕ → ℕ → ToldField
field_of value from next = record { fine = true; value = value; from = from; next = next }

-- what the code reads, so told
abbrev pub field_told : Option Field → ToldField
field_told (Some f) = field_of f.value f.from f.next
field_told None = broken_field

-- what a chain begins with: a field without bytes
abbrev pub begin : ℕ → ToldField
begin at = field_of 0 at at

-- `n` bytes more stand behind a field
unfoldable pub room_behind : List ℕ → ToldField → ℕ → Bool
room_behind b f n = f.fine && leb (f.next + n) (length b)

-- one byte
unfoldable pub byte_field : List ℕ → ToldField → ToldField
byte_field b f = cond (room_behind b f 1) (field_of (get_or b f.next 0) f.next (f.next + 1)) broken_field

-- 1.5.2: a number of two bytes, the greater first
unfoldable pub number_field : List ℕ → ToldField → ToldField
number_field b f = cond (room_behind b f 2) (field_of (get_or b f.next 0 * 256 + get_or b (f.next + 1) 0) f.next (f.next + 2)) broken_field

-- so many bytes as the number before them says
unfoldable pub data_of : List ℕ → ToldField → ToldField
data_of b n = cond (room_behind b n n.value) (field_of 0 n.next (n.next + n.value)) broken_field

-- a length of two bytes, and so many bytes
unfoldable pub data_field : List ℕ → ToldField → ToldField
data_field b f = data_of b (number_field b f)

-- 1.5.3: such bytes that are a string
unfoldable pub string_of : List ℕ → ToldField → ToldField
string_of b d = cond (is_string (part b d.from d.next)) d broken_field

unfoldable pub string_field : List ℕ → ToldField → ToldField
string_field b f = string_of b (data_field b f)

-- a field that is there only where it is wanted
abbrev pub byte_if : Bool → List ℕ → ToldField → ToldField
byte_if wanted b f = cond wanted (byte_field b f) f

abbrev pub number_if : Bool → List ℕ → ToldField → ToldField
number_if wanted b f = cond wanted (number_field b f) f

abbrev pub data_if : Bool → List ℕ → ToldField → ToldField
data_if wanted b f = cond wanted (data_field b f) f

abbrev pub string_if : Bool → List ℕ → ToldField → ToldField
string_if wanted b f = cond wanted (string_field b f) f

-- the body ends behind a field
unfoldable pub ends_behind : List ℕ → ToldField → Bool
ends_behind b f = f.fine && leb (length b) f.next

-- a field lies in its body
pub record Inside (b : List ℕ) (f : ToldField) : Type 0 where
  pub ordered : f.from ≤ f.next
  pub ended : f.next ≤ length b
