-- Laws of a CONNECT: one whose variable header was found good has its ten bytes; and nothing stands behind a client id that is not there. Assumes nothing.
use mathlib.Core.Bool.{Bool, true, ◌&&◌}
use mathlib.Core.List.{List, ◌∷◌}
use mathlib.Core.Path.{◌≡◌}
use Prim.Native.Nat.{ℕ, ◌≤◌}
use lib.Dec.{eqb, leb}
use lib.ListN.{length, get_or}
use borrow.Author.Tests.{leb-true}
use Rattle.laws.proofs.Tests.{both}
use Rattle.slices.specs.Bytes.{bytes, begins}
use Rattle.packets.specs.Connect.{is_set, connect_head, connect_tail}
use Rattle.packets.specs.Fields.{broken_field}
use Rattle.packets.proofs.fields.FieldLaws.{data_if_broken, string_if_broken}

pub head_long : (level : ℕ) (b : List ℕ) → connect_head level b ≡ true → 10 ≤ length b
unfolding connect_head
head_long level b e =
    let name : Bool = begins (0 ∷ 4 ∷ bytes "MQTT") b in
    leb-true 10 (length b) (both (leb 10 (length b)) name (both (leb 10 (length b) && name) (eqb (get_or b 6 0) level) e).0).0

pub no_tail : (f : ℕ) (b : List ℕ) → connect_tail f b broken_field ≡ broken_field
unfolding connect_tail
no_tail f b =
    rw (string_if_broken b (is_set 4 f), data_if_broken b (is_set 4 f), string_if_broken b (is_set 128 f), data_if_broken b (is_set 64 f))
