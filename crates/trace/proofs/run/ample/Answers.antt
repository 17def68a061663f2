-- `trace::run::ample` meets its contract: to be at most a twelfth is to have twelve times as much in it. Assumes nothing.
use Prim.Native.Nat.{ℕ, ◌*◌, ◌/◌}
use mathlib.Core.Path.{◌≡◌}
use native.Mathlib.Omega.{arith}
use lib.Dec.{leb}
use borrow.Author.Tests.{le-leb, lt-leb}
use Rattle.laws.proofs.Cases.{by_le}
use Rattle.trace.proofs.run.ample.Goals as goal

twelfth : (bytes room : ℕ) → leb bytes (room / 12) ≡ leb (12 * bytes) room
twelfth bytes room =
    by_le bytes (room / 12)
    (λ h. rw (le-leb _ _ h, le-leb (12 * bytes) room (omega arith)))
    (λ h. rw (lt-leb _ _ h, lt-leb (12 * bytes) room (omega arith)))

pub returns-then-room-lt109 : goal.returns-then-room-lt109
returns-then-room-lt109 c = rw (lt-leb _ _ c.if-room-lt109.true)

pub returns : goal.returns
returns c = rw (le-leb _ _ c.if-room-lt109.false, twelfth)
