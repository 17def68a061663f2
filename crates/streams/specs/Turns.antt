-- What a program makes of the C library's answers to `read` and `write`: which calls are made again, and what it may call all of an input or an output.
use Rattle.std.specs.Prelude.{ℕ, ◌≤◌, min, ◌≡◌, cond, ◌||◌, ◌==◌, ℤ, pos, negsuc, Result, IfOk}
use Rattle.streams.specs.declared.turn.Turn.{Turn}
use Rattle.streams.specs.declared.turn.Turn.TheVariants as turn

-- a call that moved nothing, by errno: 4 is EINTR, a signal came first; 11 is EAGAIN, the pipe was not ready. Any other is a failure
unfoldable pub missed_of : ℤ → Turn
missed_of (pos e) = cond ((e == 4) || (e == 11)) turn.Again (turn.Failed (pos e))
missed_of (negsuc e) = turn.Failed (negsuc e)

-- a call on `n` bytes, by its answer and errno
unfoldable pub turn_of : ℤ → ℤ → ℕ → Turn
turn_of (pos k) error n = turn.Moved (min k n)
turn_of (negsuc k) error n = missed_of error

-- no more bytes were moved than there were
abbrev pub Fits : Turn → ℕ → Type 0
Fits (turn.Moved k) n = k ≤ n
Fits turn.Again n = Unit {0}
Fits (turn.Failed error) n = Unit {0}

-- an input of no more bytes than there was room for, or none
abbrev pub DoneWithin : Result ℕ ℤ → ℕ → Type 0
DoneWithin r n = IfOk r (λ k. k ≤ n)

-- an output of which every byte was taken, or a failed one
abbrev pub Whole : Result ℕ ℤ → ℕ → Type 0
Whole r n = IfOk r (λ k. k ≡ n)
