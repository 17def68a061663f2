-- The two lower halves of demand 3, which follow from the exact one and the upper half (proofs/Follows.antt), under any matcher. Assumes nothing.
use mathlib.Core.Bool.{Bool}
use mathlib.Core.List.{List, ◌∷◌, ◌++◌}
use mathlib.Core.Path.{refl}
use Prim.Native.Nat.{ℕ}
use Rattle.laws.proofs.Cases.{by}
use Rattle.tables.specs.declared.identity.Id.{Id}
use Rattle.monitor.specs.declared.state.MqttMonitor.{MqttMonitor}
use Rattle.monitor.specs.Runs.{Call, answer, after}
use Rattle.monitor.proofs.Replies.{after_two}
use Rattle.theorems.specs.Limits.{LowerFirst, LowerLater}
use Rattle.theorems.specs.Run.{Matcher, is_allowed, rate_of, reaches, allowed_of}
use Rattle.theorems.proofs.Cuts.{rate_silent}
use Rattle.theorems.proofs.Follows.{Counts, first_room, later_room}
use Rattle.theorems.proofs.LowerExact.{allowed_last, lower_exact}
use Rattle.theorems.proofs.Turns.{Like, rate_like, on_run, begin}
use Rattle.theorems.proofs.Upper.{upper}

module _ (matcher : Matcher) (m : MqttMonitor) (x : Id) where
  -- the verdicts of a run, and what is counted of it
  abbrev verdict : List Call → Call → Bool
  verdict before z = is_allowed matcher (after matcher m before) z

  abbrev count : List Call → List Call → ℕ
  count earlier = allowed_of matcher (after matcher m earlier) x

  counts : Like m m → Counts matcher m x verdict count
  unfolding allowed_of reaches
  counts k =
      record {
        none = λ past. refl;
        last =
            λ past cs c.
            rw (after_two (answer matcher) m past cs, ← rate_like matcher (on_run matcher (on_run matcher k past) cs) c)
            (allowed_last matcher (after matcher m past) x cs c);
      }

pub lower_first : LowerFirst
lower_first matcher m p x before z o h s rz =
    by (verdict matcher m x before z)
    (λ e. e)
    (λ e.
    absurd
    (first_room matcher m x (verdict matcher m x) (count matcher m x) s
    (lower_exact matcher m p x (rate_of matcher m z) before z o h (rate_silent s z refl) rz e)))

pub lower_later : LowerLater
lower_later matcher m p x R before between y z o h u ry s rz g =
    by (verdict matcher m x (before ++ y ∷ between) z)
    (λ e. e)
    (λ e.
    absurd
    (later_room matcher m x (verdict matcher m x) (count matcher m x) (counts matcher m x (begin p)) (upper matcher m p x) R y z between ry s g
    before o u (lower_exact matcher m p x R (before ++ y ∷ between) z o h u rz e)))
