-- `settings::told::turn_settings` meets its contract: a buffer that is too small keeps its bytes; else what the conversion wrote is all, or the closing lines are written. Assumes nothing.
use mathlib.Core.Path.{refl, ◌∙◌}
use Rattle.settings.proofs.refusal.KnownLaws.{never_0}
use Rattle.settings.proofs.told.TurnLaws.{turned_nothing, turned_whole, turned_refused}
use Rattle.settings.proofs.told.turn_settings.Goals as goal

pub returns-then-out-lt-ROOM : goal.returns-then-out-lt-ROOM
returns-then-out-lt-ROOM c =
    let h = turned_nothing c.args.text.now c.args.out.now c.args.form c.if-out-lt-ROOM.true in record { answer = c.nothing_told.ensures ∙ h.0; buffer = h.1.0; enough = h.1.1 }

pub returns-in-Ok : goal.returns-in-Ok
returns-in-Ok c =
    let h = turned_whole _ _ _ c.if-out-lt-ROOM.false (c.in-Ok.ensures.answer, c.in-Ok.ensures.buffer) refl in record { answer = h.0; buffer = h.1.0; enough = h.1.1 }

pub returns-in-Err : goal.returns-in-Err
returns-in-Err c =
    let h = turned_refused _ _ _ c.if-out-lt-ROOM.false (c.in-Err.ensures.answer, c.in-Err.ensures.buffer) (never_0 c.in-Err.refused.refusal)
    (c.tell_refused.ensures.text, c.tell_refused.ensures.short) in
    record { answer = c.tell_refused.ensures.ended ∙ h.0; buffer = h.1.0; enough = h.1.1 }
