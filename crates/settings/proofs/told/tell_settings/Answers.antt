-- `settings::told::tell_settings` meets its contract: a buffer that is too small keeps its bytes; else the closing lines are written, and the settings of a text that was read. Assumes nothing.
use mathlib.Core.Path.{refl, ◌∙◌}
use Rattle.settings.specs.Kept.{not_read}
use Rattle.settings.specs.Refused.{found_told, refusal_number}
use Rattle.settings.proofs.dead.ToldDead.{few}
use Rattle.settings.proofs.refusal.KnownLaws.{never_0}
use Rattle.settings.proofs.told.TellLaws.{told_nothing, told_refused, told_accepted}
use Rattle.settings.proofs.told.tell_settings.Goals as goal

pub returns-then-out-lt-ROOM : goal.returns-then-out-lt-ROOM
returns-then-out-lt-ROOM c =
    let h = told_nothing c.args.text.now c.args.out.now c.if-out-lt-ROOM.true in record { answer = c.nothing_told.ensures ∙ h.0; buffer = h.1.0; enough = h.1.1 }

pub put_settings-requires : goal.put_settings-requires
put_settings-requires c = few _ c.in-Ok.ensures

pub returns-in-Ok : goal.returns-in-Ok
returns-in-Ok c =
    let h = told_accepted _ _ c.if-out-lt-ROOM.false (found_told c.in-Ok.found) c.in-Ok.ensures refl (c.put_closing-after_closing.ensures.text, c.put_closing-after_closing.ensures.short)
    (c.put_settings.ensures.text, c.put_settings.ensures.short) in
    record { answer = h.0; buffer = h.1.0; enough = h.1.1 }

pub returns-in-Err : goal.returns-in-Err
returns-in-Err c =
    let e = c.in-Err.refused in
    let h = told_refused _ _ c.if-out-lt-ROOM.false (not_read (refusal_number e.refusal) e.line) c.in-Err.ensures (never_0 e.refusal)
    (c.tell_refused.ensures.text, c.tell_refused.ensures.short) in
    record { answer = c.tell_refused.ensures.ended ∙ h.0; buffer = h.1.0; enough = h.1.1 }
