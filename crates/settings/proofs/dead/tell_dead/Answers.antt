-- `settings::dead::tell_dead` meets its contract: a buffer that is too small keeps its bytes; else what is told of the text is written. Assumes nothing.
use mathlib.Core.Path.{◌∙◌}
use Rattle.settings.specs.Kept.{not_read}
use Rattle.settings.specs.Refused.{found_told, refusal_number}
use Rattle.settings.proofs.dead.ToldDead.{few, dead_nothing, dead_told, dead_refused}
use Rattle.settings.proofs.refusal.KnownLaws.{never_0}
use Rattle.settings.proofs.dead.tell_dead.Goals as goal

pub returns-then-out-lt-ROOM : goal.returns-then-out-lt-ROOM
returns-then-out-lt-ROOM c =
    let h = dead_nothing c.args.text.now c.args.out.now c.if-out-lt-ROOM.true in record { answer = c.nothing_told.ensures ∙ h.0; buffer = h.1.0; enough = h.1.1 }

pub put_dead_rules-requires : goal.put_dead_rules-requires
put_dead_rules-requires c = few _ c.in-Ok.ensures

pub returns-in-Ok : goal.returns-in-Ok
returns-in-Ok c =
    let h = dead_told _ _ (found_told c.in-Ok.found) c.if-out-lt-ROOM.false c.in-Ok.ensures (c.put_dead_rules.ensures.text, c.put_dead_rules.ensures.short) in
    record { answer = h.0; buffer = h.1.0; enough = h.1.1 }

pub returns-in-Err : goal.returns-in-Err
returns-in-Err c =
    let r = not_read (refusal_number c.in-Err.refused.refusal) c.in-Err.refused.line in
    let h = dead_told _ _ r c.if-out-lt-ROOM.false c.in-Err.ensures
    (dead_refused r (never_0 c.in-Err.refused.refusal) (c.tell_refused.ensures.text, c.tell_refused.ensures.short)) in
    record { answer = c.tell_refused.ensures.ended ∙ h.0; buffer = h.1.0; enough = h.1.1 }
