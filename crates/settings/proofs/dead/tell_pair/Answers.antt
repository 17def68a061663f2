-- `settings::dead::tell_pair` meets its contract: a buffer that is too small keeps its bytes; else what is told of the two rules is written. Assumes nothing.
use mathlib.Core.Path.{◌≡◌, refl, ◌∙◌}
use mathlib.Core.Bool.{true, false}
use native.Mathlib.Omega.{arith}
use borrow.Author.Rules.{rules}
use Rattle.settings.specs.Dead.{is_pair}
use Rattle.settings.specs.Kept.{not_read}
use Rattle.settings.specs.Refused.{found_told, refusal_number}
use Rattle.settings.proofs.dead.PairLaws.{pair_refused, pair_taken, pair_no, refused_wrote}
use Rattle.settings.proofs.dead.ToldDead.{few, pair_nothing, pair_told}
use Rattle.settings.proofs.refusal.KnownLaws.{never_0}
use Rattle.settings.proofs.dead.tell_pair.Goals as goal

pub returns-then-out-lt-ROOM : goal.returns-then-out-lt-ROOM
returns-then-out-lt-ROOM c =
    let h = pair_nothing c.args.later c.args.earlier c.args.text.now c.args.out.now c.if-out-lt-ROOM.true in
    record { answer = c.nothing_told.ensures ∙ h.0; buffer = h.1.0; enough = h.1.1 }

pub returns-then-not-is_pair : goal.returns-then-not-is_pair
returns-then-not-is_pair c =
    let r = found_told c.in-Ok.found in
    let f : is_pair c.from.result c.args.later c.args.earlier ≡ false = search rules in
    let n = pair_no r c.args.later c.args.earlier refl (rw c.from.ensures at f) in
    let h = pair_told c.args.later c.args.earlier _ _ r c.if-out-lt-ROOM.false c.in-Ok.ensures n
    (refused_wrote r c.args.later c.args.earlier n (λ z. omega (arith, z)) (c.tell_closing.ensures.text, c.tell_closing.ensures.short)) in
    record { answer = c.tell_closing.ensures.ended ∙ h.0; buffer = h.1.0; enough = h.1.1 }

pub put_pair-requires : goal.put_pair-requires
put_pair-requires c =
    let f : is_pair c.from.result c.args.later c.args.earlier ≡ true = search rules in
    record { is_pair = rw c.from.ensures at f; rule_count_bound = few _ c.in-Ok.ensures }

pub returns-else-not-is_pair : goal.returns-else-not-is_pair
returns-else-not-is_pair c =
    let r = found_told c.in-Ok.found in
    let f : is_pair c.from.result c.args.later c.args.earlier ≡ true = search rules in
    let n = pair_taken r c.args.later c.args.earlier refl (rw c.from.ensures at f) in
    let h = pair_told c.args.later c.args.earlier _ _ r c.if-out-lt-ROOM.false c.in-Ok.ensures n (c.put_pair.ensures.text, c.put_pair.ensures.short) in
    record { answer = h.0; buffer = h.1.0; enough = h.1.1 }

pub returns-in-Err : goal.returns-in-Err
returns-in-Err c =
    let r = not_read (refusal_number c.in-Err.refused.refusal) c.in-Err.refused.line in
    let n = pair_refused r c.args.later c.args.earlier (never_0 c.in-Err.refused.refusal) in
    let h = pair_told c.args.later c.args.earlier _ _ r c.if-out-lt-ROOM.false c.in-Err.ensures n
    (refused_wrote r c.args.later c.args.earlier n (never_0 c.in-Err.refused.refusal)
    (c.tell_refused.ensures.text, c.tell_refused.ensures.short)) in
    record { answer = c.tell_refused.ensures.ended ∙ h.0; buffer = h.1.0; enough = h.1.1 }
