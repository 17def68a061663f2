-- `settings::write::write_text` meets its contract: the refusals of the length, then 28, each with the buffer as it was; else the text stands at its beginning. Assumes nothing.
use mathlib.Core.Path.{◌≡◌, refl}
use lib.ListN.{length, take}
use Rattle.std.proofs.lemmas.Result.{err_from_is_err_and}
use Rattle.monitor.specs.Calls.{fresh}
use Rattle.monitor.proofs.state.FormedLaws.{formed_parts}
use Rattle.settings.specs.Refused.{monitor_by}
use Rattle.settings.proofs.refusal.KnownLaws.{never_0}
use Rattle.settings.proofs.write.WriteLaws.{settings_wrote, kept_refused, kept_short, kept_written}
use Rattle.settings.proofs.write.write_text.Goals as goal

pub returns-in_err-wanted : goal.returns-in_err-wanted
returns-in_err-wanted c =
    let m = monitor_by c.args.head.now c.args.rules.now in
    let p = err_from_is_err_and c.from_residual.result c.from_residual.ensures.1 in
    let h = kept_refused c.args.head.now.form m c.in_err-wanted.ensures c.args.out.now (never_0 c.in_err-wanted.field-0.0) in
    record { answer = rw (p.1, p.2) h.0; buffer = h.1 }

pub returns-then-out-wanted : goal.returns-then-out-wanted
returns-then-out-wanted c =
    let m = monitor_by c.args.head.now c.args.rules.now in
    let h = kept_short c.args.head.now.form m c.in_ok-wanted.ensures c.args.out.now c.if-out-wanted.true in record { answer = h.0; buffer = h.1 }

pub counted-requires : goal.counted-requires
counted-requires c = (formed_parts (monitor_by c.args.head.now c.args.rules.now) c.requires).count

pub returns : goal.returns
unfolding fresh
returns c =
    let head = c.args.head.now in
    let rules = c.args.rules.now in
    let m = monitor_by head rules in
    let many : length (take head.rules rules) ≡ head.rules = rw c.counted.ensures.value at c.counted.ensures.many in
    let h = kept_written head.form m c.in_ok-wanted.ensures c.args.out.now refl c.if-out-wanted.false
    (settings_wrote head.form m many c.requires c.put_head-next.ensures (rw c.counted.ensures.value at c.put_rules.ensures)) in
    record { answer = h.0; buffer = h.1 }
