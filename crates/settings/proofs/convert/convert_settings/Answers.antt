-- `settings::convert::convert_settings` meets its contract: the text's own refusal, with nothing written; else what the writing gave. Assumes nothing.
use mathlib.Core.Path.{refl}
use Rattle.std.proofs.lemmas.Result.{err_from_is_err_and}
use Rattle.settings.specs.Convert.{end_at}
use Rattle.settings.proofs.convert.ConvertLaws.{convert_refused, convert_ends}
use Rattle.settings.proofs.load.LoadedLaws.{load_reads, load_formed}
use Rattle.settings.proofs.refusal.KnownLaws.{never_0}
use Rattle.settings.proofs.convert.convert_settings.Goals as goal

pub returns-in_err-found : goal.returns-in_err-found
returns-in_err-found c =
    let p = err_from_is_err_and c.from_residual.result c.from_residual.ensures.1 in
    let h = convert_refused c.args.form c.args.out.now c.args.text.now (load_reads _ c.in_err-found.ensures) (never_0 c.in_err-found.field-0.0.refusal) in
    record { answer = rw (p.1, p.2) h.0; buffer = h.1 }

pub write_text-requires : goal.write_text-requires
write_text-requires c = load_formed _ c.in_ok-found.ensures

pub returns-in-Ok : goal.returns-in-Ok
unfolding end_at
returns-in-Ok c =
    let read = load_reads _ c.in_ok-found.ensures in
    let h = convert_ends c.args.form c.args.out.now c.args.text.now read refl c.form_meant.ensures (c.in-Ok.ensures.answer, c.in-Ok.ensures.buffer) in
    record { answer = h.0; buffer = h.1 }

pub returns-in-Err : goal.returns-in-Err
unfolding end_at
returns-in-Err c =
    let read = load_reads _ c.in_ok-found.ensures in
    let h = convert_ends c.args.form c.args.out.now c.args.text.now read refl c.form_meant.ensures (c.in-Err.ensures.answer, c.in-Err.ensures.buffer) in
    record { answer = rw c.line_for.ensures h.0; buffer = h.1 }
