-- `settings::write::text_length` meets its contract: what refuses the form; else the lengths of the lines before the rules and of the rules. Assumes nothing.
use mathlib.Core.Path.{◌≡◌, refl}
use native.Mathlib.Omega.{arith}
use lib.ListN.{length, take}
use Rattle.std.proofs.lemmas.Result.{err_from_is_err_and}
use Rattle.monitor.specs.Calls.{fresh}
use Rattle.monitor.proofs.state.FormedLaws.{formed_parts}
use Rattle.settings.specs.Refused.{monitor_by}
use Rattle.settings.specs.SettingsText.{form_refusal}
use Rattle.settings.proofs.refusal.KnownLaws.{never_0}
use Rattle.settings.proofs.write.WriteLaws.{settings_sum, not_taken}
use Rattle.settings.proofs.write.text_length.Goals as goal

pub returns-in_err-check_form : goal.returns-in_err-check_form
unfolding fresh
returns-in_err-check_form c =
    let p = err_from_is_err_and c.from_residual.result c.from_residual.ensures.1 in
    rw (p.1, p.2)
    (not_taken c.args.head.now.form (monitor_by c.args.head.now c.args.rules.now) c.requires c.in_err-check_form.ensures (never_0 c.in_err-check_form.field-0.0))

pub counted-requires : goal.counted-requires
counted-requires c = (formed_parts (monitor_by c.args.head.now c.args.rules.now) c.requires).count

pub rules_len-requires : goal.rules_len-requires
rules_len-requires c = omega (arith, c.counted.ensures.many, (formed_parts (monitor_by c.args.head.now c.args.rules.now) c.requires).count)

pub returns : goal.returns
unfolding fresh
returns c =
    let head = c.args.head.now in
    let rules = c.args.rules.now in
    let many : length (take head.rules rules) ≡ head.rules = rw c.counted.ensures.value at c.counted.ensures.many in
    let e : 0 ≡ form_refusal head.form head.matching = c.in_ok-check_form.ensures in
    settings_sum head.form (monitor_by head rules) many c.requires e refl c.head_len.ensures.value (rw c.counted.ensures.value at c.rules_len.ensures.value)
