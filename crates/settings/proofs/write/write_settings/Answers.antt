-- `settings::write::write_settings` meets its contract: 10, with the buffer as it was; then what is written of its lines and rules. Assumes nothing.
use borrow.Author.Rules.{rules}
use mathlib.Core.Bool.{true, false}
use mathlib.Core.Path.{◌≡◌, ◌∙◌}
use native.Mathlib.Omega.{arith}
use Rattle.monitor.specs.State.{well_formed}
use Rattle.settings.proofs.write.WriteLaws.{not_formed, kept_refused, bare_formed, bare_written, bare_kept}
use Rattle.settings.proofs.write.write_settings.Goals as goal

pub returns-then-not-is_well_formed : goal.returns-then-not-is_well_formed
returns-then-not-is_well_formed c =
    let f : well_formed c.args.m.now ≡ false = search rules in
    let h = kept_refused c.args.form c.args.m.now (not_formed c.args.form c.args.m.now f) c.args.out.now (λ z. omega (arith, z)) in
    record { answer = h.0; buffer = h.1 }

pub write_text-requires : goal.write_text-requires
write_text-requires c =
    let f : well_formed c.args.m.now ≡ true = search rules in
    rw c.head_in.ensures (bare_formed c.args.form c.args.m.now f)

pub returns : goal.returns
returns c =
    let f : well_formed c.args.m.now ≡ true = search rules in
    let h = rw c.head_in.ensures at c.write_text.ensures in
    record { answer = h.answer ∙ bare_written c.args.form c.args.m.now f _; buffer = h.buffer ∙ bare_kept c.args.form c.args.m.now f _ }
