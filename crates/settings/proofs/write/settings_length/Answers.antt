-- `settings::write::settings_length` meets its contract: 10, then what is said of its lines and rules. Assumes nothing.
use borrow.Author.Rules.{rules}
use mathlib.Core.Bool.{true, false}
use mathlib.Core.Path.{◌≡◌, ◌∙◌}
use Rattle.monitor.specs.State.{well_formed}
use Rattle.settings.proofs.write.WriteLaws.{not_formed, bare_formed, bare_length}
use Rattle.settings.proofs.write.settings_length.Goals as goal

pub returns-then-not-is_well_formed : goal.returns-then-not-is_well_formed
returns-then-not-is_well_formed c = let f : well_formed c.args.m.now ≡ false = search rules in not_formed c.args.form c.args.m.now f

pub text_length-requires : goal.text_length-requires
text_length-requires c =
    let f : well_formed c.args.m.now ≡ true = search rules in
    rw c.head_in.ensures (bare_formed c.args.form c.args.m.now f)

pub returns : goal.returns
returns c =
    let f : well_formed c.args.m.now ≡ true = search rules in
    (rw c.head_in.ensures at c.text_length.ensures) ∙ bare_length c.args.form c.args.m.now f
