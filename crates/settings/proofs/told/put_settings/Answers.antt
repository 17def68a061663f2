-- `settings::told::put_settings` meets its contract: the head and then the rules. Assumes nothing.
use mathlib.Core.Path.{◌≡◌}
use lib.ListN.{length, take}
use Rattle.settings.specs.Refused.{found_told}
use Rattle.settings.proofs.told.TellLaws.{settings_wrote}
use Rattle.settings.proofs.told.put_settings.Goals as goal

pub returns : goal.returns
returns c =
    let found = c.args.found.now in
    let all : length (take found.values.rules found.rules) ≡ found.values.rules = rw c.counted.ensures.value at c.counted.ensures.many in
    let told = rw c.counted.ensures.value at c.put_rules_told.ensures.text in
    let short = rw (c.counted.ensures.value, all) at c.put_rules_told.ensures.short in
    let h = settings_wrote (found_told c.args.found.now) c.requires (c.put_head_told-after_head.ensures.text, c.put_head_told-after_head.ensures.short) (told, (short, all)) in
    record { text = h.0; short = h.1 }
