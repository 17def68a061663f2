-- `lines::value::hex_refusal` meets its contract: one law for each way out. Assumes nothing.
use mathlib.Core.Path.{sym, ◌∙◌}
use Rattle.lines.proofs.value.HexLaws.{hex_odd, hex_other, hex_long, hex_fits}
use Rattle.lines.proofs.value.hex_refusal.Goals as goal

pub returns-then-l-ne0 : goal.returns-then-l-ne0
returns-then-l-ne0 c = hex_odd _ _ c.if-l-ne0.true

pub returns-then-not-all_hex : goal.returns-then-not-all_hex
returns-then-not-all_hex c = hex_other _ _ (sym c.all_hex.ensures ∙ c.if-not-all_hex.true)

pub returns-then-room-l : goal.returns-then-room-l
returns-then-room-l c = hex_long _ _ c.if-l-ne0.false (sym c.all_hex.ensures ∙ c.if-not-all_hex.false) c.if-room-l.true

pub returns : goal.returns
returns c = hex_fits _ _ c.if-l-ne0.false (sym c.all_hex.ensures ∙ c.if-not-all_hex.false) c.if-room-l.false
