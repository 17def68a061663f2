use Rattle.std.proofs.Common.{sym, ◌∙◌, rules}
use Rattle.lines.proofs.value.DecimalLaws.{digit_room, reading_next, decimal_spare, decimal_stop, decimal_low, decimal_value}
use Rattle.lines.proofs.value.decimal.Goals as goal

pub returns-then-not-no_spare_zero : goal.returns-then-not-no_spare_zero
returns-then-not-no_spare_zero c = decimal_spare _ _ _ (sym c.no_spare_zero.ensures ∙ c.if-not-no_spare_zero.true)

pub returns-then-not-digit_fits : goal.returns-then-not-digit_fits
returns-then-not-digit_fits c = decimal_stop _ _ _ c.loop-c.invariant.1 c.loop-c-test.true (sym c.digit_fits.ensures ∙ c.if-not-digit_fits.true)

pub overflow_mul-v : goal.overflow_mul-v
overflow_mul-v c = let h = digit_room _ _ _ (sym c.digit_fits.ensures ∙ c.if-not-digit_fits.false) in search rules

pub overflow_sub-c : goal.overflow_sub-c
overflow_sub-c c = (digit_room _ _ _ (sym c.digit_fits.ensures ∙ c.if-not-digit_fits.false)).0

pub overflow_add-v : goal.overflow_add-v
overflow_add-v c = let h = digit_room _ _ _ (sym c.digit_fits.ensures ∙ c.if-not-digit_fits.false) in search rules

pub loop-c-preserved : goal.loop-c-preserved
loop-c-preserved c =
    let f = sym c.digit_fits.ensures ∙ c.if-not-digit_fits.false in
    rw c.from.ensures ((digit_room _ _ _ f).2, reading_next _ c.loop-c.invariant.1 c.loop-c-test.true f)

pub returns-then-v-low : goal.returns-then-v-low
returns-then-v-low c = decimal_low _ _ _ c.loop-c.invariant.1 c.loop-c-test.false c.if-v-low.true

pub returns : goal.returns
returns c =
    let unspared = sym c.no_spare_zero.ensures ∙ c.if-not-no_spare_zero.false in
    decimal_value _ _ _ c.loop-c.invariant.1 unspared c.loop-c-test.false c.if-v-low.false c.loop-c.invariant.0
