-- One answer for every public function of `cut`, and nothing asked of its caller (specs/One.antt). Where a part of the text is handed back, its bytes are meant. Assumes nothing.
use mathlib.Core.Path.{refl, sym, ◌∙◌}
use Rattle.cut.specs.contracts.before as before
use Rattle.cut.proofs.before.Reads as before-reads
use Rattle.cut.specs.contracts.after as after
use Rattle.cut.proofs.after.Reads as after-reads
use Rattle.cut.specs.contracts.upto as upto
use Rattle.cut.proofs.upto.Reads as upto-reads
use Rattle.cut.specs.contracts.args.rest as args-rest
use Rattle.cut.proofs.args.rest.Reads as args-rest-reads
use Rattle.cut.specs.contracts.args.field as args-field
use Rattle.cut.proofs.args.field.Reads as args-field-reads
use Rattle.cut.specs.contracts.args.is as args-is
use Rattle.cut.proofs.args.is.Reads as args-is-reads
use Rattle.cut.specs.contracts.args.arg as args-arg
use Rattle.cut.proofs.args.arg.Reads as args-arg-reads
use Rattle.cut.specs.contracts.args.number as args-number
use Rattle.cut.proofs.args.number.Reads as args-number-reads
use Rattle.cut.specs.contracts.args.place as args-place
use Rattle.cut.proofs.args.place.Reads as args-place-reads
use Rattle.cut.specs.contracts.args.flag as args-flag
use Rattle.cut.proofs.args.flag.Reads as args-flag-reads
use Rattle.cut.specs.contracts.args.size as args-size
use Rattle.cut.proofs.args.size.Reads as args-size-reads
use Rattle.cut.specs.contracts.args.unhex as args-unhex
use Rattle.cut.proofs.args.unhex.Reads as args-unhex-reads
use Rattle.cut.specs.contracts.swap.swap as swap-swap
use Rattle.cut.proofs.swap.swap.Reads as swap-swap-reads
use Rattle.theorems.specs.One.{Any, One, OneLeft, OneRead}

pub one-before : OneRead before.ended before-reads.Post (λ κs x. x.now)
one-before κs a x y e f p q = p ∙ sym q

pub any-before : Any before.ended before-reads.Asked
any-before κs a = tt

pub one-after : OneRead after.ended after-reads.Post (λ κs x. x.now)
one-after κs a x y e f p q = p.0 ∙ sym q.0

pub any-after : Any after.ended after-reads.Asked
any-after κs a = tt

pub one-upto : OneRead upto.ended upto-reads.Post (λ κs x. x.now)
one-upto κs a x y e f p q = p ∙ sym q

pub any-upto : Any upto.ended upto-reads.Asked
any-upto κs a = tt

pub one-args-rest : OneRead args-rest.ended args-rest-reads.Post (λ κs x. x.now)
one-args-rest κs a x y e f p q = p ∙ sym q

pub any-args-rest : Any args-rest.ended args-rest-reads.Asked
any-args-rest κs a = tt

pub one-args-field : OneRead args-field.ended args-field-reads.Post (λ κs x. x.now)
one-args-field κs a x y e f p q = p ∙ sym q

pub any-args-field : Any args-field.ended args-field-reads.Asked
any-args-field κs a = tt

pub one-args-is : One args-is.ended args-is-reads.Post
one-args-is κs a x y e f p q = p ∙ sym q

pub any-args-is : Any args-is.ended args-is-reads.Asked
any-args-is κs a = tt

pub one-args-arg : OneRead args-arg.ended args-arg-reads.Post (λ κs x. x.now)
one-args-arg κs a x y e f p q = p ∙ sym q

pub any-args-arg : Any args-arg.ended args-arg-reads.Asked
any-args-arg κs a = tt

pub one-args-number : One args-number.ended args-number-reads.Post
one-args-number κs a x y e f p q = p ∙ sym q

pub any-args-number : Any args-number.ended args-number-reads.Asked
any-args-number κs a = tt

pub one-args-place : One args-place.ended args-place-reads.Post
one-args-place κs a x y e f p q = p ∙ sym q

pub any-args-place : Any args-place.ended args-place-reads.Asked
any-args-place κs a = tt

pub one-args-flag : One args-flag.ended args-flag-reads.Post
one-args-flag κs a x y e f p q = p ∙ sym q

pub any-args-flag : Any args-flag.ended args-flag-reads.Asked
any-args-flag κs a = tt

pub one-args-size : One args-size.ended args-size-reads.Post
one-args-size κs a x y e f p q = p.0 ∙ sym q.0

pub any-args-size : Any args-size.ended args-size-reads.Asked
any-args-size κs a = tt

pub one-args-unhex : OneLeft args-unhex.ended args-unhex-reads.Post (λ κs e. e.1.1.0.now)
one-args-unhex κs a x y e f p q = (p.0 ∙ sym q.0, p.1 ∙ sym q.1)

pub any-args-unhex : Any args-unhex.ended args-unhex-reads.Asked
any-args-unhex κs a = tt

pub one-swap-swap : OneLeft swap-swap.ended swap-swap-reads.Post (λ κs e. e.0.now)
one-swap-swap κs a x y e f p q = (refl, p ∙ sym q)

pub any-swap-swap : Any swap-swap.ended swap-swap-reads.Asked
any-swap-swap κs a = tt
