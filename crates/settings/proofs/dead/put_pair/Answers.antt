-- `settings::dead::put_pair` meets its contract: what was found between the two rules. Assumes nothing.
use mathlib.Core.Path.{refl}
use native.Mathlib.Omega.{arith}
use Rattle.settings.specs.Refused.{found_told}
use Rattle.settings.proofs.dead.PairLaws.{pair_says, pair_taken, found_wrote, witness_short}
use Rattle.settings.proofs.dead.put_pair.Goals as goal

pub overflow_sub-last : goal.overflow_sub-last
overflow_sub-last c = omega (arith, pair_says _ _ _ c.requires.is_pair)

pub offset_bounds-found-later : goal.offset_bounds-found-later
offset_bounds-found-later c = omega (arith, pair_says _ _ _ c.requires.is_pair)

pub bounds-found-later : goal.bounds-found-later
bounds-found-later c = omega (arith, pair_says _ _ _ c.requires.is_pair)

pub overflow_sub-first : goal.overflow_sub-first
overflow_sub-first c = omega (arith, pair_says _ _ _ c.requires.is_pair)

pub offset_bounds-found-earlier : goal.offset_bounds-found-earlier
offset_bounds-found-earlier c = omega (arith, pair_says _ _ _ c.requires.is_pair)

pub bounds-found-earlier : goal.bounds-found-earlier
bounds-found-earlier c = omega (arith, pair_says _ _ _ c.requires.is_pair)

pub put_between-requires : goal.put_between-requires
put_between-requires c = witness_short _ _ _ c.rule_witness-witness.ensures

pub returns : goal.returns
returns c =
    let found = found_told c.args.found.now in
    let h = found_wrote found c.args.later c.args.earlier (pair_taken found c.args.later c.args.earlier refl c.requires.is_pair) refl c.rule_witness-witness.ensures
    (c.put_between.ensures.text, c.put_between.ensures.short) in
    record { text = h.0; short = h.1 }
