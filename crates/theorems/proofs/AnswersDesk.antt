-- Each promise of `desk` leaves one answer and asks nothing (specs/One.antt). Assumes nothing.
use mathlib.Core.Path.{sym, ◌∙◌}
use Rattle.desk.specs.contracts.standing.hub_standing as standing-hub_standing
use Rattle.desk.proofs.standing.hub_standing.Reads as standing-hub_standing-reads
use Rattle.desk.specs.contracts.standing.hub_standing_standard as standing-hub_standing_standard
use Rattle.desk.proofs.standing.hub_standing_standard.Reads as standing-hub_standing_standard-reads
use Rattle.desk.specs.contracts.covering.hub_covers as covering-hub_covers
use Rattle.desk.proofs.covering.hub_covers.Reads as covering-hub_covers-reads
use Rattle.desk.specs.contracts.covering.hub_witness as covering-hub_witness
use Rattle.desk.proofs.covering.hub_witness.Reads as covering-hub_witness-reads
use Rattle.theorems.specs.One.{Any, One, OneLeft}

pub one-standing-hub_standing : OneLeft standing-hub_standing.ended standing-hub_standing-reads.Post (λ κs e. e.1.0.now)
one-standing-hub_standing κs a x y e f p q = (p.0 ∙ sym q.0, p.1 ∙ sym q.1)

pub any-standing-hub_standing : Any standing-hub_standing.ended standing-hub_standing-reads.Asked
any-standing-hub_standing κs a = tt

pub one-standing-hub_standing_standard : OneLeft standing-hub_standing_standard.ended standing-hub_standing_standard-reads.Post (λ κs e. e.1.0.now)
one-standing-hub_standing_standard κs a x y e f p q = (p.0 ∙ sym q.0, p.1 ∙ sym q.1)

pub any-standing-hub_standing_standard : Any standing-hub_standing_standard.ended standing-hub_standing_standard-reads.Asked
any-standing-hub_standing_standard κs a = tt

pub one-covering-hub_covers : One covering-hub_covers.ended covering-hub_covers-reads.Post
one-covering-hub_covers κs a x y e f p q = p ∙ sym q

pub any-covering-hub_covers : Any covering-hub_covers.ended covering-hub_covers-reads.Asked
any-covering-hub_covers κs a = tt

pub one-covering-hub_witness : One covering-hub_witness.ended covering-hub_witness-reads.Post
one-covering-hub_witness κs a x y e f p q = p ∙ sym q

pub any-covering-hub_witness : Any covering-hub_witness.ended covering-hub_witness-reads.Asked
any-covering-hub_witness κs a = tt
