-- `trace::standing::write_standing` meets its contract: the lines are counted, and where there is room for them written. Assumes nothing.
use mathlib.Core.Bool.{true≢false}
use mathlib.Core.List.{List}
use mathlib.Core.Path.{◌≡◌, sym, ap, ◌∙◌}
use Prim.Native.Nat.{ℕ, ◌≤◌}
use native.Mathlib.Omega.{arith}
use lib.ListN.{length}
use Rattle.trace.specs.Standing.{standing_text}
use Rattle.trace.specs.Trace.{enough}
use Rattle.trace.proofs.standing.PassLaws.{standing_seen, seen_short, stands_whole, kept_whole, stands_28, kept_28}
use Rattle.trace.proofs.standing.write_standing.Goals.{After-pass-length, After-see_all-seen}
use Rattle.trace.proofs.standing.write_standing.Goals as goal

abbrev text_at_After_pass_length : (c : After-pass-length) → List ℕ
text_at_After_pass_length c = c.args.text.now

abbrev text : (c : After-see_all-seen) → List ℕ
text c = c.args.text.now

-- the lines are counted, and are few
count : (c : After-pass-length) → let given = c.args in c.pass-length.result ≡ length (standing_text given.matching given.text.now)
count c =
    c.pass-length.ensures.next.0 ∙ ap length (standing_seen c.args.matching (text_at_After_pass_length c) c.see_all-seen.ensures)

fits : (c : After-pass-length) → let given = c.args in length (standing_text given.matching given.text.now) ≤ enough
fits c = omega (arith, count c, c.pass-length.ensures.next.1)

pub pass-length-requires : goal.pass-length-requires
pass-length-requires c = record { short = seen_short c.args.matching (text (goal.at.pass-length-requires c).After-see_all-seen) c.see_all-seen.ensures; room = λ w. absurd (true≢false (sym w)) }

pub returns-then-out-length : goal.returns-then-out-length
returns-then-out-length c = let given = c.args in
    record {
      end = stands_28 given.matching given.text.now (count (goal.at.returns-then-out-length c).After-pass-length) c.if-out-length.true;
      bytes = kept_28 given.matching given.text.now given.out.now (count (goal.at.returns-then-out-length c).After-pass-length) c.if-out-length.true;
      enough = fits (goal.at.returns-then-out-length c).After-pass-length;
    }

pub pass-requires : goal.pass-requires
pass-requires c = record {
  short = seen_short c.args.matching (text (goal.at.pass-requires c).After-see_all-seen) c.see_all-seen.ensures;
  room = λ w. omega (arith, c.pass-length.ensures.next.0, c.if-out-length.false);
}

pub returns : goal.returns
returns c = let given = c.args in record {
  end = stands_whole given.matching given.text.now c.see_all-seen.ensures (count (goal.at.returns c).After-pass-length) c.if-out-length.false;
  bytes = kept_whole given.matching given.text.now c.see_all-seen.ensures given.out.now
      (standing_seen given.matching given.text.now c.see_all-seen.ensures) (count (goal.at.returns c).After-pass-length) c.if-out-length.false c.pass.ensures.bytes;
  enough = fits (goal.at.returns c).After-pass-length;
}
