use mathlib.Core.Bool.{cond}
use mathlib.Core.Path.{◌≡◌, refl, sym, ap, ◌∙◌}
use Prim.Native.Nat.{ℕ, ◌+◌, ◌-◌, ◌≤◌}
use native.Mathlib.Omega.{arith}
use borrow.Author.Tests.{le-leb}
use Rattle.packets.specs.Messages.{message_told}
use Rattle.queue.proofs.several.LoopLaws.{first_calls, first_fine, none_text, never_refused, taken_within, taken_next, fits_not, fits_turn}
use Rattle.queue.proofs.several.check_room.Goals as goal
use Rattle.queue.proofs.several.check_room.Goals.{After-message}

-- one message is left, and others after it
one_more : (c : After-message) → let l = c.loop-k in
    let all = c.args.n + c.args.received.now.packet.messages in
    all - l.k ≡ all - (l.k + 1) + 1
one_more c = omega (arith, c.loop-k-test.true)

pub loop-k-init : goal.loop-k-init
loop-k-init c =
    let e : c.args.n + c.args.received.now.packet.messages - c.args.n ≡ c.args.received.now.packet.messages = omega arith in
    record { good = rw e (first_fine _ _ _ _ c.requires.read); alike = rw (e, first_calls _ _ c.args.received.now.now_us c.args.received.now.ok c.requires.read) }

pub returns-in_err-message : goal.returns-in_err-message
returns-in_err-message c =
    absurd (never_refused _ _ _ _ _ _ (one_more (goal.at.returns-in_err-message c).After-message) c.loop-k.invariant.good c.message.ensures _ (ap message_told c.in_err-message.was))

pub plan_light-plan-requires : goal.plan_light-plan-requires
plan_light-plan-requires c =
    taken_within _ _ _ _ _ _ (one_more (goal.at.plan_light-plan-requires c).After-message) c.loop-k.invariant.good (rw c.in_ok-message.was at c.message.ensures)

pub returns-then-left-need : goal.returns-then-left-need
returns-then-left-need c =
    let l = c.loop-k in
    let f = fits_not _ _ _ _ _ _ (one_more (goal.at.returns-then-left-need c).After-message) l.invariant.good (rw c.in_ok-message.was at c.message.ensures) _ l.k l.next_id l.total
    c.plan_light-plan.ensures (rw c.result.ensures at c.record_len-need.ensures.0) l.left c.if-left-need.true in
    rw (← l.invariant.alike, f)

pub loop-k-preserved : goal.loop-k-preserved
loop-k-preserved c =
    let l = c.loop-k in
    let q = one_more (goal.at.loop-k-preserved c).After-message in
    let e = rw c.in_ok-message.was at c.message.ensures in
    record {
      good = taken_next _ _ _ _ _ _ q l.invariant.good e;
      alike =
          sym (fits_turn _ _ _ _ _ _ q l.invariant.good e _ l.k l.next_id l.total c.plan_light-plan.ensures (rw c.result.ensures at c.record_len-need.ensures.0) l.left c.if-left-need.false)
          ∙ l.invariant.alike;
    }

pub returns : goal.returns
returns c =
    let l = c.loop-k in
    let z : c.args.n + c.args.received.now.packet.messages - l.k ≤ 0 = omega (arith, c.loop-k-test.false) in
    rw (← l.invariant.alike, none_text _ _ _ _ _ l.k l.next_id l.total l.step z, le-leb 0 l.left (omega arith))
