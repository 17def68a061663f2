use mathlib.Core.Path.{◌≡◌, refl, sym, ap, ◌∙◌}
use Prim.Native.Nat.{ℕ, ◌+◌, ◌-◌, ◌≤◌}
use native.Mathlib.Omega.{arith}
use Rattle.monitor.specs.Runs.{shipped, after_by}
use Rattle.queue.specs.Queue.{records_from}
use Rattle.packets.specs.Messages.{message_told}
use Rattle.queue.proofs.several.LoopLaws.{first_calls, first_fine, none_records, none_after, never_refused, taken_within, taken_next, formed_turn, state_turn, going_turn, going_end}
use Rattle.queue.proofs.several.put_messages.Goals as goal
use Rattle.queue.proofs.several.put_messages.Goals.{After-message}

-- one message is left, and others after it
one_more : (c : After-message) → let l = c.loop-k in
    let all = c.args.n + c.args.received.now.packet.messages in
    all - l.k ≡ all - (l.k + 1) + 1
one_more c = omega (arith, c.loop-k-test.true)

pub loop-k-init : goal.loop-k-init
loop-k-init c =
    let r = c.args.received.now in
    let e : c.args.n + r.packet.messages - c.args.n ≡ r.packet.messages = omega arith in
    let all = first_calls r.bytes.now r.place r.now_us r.ok c.requires.read in
    record {
      good = rw e (first_fine _ _ _ _ c.requires.read);
      formed = c.requires.formed;
      going = λ f r w. rw (e, all) at w;
      state = rw (e, all);
    }

pub returns-in_err-message-clause-ok : goal.returns-in_err-message-clause-ok
returns-in_err-message-clause-ok c =
    absurd (never_refused _ _ _ _ _ _ (one_more (goal.at.returns-in_err-message-clause-ok c).After-message) c.loop-k.invariant.good c.message.ensures _ (ap message_told c.in_err-message.was))

pub returns-in_err-message-clause-state : goal.returns-in_err-message-clause-state
returns-in_err-message-clause-state c =
    absurd (never_refused _ _ _ _ _ _ (one_more (goal.at.returns-in_err-message-clause-state c).After-message) c.loop-k.invariant.good c.message.ensures _ (ap message_told c.in_err-message.was))

pub plan-plan-requires : goal.plan-plan-requires
plan-plan-requires c =
    taken_within _ _ _ _ _ _ (one_more (goal.at.plan-plan-requires c).After-message) c.loop-k.invariant.good (rw c.in_ok-message.was at c.message.ensures)

pub loop-k-preserved : goal.loop-k-preserved
loop-k-preserved c =
    let l = c.loop-k in
    let i = l.invariant in
    let q = one_more (goal.at.loop-k-preserved c).After-message in
    let e = rw c.in_ok-message.was at c.message.ensures in
    let f = c.plan-plan.ensures in
    record {
      good = taken_next _ _ _ _ _ _ q i.good e;
      formed = rw c.apply.ensures (formed_turn _ _ _ _ _ _ q i.good e l.m i.formed f);
      going = rw c.apply.ensures (going_turn _ _ _ _ _ _ q i.good e l.m i.formed f l.k i.going (rw c.result.ensures at c.put_record-end.ensures));
      state = rw c.apply.ensures (sym (state_turn _ _ _ _ _ _ q i.good e l.m i.formed f) ∙ i.state);
    }

pub returns-clause-wrote : goal.returns-clause-wrote
returns-clause-wrote c =
    let l = c.loop-k in
    let z : c.args.n + c.args.received.now.packet.messages - l.k ≤ 0 = omega (arith, c.loop-k-test.false) in
    going_end (none_records _ _ _ _ l.m l.k l.step z) l.invariant.going

pub returns-clause-state : goal.returns-clause-state
returns-clause-state c =
    let l = c.loop-k in
    let z : c.args.n + c.args.received.now.packet.messages - l.k ≤ 0 = omega (arith, c.loop-k-test.false) in
    sym (none_after _ _ _ _ l.m l.step z) ∙ l.invariant.state
