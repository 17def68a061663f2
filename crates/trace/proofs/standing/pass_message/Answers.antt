-- `trace::standing::pass_message` meets its contract: the three tests, then the topic's lines. Assumes nothing.
use mathlib.Core.Path.{refl}
use native.Mathlib.Omega.{arith}
use Rattle.trace.specs.Seen.{sent_from}
use Rattle.trace.proofs.standing.PassLaws.{quiet_type, quiet_rate, quiet_named, told_topic, not_refused, nothing_out}
use Rattle.trace.proofs.standing.pass_message.Goals as goal

pub returns-then-not-is_publish : goal.returns-then-not-is_publish
returns-then-not-is_publish c = let given = c.args in let q = nothing_out given.write given.out.now given.at
    (quiet_type given.m.now given.last given.packet_type given.topic.now (sent_from given.text.now given.next) c.is_publish.ensures
    c.if-not-is_publish.true) in record { next = (q.0, omega arith); bytes = q.1 }

pub returns-then-outlook-eq0 : goal.returns-then-outlook-eq0
returns-then-outlook-eq0 c = let given = c.args in let q = nothing_out given.write given.out.now given.at
    (quiet_rate given.m.now given.last given.packet_type given.topic.now (sent_from given.text.now given.next) c.is_publish.ensures c.if-not-is_publish.false
    c.in-Ok.ensures c.if-outlook-eq0.true) in record { next = (q.0, omega arith); bytes = q.1 }

pub returns-then-is_named : goal.returns-then-is_named
returns-then-is_named c = let given = c.args in let q = nothing_out given.write given.out.now given.at
    (quiet_named given.m.now given.last given.packet_type given.topic.now (sent_from given.text.now given.next) c.is_publish.ensures c.if-not-is_publish.false
    c.in-Ok.ensures (omega (arith, c.if-outlook-eq0.false)) c.is_named.ensures c.if-is_named.true) in record { next = (q.0, omega arith); bytes = q.1 }

pub pass_topic-requires : goal.pass_topic-requires
pass_topic-requires c =
    let given = c.args in
    let told = told_topic given.m.now given.last given.packet_type given.topic.now (sent_from given.text.now given.next) c.is_publish.ensures c.if-not-is_publish.false
    c.in-Ok.ensures (omega (arith, c.if-outlook-eq0.false)) c.is_named.ensures c.if-is_named.false c.in-Ok-tokens_left.ensures in
    record { small = c.requires.small; short = c.requires.short; room = rw (← told) c.requires.room }

pub returns : goal.returns
returns c =
    let given = c.args in
    let told = told_topic given.m.now given.last given.packet_type given.topic.now (sent_from given.text.now given.next) c.is_publish.ensures c.if-not-is_publish.false
    c.in-Ok.ensures (omega (arith, c.if-outlook-eq0.false)) c.is_named.ensures c.if-is_named.false c.in-Ok-tokens_left.ensures in
    rw told c.pass_topic.ensures

pub returns-in_default : goal.returns-in_default
returns-in_default c = let given = c.args in let q = nothing_out given.write given.out.now given.at
    (quiet_rate given.m.now given.last given.packet_type given.topic.now (sent_from given.text.now given.next) c.is_publish.ensures c.if-not-is_publish.false
    c.in_default.ensures refl) in record { next = (q.0, omega arith); bytes = q.1 }

pub returns-in_default-tokens_left : goal.returns-in_default-tokens_left
returns-in_default-tokens_left c =
    absurd (not_refused c.args.m.now c.args.topic.now c.args.last c.in_default-tokens_left.field-0 c.in-Ok.ensures (omega (arith, c.if-outlook-eq0.false)) c.in_default-tokens_left.ensures)
