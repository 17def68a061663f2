use Prim.Native.Nat.{◌≤◌}
use mathlib.Core.Path.{◌≡◌, refl, ◌∙◌}
use native.Mathlib.Omega.{arith}
use lib.ListN.{length, take}
use Rattle.trace.specs.Groups.{topic_in}
use Rattle.trace.proofs.run.BufferLaws.{topic_part, payload_part}
use Rattle.trace.proofs.run.RunLaws.{read_further}
use Rattle.trace.proofs.seen.SeenLaws.{publish_stop, publish_here, publish_further, publish_end}
use Rattle.trace.proofs.seen.is_named.Goals.{Else-group-ne0}
use Rattle.trace.proofs.seen.is_named.Goals as goal

-- the message's topic is the first bytes of its buffer, and both buffers are as long as before
name_has : (c : Else-group-ne0) → let buffer = c.read_message-group.new.topic in
    (take c.read_message-group.result.msg.topic_len buffer ≡ topic_in c.args.text.now c.read_message-group.result) ×
    (c.read_message-group.result.msg.topic_len ≤ length buffer) × (length buffer ≡ 128)
name_has c =
    topic_part _ _ _ c.read_message-group.ensures.value c.if-group-ne0.false c.loop-p.invariant.1 c.read_message-group.ensures.topic

payload_long : (c : Else-group-ne0) → length c.read_message-group.new.payload ≡ 256
payload_long c =
    (payload_part _ _ _ c.read_message-group.ensures.value c.if-group-ne0.false c.loop-p.invariant.2 c.read_message-group.ensures.payload).2

pub loop-p-init : goal.loop-p-init
loop-p-init c = (refl, c.buffer_128-name.ensures, c.buffer_256-payload.ensures)

pub returns-then-group-ne0 : goal.returns-then-group-ne0
returns-then-group-ne0 c =
    publish_stop _ _ c.loop-p-test.true c.read_message-group.ensures.value c.if-group-ne0.true ∙ c.loop-p.invariant.0

pub topic-requires : goal.topic-requires
topic-requires c = c.read_message-group.ensures.within.topic_long.1

pub returns-then-names : goal.returns-then-names
returns-then-names c =
    publish_here _ _ c.loop-p-test.true c.read_message-group.ensures.value c.if-group-ne0.false
    (c.topic.ensures ∙ (name_has (goal.at.returns-then-names c).Else-group-ne0).0) c.names.ensures c.if-names.true
    ∙ c.loop-p.invariant.0

pub loop-p-smaller : goal.loop-p-smaller
loop-p-smaller c =
    omega (arith, c.loop-p-test.true, read_further c.args.text.now c.loop-p.p c.read_message-group.ensures.value c.if-group-ne0.false)

pub loop-p-preserved : goal.loop-p-preserved
loop-p-preserved c = (
  publish_further _ _ c.loop-p-test.true c.read_message-group.ensures.value c.if-group-ne0.false
      (c.topic.ensures ∙ (name_has (goal.at.loop-p-preserved c).Else-group-ne0).0) c.names.ensures c.if-names.false
      ∙ c.loop-p.invariant.0,
  (name_has (goal.at.loop-p-preserved c).Else-group-ne0).2,
  payload_long (goal.at.loop-p-preserved c).Else-group-ne0,
)

pub returns : goal.returns
returns c = publish_end c.args.text.now c.args.topic.now c.loop-p-test.false ∙ c.loop-p.invariant.0
