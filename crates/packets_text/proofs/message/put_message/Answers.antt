-- `packets_text::message::put_message` meets its contract. Assumes nothing.
use mathlib.Core.Path.{◌∙◌}
use Rattle.packets_text.proofs.message.TextLaws.{message_wrote}
use Rattle.lines.proofs.put.WroteLaws.{wrote_length}
use Rattle.packets_text.proofs.message.put_message.Goals as goal

pub returns : goal.returns
returns c =
    message_wrote c.args.msg.now c.args.topic.now c.args.payload.now c.clock_number-clock.ensures (c.from-kind.ensures ∙ c.type_number.ensures)
    (c.from-qos.ensures ∙ c.qos_number.ensures.value) c.put_number_line-a.ensures c.put_word_line-b.ensures c.put_number_line-c.ensures c.put_number_line-d.ensures
    c.put_hex_line-e.ensures (rw c.from.ensures at c.put_number_line-f.ensures) c.put_hex_line.ensures

pub shape_of-out : goal.shape_of-out
shape_of-out c = wrote_length (returns c)
