-- `packets_text::message::message_len` meets its contract: the lengths of seven lines, added up. Assumes nothing.
use Prim.Native.Nat.{◌+◌, ◌≤◌}
use mathlib.Core.Path.{◌≡◌}
use native.Mathlib.Omega.{arith}
use lib.ListN.{length}
use mathlib.Core.Path.{◌∙◌}
use Rattle.packets_text.specs.MessageText.{message_text}
use Rattle.packets_text.proofs.message.TextLaws.{MessageTyped, message_sum}
use borrow.Author.Rules.{rules}
use Rattle.packets_text.proofs.message.message_len.Goals.{After-hex_line_len-g}
use Rattle.packets_text.proofs.message.message_len.Goals as goal

-- the types of the message's fields
typed_at_After_hex_line_len_g : (c : After-hex_line_len-g) → MessageTyped c.args.msg.now
typed_at_After_hex_line_len_g c = record { time = search rules; size = search rules }

sum : (c : After-hex_line_len-g) → let all = c.number_line_len-a.result + c.word_line_len-b.result + c.number_line_len-c.result + c.number_line_len-d.result
    + c.hex_line_len-e.result + c.number_line_len-f.result + c.hex_line_len-g.result in
    (all ≡ length (message_text c.args.msg.now c.args.topic.now c.args.payload.now)) × (all ≤ 843)
sum c =
    message_sum c.args.msg.now c.args.topic.now c.args.payload.now (typed_at_After_hex_line_len_g c) c.requires.topic c.requires.payload
    c.clock_number-clock.ensures (c.from-kind.ensures ∙ c.type_number.ensures)
    (c.from-qos.ensures ∙ c.qos_number.ensures.value) c.number_line_len-a.ensures c.word_line_len-b.ensures c.number_line_len-c.ensures
    c.number_line_len-d.ensures c.hex_line_len-e.ensures (rw c.from.ensures at c.number_line_len-f.ensures) c.hex_line_len-g.ensures

pub overflow_add-result : goal.overflow_add-result
overflow_add-result c = omega (arith, sum c)

pub overflow_add-result-2 : goal.overflow_add-result-2
overflow_add-result-2 c = omega (arith, sum c)

pub overflow_add-result-3 : goal.overflow_add-result-3
overflow_add-result-3 c = omega (arith, sum c)

pub overflow_add-result-4 : goal.overflow_add-result-4
overflow_add-result-4 c = omega (arith, sum c)

pub overflow_add-result-5 : goal.overflow_add-result-5
overflow_add-result-5 c = omega (arith, sum c)

pub overflow_add-result-6 : goal.overflow_add-result-6
overflow_add-result-6 c = omega (arith, sum c)

pub returns : goal.returns
returns c = let h = sum c in record { value = h.0; short = h.1 }
