-- `asked::by_word` meets its contract: each return by the tests that lead to it. Assumes nothing.
use mathlib.Core.Path.{sym, ◌∙◌}
use Rattle.hubtrace.proofs.asked.by_word.Goals as goal

pub returns-then-same_bytes : goal.returns-then-same_bytes
returns-then-same_bytes c = rw (sym c.same_bytes.ensures ∙ c.if-same_bytes.true)

pub returns-then-same_bytes-2 : goal.returns-then-same_bytes-2
returns-then-same_bytes-2 c =
    rw (sym c.same_bytes.ensures ∙ c.if-same_bytes.false, sym c.same_bytes-2.ensures ∙ c.if-same_bytes-2.true)

pub returns : goal.returns
returns c =
    rw (sym c.same_bytes.ensures ∙ c.if-same_bytes.false, sym c.same_bytes-2.ensures ∙ c.if-same_bytes-2.false)
