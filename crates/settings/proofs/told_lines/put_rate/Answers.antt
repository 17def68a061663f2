-- `settings::told_lines::put_rate` meets its contract: one write where there is no rate, three where there is one. Assumes nothing.
use borrow.Author.Rules.{rules}
use Rattle.lines.proofs.put.WroteLaws.{wrote_then}
use Rattle.settings.proofs.told_lines.ToldBounds.{rate_none, rate_some, none_short, some_short}
use Rattle.settings.proofs.told_lines.put_rate.Goals as goal

pub returns-then-rate-eq0 : goal.returns-then-rate-eq0
returns-then-rate-eq0 c = record { text = rw (rate_none _ c.if-rate-eq0.true) c.put_bytes.ensures; short = none_short _ c.if-rate-eq0.true }

pub returns : goal.returns
returns c = record {
  text = rw (rate_some _ c.if-rate-eq0.false)
      (wrote_then (wrote_then c.put_bytes-after_words.ensures (rw c.from.ensures at c.put_decimal-after_rate.ensures)) c.put_bytes-2.ensures);
  short = some_short _ c.if-rate-eq0.false (search rules);
}
