use Rattle.std.proofs.Common.{rules}
use Rattle.tables.proofs.standing.StandingLaws.{live_start, live_wins, live_dead, live_younger, live_done}
use Rattle.tables.proofs.standing.oldest_live.Goals.{else-buckets-at-via-then-buckets-at+else-then-time, else-buckets-at-via-else-buckets-at}
use Rattle.tables.proofs.standing.oldest_live.Goals as goal

pub loop-at-init : goal.loop-at-init
loop-at-init c = live_start c.args.buckets.now c.told-buckets

pub loop-at-preserved-then-then-time : goal.loop-at-preserved-then-then-time
loop-at-preserved-then-then-time c =
    live_wins c.args.buckets.now c.told-buckets c.loop-at.at c.loop-at-test.true c.loop-at.auto.at c.loop-at.invariant c.if-buckets-at.true c.if-then-time.true

pub loop-at-preserved : goal.loop-at-preserved
loop-at-preserved c =
    elim c.else-buckets-at.branch [
      | else-buckets-at-via-then-buckets-at+else-then-time w ↦
          live_younger c.args.buckets.now c.told-buckets c.loop-at.at c.loop-at-test.true c.loop-at.auto.at c.loop-at.invariant w.if-buckets-at.true w.if-then-time.false (search rules)
      | else-buckets-at-via-else-buckets-at w ↦
          live_dead c.args.buckets.now c.told-buckets c.loop-at.at c.loop-at-test.true c.loop-at.auto.at c.loop-at.invariant w.if-buckets-at.false
    ]

pub returns : goal.returns
returns c = live_done c.args.buckets.now c.told-buckets c.loop-at.invariant c.loop-at-test.false
