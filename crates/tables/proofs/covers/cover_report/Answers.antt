use Rattle.std.proofs.Common.{◌<◌, ◌≤◌, arith, length-take}
use lib.Seq.{get_or-take}
use Rattle.tables.specs.Rules.{no_rule}
use Rattle.tables.proofs.covers.CoverLaws.{report_start, report_on, report_end}
use Rattle.tables.proofs.covers.cover_report.Goals as goal

pub loop-at-init : goal.loop-at-init
loop-at-init c = report_start c.args.rules.now c.args.count c.told-rules

pub loop-at-preserved : goal.loop-at-preserved
loop-at-preserved c =
    let rules = c.args.rules.now in
    let n = c.places.result in
    let t : c.loop-at.at < n = omega (arith, c.told-rules, c.places.ensures, length-take n rules, c.loop-at-test.true) in
    let e = rw (get_or-take n rules c.loop-at.at no_rule t) at c.first_cover.ensures in
    report_on rules c.args.count c.told-rules _ c.places.ensures c.loop-at.invariant t e

pub returns : goal.returns
returns c =
    let rules = c.args.rules.now in
    let n = c.places.result in
    let t : n ≤ c.loop-at.at = omega (arith, c.told-rules, c.places.ensures, length-take n rules, c.loop-at-test.false) in
    report_end rules c.args.count c.told-rules _ c.places.ensures c.loop-at.invariant t
