use Rattle.std.proofs.Common.{sym, ◌∙◌, arith}
use Rattle.laws.proofs.Lists.{tail_whole}
use Rattle.topics.proofs.matching.MatchLaws.{slash_found, match_end, match_over, match_hash, match_plus, match_not, match_byte}
use Rattle.topics.proofs.matching.walk.Goals.{then-c-eq43, else-c-eq43+then-c-topic}
use Rattle.topics.proofs.matching.walk.Goals as goal

pub returns-then-pi-pattern : goal.returns-then-pi-pattern
returns-then-pi-pattern c =
    sym (match_over _ _ c.args.pattern.now _ c.loop-ti.pi c.loop-ti-test.true (omega arith)) ∙ c.loop-ti.invariant.same

pub returns-then-c-eq35 : goal.returns-then-c-eq35
returns-then-c-eq35 c =
    let w = c.loop-ti.invariant in
    sym (match_hash _ _ c.args.pattern.now _ c.loop-ti.pi c.loop-ti-test.true (omega (arith, w.in_pattern)) c.if-c-eq35.true) ∙ w.same

pub returns-else-c-topic : goal.returns-else-c-topic
returns-else-c-topic c =
    let w = c.loop-ti.invariant in
    sym
    (match_not _ _ c.args.pattern.now _ c.loop-ti.pi c.loop-ti-test.true (omega (arith, w.in_pattern)) c.if-c-eq35.false c.if-c-eq43.false c.if-c-topic.false)
    ∙ w.same

pub loop-ti-preserved : goal.loop-ti-preserved
loop-ti-preserved c =
    let w = c.loop-ti.invariant in
    let p = c.args.pattern.now in
    elim c.if-c-eq43.branch [
      | then-c-eq43 b ↦
          rw b.ti-is (record {
            in_topic = b.find_byte-ti.ensures.within.1;
            in_pattern = omega (arith, w.in_pattern);
            same =
                sym
                (match_plus _ _ p _ c.loop-ti.pi c.loop-ti-test.true (omega (arith, w.in_pattern)) c.if-c-eq35.false b.find_byte-ti.result b.if-c-eq43.true
                (slash_found _ _ w.in_topic b.find_byte-ti.ensures.value))
                ∙ w.same;
          })
      | else-c-eq43+then-c-topic b ↦
          rw b.ti-is (record {
            in_topic = omega arith;
            in_pattern = omega (arith, w.in_pattern);
            same =
                sym
                (match_byte _ _ p _ c.loop-ti.pi c.loop-ti-test.true (omega (arith, w.in_pattern)) c.if-c-eq35.false b.if-c-eq43.false b.if-c-topic.true)
                ∙ w.same;
          })
    ]

pub returns : goal.returns
returns c =
    let w = c.loop-ti.invariant in
    rw (tail_whole c.args.pattern.now c.loop-ti.pi) at c.takes_end.ensures ∙ sym (match_end _ _ _ _ c.loop-ti-test.false) ∙ w.same
