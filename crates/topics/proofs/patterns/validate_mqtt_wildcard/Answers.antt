use Rattle.std.proofs.Common.{sym, ◌∙◌, rules, tests}
use Rattle.topics.proofs.patterns.PlacedLaws.{valid_none, valid_some, placed_end, hash_fresh, hash_mid, plus_off, plus_on, placed_on}
use Rattle.topics.proofs.patterns.validate_mqtt_wildcard.Goals.{else-c-eq43-via-then-c-eq43+else-not-is_alone, else-c-eq43-via-else-c-eq43}
use Rattle.topics.proofs.patterns.validate_mqtt_wildcard.Goals as goal

pub returns-then-is_empty : goal.returns-then-is_empty
returns-then-is_empty c = valid_none _ (search (rules, tests))

pub loop-i-init : goal.loop-i-init
loop-i-init c = valid_some _ (search (rules, tests))

pub returns-then-fresh : goal.returns-then-fresh
returns-then-fresh c = sym (hash_fresh _ _ _ c.loop-i-test.true c.if-fresh.true c.if-c-eq35.true) ∙ c.loop-i.invariant

pub returns-else-fresh : goal.returns-else-fresh
returns-else-fresh c = sym (hash_mid _ _ _ c.loop-i-test.true c.if-fresh.false c.if-c-eq35.true) ∙ c.loop-i.invariant

pub returns-then-not-is_alone : goal.returns-then-not-is_alone
returns-then-not-is_alone c =
    sym (plus_off _ _ _ c.loop-i-test.true c.if-c-eq35.false c.is_alone.ensures c.if-c-eq43.true c.if-not-is_alone.true) ∙ c.loop-i.invariant

pub loop-i-preserved : goal.loop-i-preserved
loop-i-preserved c =
    elim c.else-c-eq43.branch [
      | else-c-eq43-via-then-c-eq43+else-not-is_alone w ↦
          sym (plus_on _ _ _ c.loop-i-test.true c.if-c-eq35.false w.is_alone.ensures w.if-c-eq43.true w.if-not-is_alone.false) ∙ c.loop-i.invariant
      | else-c-eq43-via-else-c-eq43 w ↦ sym (placed_on _ _ _ c.loop-i-test.true c.if-c-eq35.false w.if-c-eq43.false) ∙ c.loop-i.invariant
    ]

pub returns : goal.returns
returns c = sym (placed_end _ _ _ c.loop-i-test.false) ∙ c.loop-i.invariant
