use Prim.Native.Nat.{◌+◌, ◌-◌, ◌*◌, ◌/◌, ◌≤◌}
use mathlib.Core.Path.{◌≡◌, refl, sym}
use native.Mathlib.Omega.{arith}
use Rattle.std.proofs.lemmas.Result.{err_from_is_err_and}
use lib.ListN.{length, take}
use lib.Seq.{length-take-le}
use Rattle.std.specs.Prelude.{Ok}
use Rattle.rules_text.specs.RuleGroup.{pattern_in}
use Rattle.rules_text.proofs.read.RuleLaws.{pattern_part}
use Rattle.settings.specs.Refused.{line_checked}
use Rattle.settings.proofs.refusal.KnownLaws.{known_line, at_known, checked_stops, checked_goes, rule_never}
use Rattle.settings.proofs.rules.LoadLaws.{load_begin, load_move, load_stop, load_refused, load_twice, load_turn, load_end}
use Rattle.settings.proofs.rules.read_rules.Goals.{After-check_line}
use Rattle.settings.proofs.rules.read_rules.Goals as goal

-- the rule's pattern is the first bytes of its buffer
pattern_has : (c : After-check_line) {u : Unit} → Ok u ≡ line_checked c.read_rule-rule.result.number (c.args.lines + 4 * c.from.result + 1 + c.from-in-loop-taken.result) →
    let buffer = c.read_rule-rule.new.pattern in
    let long = (c.read_rule-rule.result.pattern_to - c.read_rule-rule.result.pattern_from) / 2 in
    (take long buffer ≡ pattern_in c.args.text.now c.read_rule-rule.result) × (long ≤ length buffer) × (length buffer ≡ 128)
pattern_has c e = pattern_part _ _ _ c.read_rule-rule.ensures.value (checked_goes _ _ e) c.loop-taken.invariant.room c.read_rule-rule.ensures.kept refl

pub loop-taken-init : goal.loop-taken-init
loop-taken-init c =
    record {
      loading = load_move _ _ (load_begin c.args.text.now _ _ _ c.requires.few c.requires.short c.free_rules-rules.ensures) (omega arith) (omega arith);
      room = c.pattern_buffer-pattern.ensures;
    }

pub returns-in_err-check_line : goal.returns-in_err-check_line
returns-in_err-check_line c =
    let p = err_from_is_err_and c.from_residual.result c.from_residual.ensures.1 in
    let q = checked_stops _ _ c.in_err-check_line.ensures in
    let within = c.read_rule-rule.ensures.within in
    rw (p.1, p.2, q.1, at_known (known_line (within.real q.0) within.known), c.from.ensures, c.from-in-loop-taken.ensures)
    (load_stop c.loop-taken.invariant.loading (omega arith) c.read_rule-rule.ensures.value q.0 refl)

pub slice_bounds-pattern-end : goal.slice_bounds-pattern-end
slice_bounds-pattern-end c = (pattern_has (goal.at.slice_bounds-pattern-end c).After-check_line c.in_ok-check_line.ensures).1

pub slice_bounds-plan_rule-end : goal.slice_bounds-plan_rule-end
slice_bounds-plan_rule-end c = sym (length-take-le _ _ (pattern_has (goal.at.slice_bounds-plan_rule-end c).After-check_line c.in_ok-check_line.ensures).1)

pub returns-in-Err : goal.returns-in-Err
returns-in-Err c =
    let e = c.in_ok-check_line.ensures in
    rw (c.from-in-Err.ensures, c.from.ensures)
    (load_refused c.loop-taken.invariant.loading (omega arith) c.read_rule-rule.ensures.value (checked_goes _ _ e) (pattern_has (goal.at.returns-in-Err c).After-check_line e).0
    c.in-Err.ensures.plan (rule_never c.in-Err.refusal) refl)

pub returns-then-placement-from : goal.returns-then-placement-from
returns-then-placement-from c =
    let e = c.in_ok-check_line.ensures in
    rw c.from.ensures
    (load_twice c.loop-taken.invariant.loading (omega arith) c.read_rule-rule.ensures.value (checked_goes _ _ e)
    (pattern_has (goal.at.returns-then-placement-from c).After-check_line e).0 c.in-Ok.ensures.plan refl (omega (arith, c.from-in-loop-taken-2.ensures)) refl)

pub loop-taken-preserved : goal.loop-taken-preserved
loop-taken-preserved c =
    let e = c.in_ok-check_line.ensures in
    let h = pattern_has (goal.at.loop-taken-preserved c).After-check_line e in
    record {
      loading = load_move _ _ (load_turn c.loop-taken.invariant.loading (omega arith) c.read_rule-rule.ensures.value (checked_goes _ _ e) h.0 c.in-Ok.ensures.plan refl
          (λ q. omega (arith, q, c.from-in-loop-taken-2.ensures, c.if-placement-from.false))) (omega arith) (omega arith);
      room = h.2;
    }

pub returns : goal.returns
returns c =
    let e : c.loop-taken.taken ≡ c.args.count = omega arith in
    rw c.from-2.ensures (rw e at (load_end c.loop-taken.invariant.loading (omega arith)))
