-- `settings::read::read_settings` meets its contract: each test that ends it, in the order of the definition, and all that was read. Assumes nothing.
use Prim.Native.Nat.{ℕ, ◌≤◌}
use mathlib.Core.List.{List, []}
use mathlib.Core.Path.{◌≡◌, refl, ◌∙◌}
use native.Mathlib.Omega.{arith}
use lib.ListN.{length}
use Rattle.std.proofs.lemmas.Result.{err_from_is_err_and}
use Rattle.forms.specs.Form.{read_all}
use Rattle.forms.proofs.RealLaws.{end_known, end_real}
use Rattle.rules_text.specs.RuleText.{rule_form}
use Rattle.settings.specs.Kept.{HeadLines, RulesLines, head_of, rules_read}
use Rattle.settings.specs.SettingsText.{head_lines}
use Rattle.settings.proofs.read.ReadLaws.{Begun, Followed, read_long, read_stops, head_bounds, rules_stop, rules_end, all_read, lines_few}
use Rattle.settings.proofs.refusal.KnownLaws.{Known, known_line, at_known, never_0, checked_stops, checked_goes}
use Rattle.settings.proofs.read.read_settings.Goals as goal

-- what the lines before the rules gave, and the rules
begun : {s : List ℕ} {d : HeadLines} → length s ≤ 65536 → d ≡ head_of (head_lines.read s 0 0) → Begun s d
begun h e = record { short = h; head = e }

followed : {s : List ℕ} {d : HeadLines} {r : RulesLines} → Begun s d → d.number ≡ 0 → r ≡ rules_read (read_all rule_form d.rules [] s d.next d.line) → Followed s d r
followed b z e = record { begun = b; opened = z; rules = e }

pub returns-then-text-gt-TEXT_MAX : goal.returns-then-text-gt-TEXT_MAX
returns-then-text-gt-TEXT_MAX c = read_long _ c.if-text-gt-TEXT_MAX.true refl

pub returns-in_err-head : goal.returns-in_err-head
returns-in_err-head c =
    let p = err_from_is_err_and c.from_residual.result c.from_residual.ensures.1 in
    rw (p.1, p.2) (read_stops (begun c.if-text-gt-TEXT_MAX.false c.in_err-head.ensures) (never_0 c.in_err-head.field-0.0.refusal) refl)

pub read_rules-requires : goal.read_rules-requires
read_rules-requires c = let b = head_bounds (begun c.if-text-gt-TEXT_MAX.false c.in_ok-head.ensures) refl in record { few = b.0; short = omega (arith, b.1) }

pub returns-in_err-found : goal.returns-in_err-found
returns-in_err-found c =
    let p = err_from_is_err_and c.from_residual-in_err-found.result c.from_residual-in_err-found.ensures.1 in
    rw (p.1, p.2)
    (rules_stop (followed (begun c.if-text-gt-TEXT_MAX.false c.in_ok-head.ensures) refl c.in_err-found.ensures) (never_0 c.in_err-found.field-0.0.refusal) refl)

pub overflow_add-found : goal.overflow_add-found
overflow_add-found c = omega (arith, lines_few (followed (begun c.if-text-gt-TEXT_MAX.false c.in_ok-head.ensures) refl c.in_ok-found.ensures) refl)

pub returns-in_err-check_line : goal.returns-in_err-check_line
returns-in_err-check_line c =
    let p = err_from_is_err_and c.from_residual-in_err-check_line.result c.from_residual-in_err-check_line.ensures.1 in
    let q = checked_stops _ _ c.in_err-check_line.ensures in
    let s = c.args.text.now in
    let at = c.in_ok-found.found.next in
    let known : Known c.text_end.result = rw c.text_end.ensures (known_line (end_real s at (λ z. q.0 (c.text_end.ensures ∙ z))) (end_known s at)) in
    rw (p.1, p.2, q.1, at_known known)
    (rules_end (followed (begun c.if-text-gt-TEXT_MAX.false c.in_ok-head.ensures) refl c.in_ok-found.ensures) refl c.text_end.ensures q.0 refl)

pub returns : goal.returns
returns c =
    all_read (followed (begun c.if-text-gt-TEXT_MAX.false c.in_ok-head.ensures) refl c.in_ok-found.ensures) refl c.text_end.ensures
    (checked_goes _ _ c.in_ok-check_line.ensures)
