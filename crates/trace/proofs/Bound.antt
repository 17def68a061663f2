-- What a trace prints is at most 12 bytes for each byte of its text, or 109 (`trace_within`), so at most `enough` whatever the text is (`trace_enough`): a
-- buffer of that size never meets 28. A message that was read takes 44 bytes of the text or more and prints at most 528; the closing lines are at most 109, and
-- an opening that was read takes 16. Assumes nothing.
use Prim.Native.Nat.{ℕ, zero, suc, ◌+◌, ◌-◌, ◌*◌, ◌^◌, ◌≤◌, ◌<◌}
use mathlib.Core.Path.{◌≡◌, refl}
use mathlib.Core.List.{List, [], ◌∷◌}
use native.Mathlib.Omega.{arith}
use lib.Dec.{eqb, leb}
use lib.ListN.{length, length-append}
use borrow.Author.Tests.{eqb-true, eqb-false, leb-true, leb-false}
use Rattle.laws.proofs.Cases.{by, whichever}
use Rattle.topics.specs.Patterns.{pattern_refusal}
use Rattle.topics.specs.declared.matching.Matching.{Matching}
use Rattle.topics.proofs.patterns.PatternLaws.{refusal_number}
use Rattle.tables.specs.Rules.{rule_plan}
use Rattle.tables.specs.declared.rules.QosPolicy.{QosPolicy}
use Rattle.tables.specs.declared.rules.TopicAction.{TopicAction}
use Rattle.tables.specs.declared.rules.TopicRule.{TopicRule}
use Rattle.tables.proofs.rules.PlanLaws.{plan_cases}
use Rattle.monitor.specs.Calls.{fresh, tested, add_rule}
use Rattle.monitor.specs.Runs.{Call}
use Rattle.monitor.specs.State.{well_formed, matcher_of, number_of}
use Rattle.monitor.specs.Ended.{Called}
use Rattle.monitor.specs.declared.state.MqttMonitor.{MqttMonitor}
use Rattle.rules_text.specs.RuleGroup.{rule_at}
use Rattle.trace.specs.Groups.{opening_of, message_at}
use Rattle.trace.specs.Trace.{Loaded, Messages, rule_into, rules_into, loaded_from, loaded, messages_from, messages_of, text_from, trace_text, enough}
use Rattle.trace.proofs.record.RecordLaws.{closing_short}
use Rattle.rules_text.proofs.read.RuleLaws.{rule_within, rule_further}
use Rattle.trace.proofs.groups.GroupLaws.{opening_within, opening_further, message_within, message_further}
use Rattle.trace.proofs.PlanBounds.{Counted, applied_counted, result_short}

-- the text of so many messages
text_short : (xs : List Call) (m : MqttMonitor) (n number line : ℕ) → Counted m → n + length xs ≤ 2 ^ 64 → number < 2 ^ 64 → line < 2 ^ 64
    → length (text_from m n xs number line) ≤ 528 * length xs + 109
unfolding text_from
text_short [] m n number line c h a b = omega (arith, closing_short number line _ _ a b c.inspected64 c.total64)
text_short (x ∷ xs) m n number line c h a b =
    rw length-append
    (omega (
      arith,
      result_short (matcher_of m) m x.msg x.topic x.payload c n (omega arith),
      text_short xs _ (n + 1) number line (applied_counted (matcher_of m) m x.msg x.topic x.payload c) (omega arith) a b,
    ))

-- the messages from a place on: how many there are at most, and how they end
sent_few : (k : ℕ) (s : List ℕ) (at line : ℕ)
    → (44 * length (messages_from k s at line).sent ≤ length s - at) × ((messages_from k s at line).number ≤ 26)
    × ((messages_from k s at line).line ≤ line + 7 * length (messages_from k s at line).sent + 7)
unfolding messages_from
sent_few zero s at line = (omega arith, omega arith, omega arith)
sent_few (suc k) s at line =
    let w = message_within s at refl in
    by (leb (length s) at)
    (λ t. rw t (omega arith, omega arith, omega arith))
    (λ t.
    let l : at < length s = leb-false _ _ t in
    by (eqb (message_at s at).number 0)
    (λ u.
    let f = message_further s at (eqb-true _ _ u) in
    let r = sent_few k s (message_at s at).next (line + 7) in
    rw (t, u) (omega (arith, r), omega (arith, r), omega (arith, r)))
    (λ u. rw (t, u) (omega arith, omega (arith, w.known), omega (arith, w.line))))

add_counted : (m : MqttMonitor) (p : List ℕ) (action : TopicAction) (policy : QosPolicy) (rate : ℕ) → Counted m → Counted (add_rule m p action policy rate).monitor
unfolding add_rule
add_counted m p action policy rate c =
    whichever (λ (x : Called). Counted x.monitor) (eqb (tested m (rule_plan m.rules m.rule_count p action policy rate).number) 0)
    (record { id64 = c.id64; inspected64 = c.inspected64; total64 = c.total64 })
    c

pattern_known : (p : List ℕ) → pattern_refusal p ≤ 36
pattern_known p = refusal_number (λ n. n ≤ 36) p (omega arith) (omega arith) (omega arith)

plan_known : (rules : List TopicRule) (n : ℕ) (p : List ℕ) (action : TopicAction) (policy : QosPolicy) (rate : ℕ) → (rule_plan rules n p action policy rate).number ≤ 36
plan_known rules n p action policy rate =
    plan_cases rules n p action policy rate (λ d. d.number ≤ 36) (λ o. pattern_known p) (λ z h. omega arith) (λ z f h. omega arith) (λ z h. omega arith)

add_known : (m : MqttMonitor) (p : List ℕ) (action : TopicAction) (policy : QosPolicy) (rate : ℕ) → number_of (add_rule m p action policy rate).outcome ≤ 36
unfolding add_rule
add_known m p action policy rate =
    let d = rule_plan m.rules m.rule_count p action policy rate in
    whichever (λ (x : Called). number_of x.outcome ≤ 36) (eqb (tested m d.number) 0) (omega arith)
    (whichever (λ (n : ℕ). n ≤ 36) (well_formed m) (plan_known m.rules m.rule_count p action policy rate) (omega arith))

-- what was loaded, after at most so many lines
pub record Few (l : Loaded) (lines : ℕ) : Type 0 where
  pub counted : Counted l.monitor
  pub known : l.number ≤ 36
  pub line : l.line ≤ lines

rule_few : (m : MqttMonitor) (s : List ℕ) (line at : ℕ) → Counted m → Few (rule_into m s line (rule_at s at)) (line + 4)
unfolding rule_into
rule_few m s line at c =
    let w = rule_within s at refl in
    whichever (λ (l : Loaded). Few l (line + 4)) (eqb (rule_at s at).number 0)
    (record { counted = add_counted m _ _ _ _ c; known = add_known m _ _ _ _; line = omega arith })
    (record { counted = c; known = omega (arith, w.known); line = omega (arith, w.line) })

rules_few : (k : ℕ) (s : List ℕ) (l : Loaded) (lines : ℕ) → Few l lines → Few (rules_into k s l) (lines + 4 * k)
unfolding rules_into
rules_few zero s l lines f = record { counted = f.counted; known = f.known; line = omega (arith, f.line) }
rules_few (suc k) s l lines f =
    let r = rule_few l.monitor s l.line l.next f.counted in
    let g = rules_few k s (rule_into l.monitor s l.line (rule_at s l.next)) (l.line + 4) r in
    whichever (λ (x : Loaded). Few x (lines + 4 * suc k)) (eqb l.number 0)
    (record { counted = g.counted; known = g.known; line = omega (arith, g.line, f.line) })
    (record { counted = f.counted; known = f.known; line = omega (arith, f.line) })

fresh_counted : (matching : Matching) (default : TopicAction) → Counted (fresh matching default)
unfolding fresh
fresh_counted matching default = record { id64 = omega arith; inspected64 = omega arith; total64 = omega arith }

pub loaded_few : (matching : Matching) (s : List ℕ) → Few (loaded matching s) 130
unfolding loaded loaded_from
loaded_few matching s =
    let w = opening_within s refl in
    whichever (λ (l : Loaded). Few l 130) (leb (length s) 65536)
    (whichever (λ (l : Loaded). Few l 130) (eqb (opening_of s).number 0)
    (let start : Loaded = record { number = 0; line = 2; next = (opening_of s).next; monitor = fresh matching (opening_of s).default_action } in
    let r = rules_few (opening_of s).rules s start 2 (record { counted = fresh_counted _ _; known = omega arith; line = omega arith }) in
    record { counted = r.counted; known = r.known; line = omega (arith, r.line, w.count) })
    (record { counted = fresh_counted _ _; known = omega (arith, w.known); line = omega (arith, w.line) }))
    (record { counted = fresh_counted _ _; known = omega arith; line = omega arith })

-- a text that was loaded is not over 65,536 bytes
pub loaded_short : (matching : Matching) (s : List ℕ) → (loaded matching s).number ≡ 0 → length s ≤ 65536
unfolding loaded
loaded_short matching s e = by (leb (length s) 65536) (λ t. leb-true _ _ t) (λ t. absurd (let z : ◌≡◌ {A = ℕ} 27 0 = rw t at e in omega arith))

-- rules that were loaded go on from where they began
rule_goes : (m : MqttMonitor) (s : List ℕ) (line at : ℕ) → (rule_into m s line (rule_at s at)).number ≡ 0 → at ≤ (rule_into m s line (rule_at s at)).next
unfolding rule_into
rule_goes m s line at =
    by (eqb (rule_at s at).number 0)
    (λ t. rw t (λ e. rule_further s at (eqb-true _ _ t)))
    (λ t. rw t (λ e. absurd (eqb-false _ _ t e)))

rules_begun : (k : ℕ) (s : List ℕ) (l : Loaded) → (rules_into k s l).number ≡ 0 → l.number ≡ 0
unfolding rules_into
rules_begun zero s l e = e
rules_begun (suc k) s l e = by (eqb l.number 0) (λ t. eqb-true _ _ t) (λ t. rw t at e)

rules_go : (k : ℕ) (s : List ℕ) (l : Loaded) → (rules_into k s l).number ≡ 0 → l.next ≤ (rules_into k s l).next
unfolding rules_into
rules_go zero s l e = omega arith
rules_go (suc k) s l e =
    let next : Loaded = rule_into l.monitor s l.line (rule_at s l.next) in
    by (eqb l.number 0)
    (λ t.
    let f : (rules_into k s next).number ≡ 0 = rw t at e in
    rw t (omega (arith, rule_goes l.monitor s l.line l.next (rules_begun k s next f), rules_go k s next f)))
    (λ t. rw t (omega arith))

-- the opening of a text that was loaded takes 16 or more
loaded_further : (matching : Matching) (s : List ℕ) → (loaded matching s).number ≡ 0 → 16 ≤ (loaded matching s).next
unfolding loaded loaded_from
loaded_further matching s =
    by (leb (length s) 65536)
    (λ t.
    by (eqb (opening_of s).number 0)
    (λ u. rw (t, u) (λ e. omega (arith, opening_further s (eqb-true _ _ u), rules_go (opening_of s).rules s _ e)))
    (λ u. rw (t, u) (λ e. absurd (eqb-false _ _ u e))))
    (λ t. rw t (λ e. absurd (let z : ◌≡◌ {A = ℕ} 27 0 = e in omega arith)))

-- the messages of a trace: how many there are at most, in a text of any length and in the longest, and how they end
pub record FewMessages (s : List ℕ) (ms : Messages) : Type 0 where
  pub within : 44 * length ms.sent ≤ length s - 16
  pub most : 44 * length ms.sent ≤ 65536
  pub known : ms.number < 2 ^ 64
  pub last : ms.line < 2 ^ 64

pub messages_few : (matching : Matching) (s : List ℕ) → FewMessages s (messages_of matching s)
unfolding messages_of
messages_few matching s =
    let f = loaded_few matching s in
    by (eqb (loaded matching s).number 0)
    (λ t.
    let z : (loaded matching s).number ≡ 0 = eqb-true _ _ t in
    let r = sent_few (length s + 1) s (loaded matching s).next (loaded matching s).line in
    rw t
    (record {
      within = omega (arith, r, loaded_further matching s z);
      most = omega (arith, r, loaded_short matching s z);
      known = omega (arith, r);
      last = omega (arith, r, f.line, loaded_short matching s z);
    }))
    (λ t. rw t (record { within = omega arith; most = omega arith; known = omega (arith, f.known); last = omega (arith, f.line) }))

-- what they print, with the closing lines
trace_short : (matching : Matching) (s : List ℕ) → length (trace_text matching s) ≤ 528 * length (messages_of matching s).sent + 109
unfolding trace_text
trace_short matching s =
    let few = messages_few matching s in
    let ms = messages_of matching s in
    text_short ms.sent (loaded matching s).monitor 1 ms.number ms.line (loaded_few matching s).counted (omega (arith, few.most)) few.known few.last

-- a room of 12 bytes for each byte of the text, and of 109 at least, is enough for what a trace prints
pub trace_within : (matching : Matching) (s : List ℕ) (room : ℕ) → 12 * length s ≤ room → 109 ≤ room → length (trace_text matching s) ≤ room
trace_within matching s room h g = omega (arith, h, g, trace_short matching s, (messages_few matching s).within)

-- what any trace prints fits into a buffer of that size
pub trace_enough : (matching : Matching) (s : List ℕ) → length (trace_text matching s) ≤ enough
trace_enough matching s = omega (arith, trace_short matching s, (messages_few matching s).most)
