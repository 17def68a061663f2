-- A trace is a run of inspections (specs/AsRun.antt). The opening adds rules to a fresh monitor and nothing else. A message that was read has its topic and payload exactly, so
-- that `inspect` refuses nothing and applies the plan that the trace applies; a plan that is applied keeps the state well formed. Assumes nothing.
use Prim.Native.Nat.{ℕ, zero, suc, ◌+◌}
use mathlib.Core.Path.{◌≡◌, refl, sym, ap, ◌∙◌}
use mathlib.Core.Bool.{true}
use mathlib.Core.List.{List, [], ◌∷◌, ◌++◌, append_assoc}
use native.Mathlib.Omega.{arith}
use lib.Dec.{eqb, leb}
use lib.ListN.{length}
use Rattle.laws.proofs.Cases.{whichever}
use Rattle.topics.specs.declared.matching.Matching.{Matching}
use Rattle.topics.specs.declared.matching.Matching.TheVariants.{Port}
use Rattle.monitor.specs.Inspect.{applied, result_of}
use Rattle.monitor.specs.Prepared.{Prepared, made, rule}
use Rattle.monitor.specs.Runs.{Call, Exact, shipped, after_by, replies_by}
use Rattle.monitor.specs.State.{well_formed}
use Rattle.monitor.specs.Ended.{Inspected}
use Rattle.monitor.specs.declared.state.MqttMonitor.{MqttMonitor}
use Rattle.monitor.proofs.Prepared.{prepared_sound}
use Rattle.monitor.proofs.Replies.{AllExact, shipped_done, done_formed, run_inspected}
use Rattle.trace.specs.AsRun.{records_text, AsRun, ReadAlike}
use Rattle.trace.specs.Groups.{message_at}
use Rattle.trace.specs.Record.{record_text, closing_text}
use Rattle.trace.specs.Trace.{Messages, loaded, messages_from, messages_of, planned, text_from, trace_text}
use Rattle.trace.proofs.groups.GroupLaws.{message_within}
use Rattle.trace.proofs.run.LoadLaws.{loaded_holds, loaded_choice, loaded_alike, same_rules}
use Rattle.trace.proofs.run.RunLaws.{sent_at}

-- the loaded monitor is a fresh one with rules
loaded_prepared : (matching : Matching) (s : List ℕ) → Prepared (loaded matching s).monitor
loaded_prepared matching s = loaded_holds Prepared matching (made matching) (λ m p action policy rate h. rule h p action policy rate) s

exact_at : (s : List ℕ) (at : ℕ) → Exact (sent_at s at)
exact_at s at =
    let i = message_within s at refl in
    (omega (arith, i.topic_long), omega (arith, i.payload_long))

from_exact : (k : ℕ) (s : List ℕ) (at line : ℕ) → AllExact (messages_from k s at line).sent
unfolding messages_from
from_exact zero s at line = tt
from_exact (suc k) s at line =
    whichever (λ (x : Messages). AllExact x.sent) (leb (length s) at) tt
    (whichever (λ (x : Messages). AllExact x.sent) (eqb (message_at s at).number 0)
    (exact_at s at, from_exact k s (message_at s at).next (line + 7))
    tt)

-- so do the messages of a trace
messages_exact : (matching : Matching) (s : List ℕ) → AllExact (messages_of matching s).sent
unfolding messages_of
messages_exact matching s =
    let l = loaded matching s in whichever (λ (x : Messages). AllExact x.sent) (eqb l.number 0) (from_exact (length s + 1) s l.next l.line) tt

-- what is printed of some messages from a state on
run_text : (cs : List Call) (m : MqttMonitor) (n number line : ℕ) → well_formed m ≡ true → AllExact cs
    → text_from m n cs number line
    ≡ records_text n (replies_by shipped m cs)
    ++ closing_text number line (after_by shipped m cs).total_inspected (after_by shipped m cs).total_alerts
unfolding text_from records_text replies_by after_by
run_text [] m n number line w e = refl
run_text (c ∷ cs) m n number line w e =
    let next : MqttMonitor = applied m (planned m c) in
    let r = run_text cs next (n + 1) number line (done_formed m c w e.0) e.1 in
    let first : List ℕ = record_text n (result_of (planned m c)) in
    let others : List ℕ = records_text (n + 1) (replies_by shipped next cs) in
    let last : List ℕ = closing_text number line (after_by shipped next cs).total_inspected (after_by shipped next cs).total_alerts in
    ap (λ (t : List ℕ). first ++ t) r ∙ sym (append_assoc first others last)
    ∙ ap
    (λ (i : Inspected).
    record_text n i.result ++ records_text (n + 1) (replies_by shipped i.monitor cs)
    ++ closing_text number line (after_by shipped i.monitor cs).total_inspected (after_by shipped i.monitor cs).total_alerts)
    (sym (shipped_done m c w e.0))

pub as_run : (matching : Matching) (s : List ℕ) → AsRun matching s
unfolding trace_text
as_run matching s =
    let p = loaded_prepared matching s in
    let w = (prepared_sound p).formed in
    let ms = messages_of matching s in
    record {
      prepared = p;
      choice = loaded_choice matching s;
      inspected = run_inspected ms.sent (loaded matching s).monitor w (messages_exact matching s);
      text = run_text ms.sent (loaded matching s).monitor 1 ms.number ms.line w (messages_exact matching s);
    }

-- the messages are read from the place after the rules, which is the same under any matcher
same_messages : (matching : Matching) (s : List ℕ) → messages_of matching s ≡ messages_of Port s
unfolding messages_of
same_messages matching s = rw (loaded_alike matching s)

pub same_read : ReadAlike
same_read s =
    record { rules = λ a b. sym (same_rules a s) ∙ same_rules b s; messages = λ a b. same_messages a s ∙ sym (same_messages b s) }
