-- Demand 3 of the replies of a run (specs/Printed.antt). A list of replies that is cut cuts the run; a reply to a Publish of the topic is one that reaches the limiter with the
-- topic's identity, under the topic's rate, and the other way round; so the replies that pass are those that specs/Limits.antt counts. Assumes nothing.
use mathlib.Core.Bool.{true, not, ◌&&◌, false≢true}
use mathlib.Core.List.{List, [], ◌∷◌, ◌++◌, append_assoc, nil≢cons, head-eq_of_cons-eq, tail-eq_of_cons-eq}
use mathlib.Core.Path.{◌≡◌, refl, sym, ap, ◌∙◌, subst}
use Prim.Native.Nat.{ℕ, ◌+◌, ◌-◌, ◌*◌, ◌/◌, ◌<◌, ◌≤◌}
use native.Mathlib.Omega.{arith}
use borrow.Author.Tests.{lt-ltb, not-true}
use lib.Dec.{eqb, ltb}
use lib.ListN.{length, length-take}
use Rattle.laws.specs.Lists.{every}
use Rattle.laws.proofs.Tests.{both, alike, fails}
use Rattle.laws.proofs.Cases.{by}
use Rattle.laws.proofs.Every.{every_front, every_back}
use Rattle.slices.specs.Bytes.{same}
use Rattle.slices.proofs.bytes.SameLaws.{same-true, same_refl}
use Rattle.topics.specs.Matching.{matches_by}
use Rattle.tables.specs.Identity.{id_of, is_of}
use Rattle.tables.proofs.identity.IdentityLaws.{is_of_refl, is_of_exact}
use Rattle.monitor.specs.Inspect.{inspect_refusal, inspect_with}
use Rattle.monitor.specs.Prepared.{Prepared}
use Rattle.monitor.specs.Runs.{Call, Reply, answer, shipped, after_by, after, replies_by, replies, is_inspected, is_passed}
use Rattle.monitor.specs.State.{matcher_of, number_of}
use Rattle.monitor.specs.declared.state.MqttMonitor.{MqttMonitor}
use Rattle.monitor.proofs.Chosen.{one_matcher}
use Rattle.trace.specs.AsRun.{replies_of}
use Rattle.trace.specs.Trace.{loaded, messages_of}
use Rattle.trace.proofs.AsRun.{as_run}
use Rattle.theorems.specs.Printed.{publishes, is_quiet, passed_of, topic_rate, calls, TopicLimits, PrintedLimits}
use Rattle.theorems.specs.Run.{Matcher, time, is_allowed, used, is_publish, is_name, rate_of, reaches, InOrder, nothing, single, later, OneRate, done, next, Silent, allowed_of, arrived}
use Rattle.theorems.proofs.Lower.{lower_first, lower_later}
use Rattle.theorems.proofs.Turns.{Like, rate_like, on, on_run, begin}
use Rattle.theorems.proofs.Upper.{upper}

-- calls of two lists
calls_two : (a b : List Reply) → calls (a ++ b) ≡ calls a ++ calls b
calls_two [] b = refl
calls_two (r ∷ a) b = ap (λ (cs : List Call). r.call ∷ cs) (calls_two a b)

-- the first part of a run in order
ordered : (a b : List Call) → InOrder (a ++ b) → InOrder a
ordered [] b o = nothing
ordered (c ∷ []) b o = single c
ordered (c ∷ d ∷ a) b (later h o) = later h (ordered (d ∷ a) b o)

module _ (matcher : Matcher) where
  -- the replies to a run are to its calls
  calls_of : (m : MqttMonitor) (cs : List Call) → calls (replies matcher m cs) ≡ cs
  unfolding replies_by
  calls_of m [] = refl
  calls_of m (c ∷ cs) = ap (λ (l : List Call). c ∷ l) (calls_of (answer matcher m c).monitor cs)

  -- replies that are cut cut the run: the first part is a run, and the second goes on where it ended
  record Cut (m : MqttMonitor) (cs : List Call) (pre post : List Reply) : Type 0 where
    whole : cs ≡ calls pre ++ calls post
    first : pre ≡ replies matcher m (calls pre)
    second : post ≡ replies matcher (after matcher m (calls pre)) (calls post)

  cut : (m : MqttMonitor) (cs : List Call) (pre post : List Reply) → replies matcher m cs ≡ pre ++ post → Cut m cs pre post
  unfolding replies_by after_by
  cut m cs [] post e =
      let w : cs ≡ calls post = sym (calls_of m cs) ∙ ap calls e in
      record { whole = w; first = refl; second = sym e ∙ ap (replies matcher m) w }
  cut m [] (r ∷ pre) post e = absurd (nil≢cons e)
  cut m (c ∷ cs) (r ∷ pre) post e =
      let h = head-eq_of_cons-eq e in
      let k = cut (answer matcher m c).monitor cs pre post (tail-eq_of_cons-eq e) in
      rw (← h)
      (record {
        whole = ap (λ (l : List Call). c ∷ l) k.whole;
        first = ap (λ (l : List Reply). record { call = c; given = answer matcher m c } ∷ l) k.first;
        second = k.second;
      })

  -- a reply at the head of a run's is what `inspect` hands back there
  head : (m : MqttMonitor) (z : Reply) (rest : List Reply) → z ∷ rest ≡ replies matcher m (calls (z ∷ rest))
      → z ≡ record { call = z.call; given = answer matcher m z.call }
  unfolding replies_by
  head m z rest e = head-eq_of_cons-eq e

  -- a call that is inspected is not refused
  taken : (m : MqttMonitor) (c : Call) → eqb (number_of (answer matcher m c).outcome) 0 ≡ true → eqb (inspect_refusal m c.msg c.topic c.payload) 0 ≡ true
  unfolding inspect_with
  taken m c e =
      by (eqb (inspect_refusal m c.msg c.topic c.payload) 0) (λ h. h) (λ h. absurd (false≢true (sym h ∙ (rw h at e))))

  -- nor would it be at the run's start: both states are well formed, and the message is the same
  taken_there : {m₀ m : MqttMonitor} → Like m₀ m → (c : Call)
      → inspect_refusal m c.msg c.topic c.payload ≡ inspect_refusal m₀ c.msg c.topic c.payload
  unfolding inspect_refusal
  taken_there k c = rw (k.sound.formed, k.sound₀.formed)

  -- a Publish that is not refused has the rate of its topic
  same_rate : (m : MqttMonitor) (c : Call) → eqb (inspect_refusal m c.msg c.topic c.payload) 0 ≡ true → is_publish c ≡ true
      → rate_of matcher m c ≡ topic_rate matcher m (used c)
  unfolding rate_of topic_rate
  same_rate m c e p = rw (e, p)

  -- who has a rate is a Publish that is not refused
  rate_parts : (m : MqttMonitor) (c : Call) → ltb 0 (rate_of matcher m c) ≡ true
      → (eqb (inspect_refusal m c.msg c.topic c.payload) 0 ≡ true) × (is_publish c ≡ true)
  unfolding rate_of
  rate_parts m c h =
      both _ _
      (by (eqb (inspect_refusal m c.msg c.topic c.payload) 0 && is_publish c && is_name (used c)) (λ e. (both _ (is_name (used c)) e).0)
      (λ e. absurd (false≢true (rw e at h))))

  -- a topic of at most 32 bytes that the rules limit
  module _ (m₀ : MqttMonitor) (t : List ℕ) (short : length t ≤ 32) (limited : 0 < topic_rate matcher m₀ t) where
    -- whoever reaches the limiter with its identity publishes it, and under its rate
    named : (c : Call) → reaches matcher m₀ (id_of t) c ≡ true → t ≡ used c
    unfolding reaches
    named c h =
        let long : length (used c) < 65536 = rw length-take (omega arith) in
        is_of_exact t (used c) (omega arith) long short (both (ltb 0 (rate_of matcher m₀ c)) (is_of (id_of t) (id_of (used c))) h).1

    parts : (c : Call) → reaches matcher m₀ (id_of t) c ≡ true → (eqb (inspect_refusal m₀ c.msg c.topic c.payload) 0 ≡ true) × (is_publish c ≡ true)
    unfolding reaches
    parts c h = rate_parts m₀ c (both (ltb 0 (rate_of matcher m₀ c)) (is_of (id_of t) (id_of (used c))) h).0

    published : (c : Call) → reaches matcher m₀ (id_of t) c ≡ true → (is_publish c && same t (used c)) ≡ true
    published c h = rw (parts c h).1 (subst (λ (u : List ℕ). same t u ≡ true) (named c h) (same_refl t))

    rated : (c : Call) → reaches matcher m₀ (id_of t) c ≡ true → rate_of matcher m₀ c ≡ topic_rate matcher m₀ t
    rated c h = same_rate m₀ c (parts c h).0 (parts c h).1 ∙ ap (topic_rate matcher m₀) (sym (named c h))

    -- and whoever publishes it, not refused, reaches the limiter
    reached : (c : Call) → eqb (inspect_refusal m₀ c.msg c.topic c.payload) 0 ≡ true → (is_publish c && same t (used c)) ≡ true
        → reaches matcher m₀ (id_of t) c ≡ true
    unfolding reaches
    reached c e h =
        let b = both (is_publish c) (same t (used c)) h in
        let q = same-true t (used c) b.1 in
        let r : rate_of matcher m₀ c ≡ topic_rate matcher m₀ t = same_rate m₀ c e b.0 ∙ ap (topic_rate matcher m₀) (sym q) in
        rw (r, lt-ltb 0 (topic_rate matcher m₀ t) limited) (subst (λ (u : List ℕ). is_of (id_of t) (id_of u) ≡ true) q (is_of_refl (id_of t)))

    -- so a run has one rate, and is silent where no reply is to the topic
    one_rate : (cs : List Call) → OneRate matcher m₀ (id_of t) (topic_rate matcher m₀ t) cs
    one_rate [] = done
    one_rate (c ∷ cs) = next (rated c) (one_rate cs)

    silent : (rs : List Reply) → is_quiet t rs ≡ true → Silent matcher m₀ (id_of t) (calls rs)
    unfolding every
    silent [] q = done
    silent (r ∷ rs) q =
        let b = both (not (publishes t r)) (is_quiet t rs) q in
        next (fails _ (λ h. false≢true (sym (not-true _ b.0) ∙ published r.call h))) (silent rs b.1)

    -- and as many pass as are counted
    agree : {m : MqttMonitor} → Like m₀ m → (c : Call) → eqb (number_of (answer matcher m c).outcome) 0 ≡ true
        → (is_publish c && same t (used c)) ≡ reaches matcher m (id_of t) c
    unfolding reaches
    agree {m} k c i =
        let e : eqb (inspect_refusal m₀ c.msg c.topic c.payload) 0 ≡ true = rw (taken_there k c) at (taken m c i) in
        rw (rate_like matcher k c) (alike _ _ (reached c e) (published c))

    count : {m : MqttMonitor} → Like m₀ m → (cs : List Call) → every is_inspected (replies matcher m cs) ≡ true
        → passed_of t (replies matcher m cs) ≡ allowed_of matcher m (id_of t) cs
    unfolding replies_by passed_of allowed_of every
    count k [] i = refl
    count {m} k (c ∷ cs) i =
        let b = both (eqb (number_of (answer matcher m c).outcome) 0) (every is_inspected (replies matcher (answer matcher m c).monitor cs)) i in
        rw (agree k c b.0, count {m = (answer matcher m c).monitor} (on matcher k c) cs b.1)

  -- the replies of a run from a fresh monitor, its messages in order, none refused
  module _ {m : MqttMonitor} (p : Prepared m) (cs : List Call) (o : InOrder cs) (i : every is_inspected (replies matcher m cs) ≡ true) where
    start : Like m m
    start = begin p

    -- the state after some of them
    there : (first : List Reply) → Like m (after matcher m (calls first))
    there first = on_run matcher start (calls first)

    -- each reply's call is not refused
    reply_taken : (first rest : List Reply) (z : Reply) → replies matcher m cs ≡ first ++ z ∷ rest
        → eqb (inspect_refusal m z.call.msg z.call.topic z.call.payload) 0 ≡ true
    unfolding every
    reply_taken first rest z e =
        let h = head (after matcher m (calls first)) z rest (cut m cs first (z ∷ rest) e).second in
        let j = (both (is_inspected z) (every is_inspected rest) (every_back is_inspected first (z ∷ rest) (rw e at i))).0 in
        rw (taken_there (there first) z.call) at (taken (after matcher m (calls first)) z.call (rw h at j))

    -- the calls up to one are in order
    order_to : (first rest : List Reply) (z : Reply) → replies matcher m cs ≡ first ++ z ∷ rest → InOrder (calls first ++ z.call ∷ [])
    order_to first rest z e =
        let whole : cs ≡ (calls first ++ z.call ∷ []) ++ calls rest =
        (cut m cs first (z ∷ rest) e).whole ∙ sym (append_assoc (calls first) (z.call ∷ []) (calls rest)) in
        ordered (calls first ++ z.call ∷ []) (calls rest) (subst InOrder whole o)

    -- and a reply is its verdict
    verdict : (first rest : List Reply) (z : Reply) → replies matcher m cs ≡ first ++ z ∷ rest
        → is_passed z ≡ is_allowed matcher (after matcher m (calls first)) z.call
    verdict first rest z e = ap is_passed (head (after matcher m (calls first)) z rest (cut m cs first (z ∷ rest) e).second)

    module _ (t : List ℕ) (short : length t ≤ 32) (limited : 0 < topic_rate matcher m t) where
      reach : (first rest : List Reply) (z : Reply) → replies matcher m cs ≡ first ++ z ∷ rest → publishes t z ≡ true → reaches matcher m (id_of t) z.call ≡ true
      reach first rest z e h = reached m t short limited z.call (reply_taken first rest z e) h

      first_passes : (first rest : List Reply) (z : Reply) → replies matcher m cs ≡ first ++ z ∷ rest
          → length (arrived matcher m [] (calls (first ++ z ∷ []))) ≤ 32
          → is_quiet t first ≡ true → publishes t z ≡ true → is_passed z ≡ true
      first_passes first rest z e few q h =
          verdict first rest z e
          ∙ lower_first matcher m p (id_of t) (calls first) z.call (order_to first rest z e) (rw (calls_two first (z ∷ [])) at few) (silent m t short limited first q)
          (reach first rest z e h)

      module _ (first middle rest : List Reply) (a z : Reply) (e : replies matcher m cs ≡ first ++ a ∷ middle ++ z ∷ rest) where
        -- the calls of both parts
        before : calls (first ++ a ∷ middle) ≡ calls first ++ a.call ∷ calls middle
        before = calls_two first (a ∷ middle)

        order_both : InOrder (calls first ++ a.call ∷ calls middle ++ z.call ∷ [])
        order_both = subst (λ (l : List Call). InOrder (l ++ z.call ∷ [])) before (order_to (first ++ a ∷ middle) rest z e)

        reach_first : publishes t a ≡ true → reaches matcher m (id_of t) a.call ≡ true
        reach_first h = reach first (middle ++ z ∷ rest) a (e ∙ append_assoc first (a ∷ middle) (z ∷ rest)) h

        reach_last : publishes t z ≡ true → reaches matcher m (id_of t) z.call ≡ true
        reach_last h = reach (first ++ a ∷ middle) rest z e h

        later_passes : length (arrived matcher m [] (calls (first ++ a ∷ middle ++ z ∷ []))) ≤ 32
            → publishes t a ≡ true → is_quiet t middle ≡ true → publishes t z ≡ true
            → 1000000 ≤ topic_rate matcher m t * (time z.call - time a.call) → is_passed z ≡ true
        later_passes few ha q hz g =
            verdict (first ++ a ∷ middle) rest z e
            ∙ ap (λ (l : List Call). is_allowed matcher (after matcher m l) z.call) before
            ∙ lower_later matcher m p (id_of t) (topic_rate matcher m t) (calls first) (calls middle) a.call z.call order_both
            (rw (calls_two (first ++ a ∷ middle) (z ∷ []), before) at few) (one_rate m t short limited _) (reach_first ha) (silent m t short limited middle q) (reach_last hz) g

        -- the replies from one to the other
        abbrev window : List Reply
        window = a ∷ middle ++ z ∷ []

        window-calls : calls window ≡ a.call ∷ calls middle ++ z.call ∷ []
        window-calls = calls_two (a ∷ middle) (z ∷ [])

        apart : replies matcher m cs ≡ first ++ (window ++ rest)
        apart = e ∙ append_assoc first (a ∷ middle) (z ∷ rest) ∙ ap (λ (l : List Reply). first ++ l) (sym (append_assoc (a ∷ middle) (z ∷ []) rest))

        counted : passed_of t window ≡ allowed_of matcher (after matcher m (calls first)) (id_of t) (a.call ∷ calls middle ++ z.call ∷ [])
        counted =
            let k = cut m cs first (window ++ rest) apart in
            let w = (cut (after matcher m (calls first)) (calls (window ++ rest)) window rest (sym k.second)).first in
            let j = every_front is_inspected window rest (every_back is_inspected first (window ++ rest) (rw apart at i)) in
            ap (passed_of t) w ∙ count m t short limited (there first) (calls window) (rw w at j)
            ∙ ap (allowed_of matcher (after matcher m (calls first)) (id_of t)) window-calls

        not_more : publishes t a ≡ true → publishes t z ≡ true
            → passed_of t window ≤ topic_rate matcher m t + topic_rate matcher m t * (time z.call - time a.call) / 1000000
        not_more ha hz =
            rw counted
            (upper matcher m p (id_of t) (topic_rate matcher m t) (calls first) (calls middle) a.call z.call order_both (one_rate m t short limited _) (reach_first ha)
            (reach_last hz))

      pub topic_limits : TopicLimits matcher m t (topic_rate matcher m t) (replies matcher m cs)
      topic_limits =
          record {
            upper = λ first middle rest a z e ha hz. not_more first middle rest a z e ha hz;
            lower_first = λ first rest z e few q h. first_passes first rest z e few q h;
            lower_later = λ first middle rest y z e few hy q hz g. later_passes first middle rest y z e few hy q hz g;
          }

-- of the shipped `inspect`, which takes the matcher of the state that its run began with
pub shipped_limits : {m : MqttMonitor} → Prepared m → (cs : List Call) → InOrder cs → every is_inspected (replies_by shipped m cs) ≡ true
    → (t : List ℕ) → length t ≤ 32 → 0 < topic_rate (matcher_of m) m t → TopicLimits (matcher_of m) m t (topic_rate (matcher_of m) m t) (replies_by shipped m cs)
shipped_limits {m} p cs o i t short limited =
    let e = (one_matcher m cs).told in rw e (topic_limits (matcher_of m) p cs o (rw e at i) t short limited)

-- of every text, under either matcher
pub printed_limits : PrintedLimits
printed_limits matching s =
    let r = as_run matching s in
    let m : MqttMonitor = (loaded matching s).monitor in
    record {
      as_run = r;
      limits =
          λ o.
          subst
          (λ k. (t : List ℕ) → length t ≤ 32 → 0 < topic_rate (matches_by k) m t → TopicLimits (matches_by k) m t (topic_rate (matches_by k) m t) (replies_of matching s))
          r.choice (shipped_limits r.prepared (messages_of matching s).sent o r.inspected);
    }
