-- Where the limit stands is exact over `inspect`, under any matcher: whatever else a Publish says, inspected at any time it is denied exactly by the kind that its topic's standing has for that time,
-- or allowed (`kind_exact`, `allowed_exact`). A denied one leaves the standing as it was (`tries_stay`), but for a newcomer's, which gets the place of the oldest (`newcomer_stands`,
-- `newcomer_takes`). And the tokens left are those of the bucket that it leaves (`left_tokens`). Assumes nothing.
use mathlib.Core.Bool.{Bool, true, false, cond}
use mathlib.Core.List.{List}
use mathlib.Core.Path.{◌≡◌, refl, sym, ap, ◌∙◌}
use Prim.Native.Nat.{ℕ, ◌+◌, ◌/◌, ◌≤◌, ◌<◌}
use native.Mathlib.Omega.{arith}
use borrow.Author.Tests.{eq-eqb, ne_eqb, le-leb, lt-ltb, le-ltb, leb-true, ltb-true, ltb-false}
use lib.Dec.{eqb, leb, ltb}
use lib.ListN.{length, take, get_or, set, length-take}
use Rattle.laws.proofs.Cases.{by}
use Rattle.laws.proofs.Every.{every_at}
use Rattle.laws.proofs.Tests.{both}
use Rattle.laws.specs.Lists.{none}
use Rattle.topics.specs.Names.{bad_publish}
use Rattle.tables.specs.Buckets.{no_bucket, bucket_fine, holds_bucket, made, decide}
use Rattle.tables.specs.Identity.{id_of}
use Rattle.tables.specs.Scan.{find}
use Rattle.tables.specs.Standing.{opens, later_by, prospect_in, oldest_live}
use Rattle.tables.specs.declared.buckets.RateBucket.{RateBucket}
use Rattle.tables.specs.declared.buckets.RateCheckResult.TheVariants.{Allowed, Limited, EvictedAndDenied}
use Rattle.tables.specs.declared.identity.Id.{Id}
use Rattle.tables.specs.declared.rules.TopicAction.{TopicAction}
use Rattle.tables.specs.declared.rules.TopicRule.{TopicRule}
use Rattle.tables.proofs.ScanLaws.{find-lt}
use Rattle.tables.proofs.buckets.StepLaws.{grants, stored}
use Rattle.tables.proofs.standing.ExactLaws.{result_exact, held_is, limited_stays, newcomer_waits, gives_way, stored_there}
use Rattle.monitor.specs.Gate.{is_block, ruling_of, gate_after, gate_of}
use Rattle.monitor.specs.Inspect.{inspect_refusal, inspect_with}
use Rattle.monitor.specs.Message.{type_number, used_topic, used_payload}
use Rattle.monitor.specs.Plan.{seen_of, spent_of, denial_of, limiter_kind, gate_in, plan_from, plan_of, findings_in}
use Rattle.monitor.specs.Standing.{a_publish, stands_at, standing_by, standing_with, kind_at, left_by, left_in}
use Rattle.monitor.specs.State.{well_formed, matcher_of}
use Rattle.monitor.specs.declared.gate.Gate.{Gate}
use Rattle.monitor.specs.declared.message.MqttMessage.{MqttMessage}
use Rattle.monitor.specs.declared.state.MqttMonitor.{MqttMonitor}
use Rattle.monitor.proofs.Link.{rules_stay, asked}
use Rattle.monitor.proofs.state.FormedLaws.{formed_parts}
use Rattle.monitor.proofs.state.KeptFormed.{kept_formed}

-- two gates that deny alike and hand out one rate
record Alike (g h : Gate) : Type 0 where
  denial_same : g.denial ≡ h.denial
  rate_same : g.rate ≡ h.rate

-- of a Publish, its gate asks the topic alone
publish_gate : (matcher : List ℕ → List ℕ → Bool) (m : MqttMonitor) (msg : MqttMessage) (topic : List ℕ) → type_number msg.packet_type ≡ 3
    → Alike (gate_in matcher m msg topic) (gate_in matcher m a_publish topic)
unfolding gate_of gate_after
publish_gate matcher m msg topic e =
    rw e
    (by (none topic)
    (λ n. rw n (record { denial_same = refl; rate_same = refl }))
    (λ n. by (bad_publish topic)
    (λ b. rw (n, b) (record { denial_same = refl; rate_same = refl }))
    (λ b. by (is_block (ruling_of matcher m.rules m.rule_count m.default_action topic).action)
    (λ k. rw (n, b, k) (record { denial_same = refl; rate_same = refl }))
    (λ k. rw (n, b, k) (record { denial_same = refl; rate_same = refl })))))

-- the gate denies no Publish with 6
not_six : (matcher : List ℕ → List ℕ → Bool) (m : MqttMonitor) (topic : List ℕ) → (gate_in matcher m a_publish topic).denial ≡ 6 → ⊥
unfolding gate_of gate_after
not_six matcher m topic =
    by (none topic)
    (λ n. rw n (λ q. omega arith))
    (λ n. by (bad_publish topic)
    (λ b. rw (n, b) (λ q. omega arith))
    (λ b. by (is_block (ruling_of matcher m.rules m.rule_count m.default_action topic).action)
    (λ k. rw (n, b, k) (λ q. omega arith))
    (λ k. rw (n, b, k) (λ q. omega arith))))

-- the kind that denies a Publish, as `inspect` finds it: by its gate, else by the limiter
abbrev publish_kind : Gate → MqttMonitor → List ℕ → ℕ → ℕ
publish_kind g m topic t = cond (ltb 0 g.denial) g.denial (limiter_kind (spent_of m.rate_buckets g.rate (id_of topic) t).result)

same_kind : (g h : Gate) (m : MqttMonitor) (topic : List ℕ) (t : ℕ) → Alike g h → publish_kind g m topic t ≡ publish_kind h m topic t
same_kind g h m topic t a = rw (a.denial_same, a.rate_same)

kind_of : (ready held : Bool) → limiter_kind (cond ready Allowed (cond held Limited EvictedAndDenied)) ≡ cond ready 0 (cond held 5 6)
kind_of true held = refl
kind_of false true = refl
kind_of false false = refl

module _ (g : Gate) (m : MqttMonitor) (topic : List ℕ) (t : ℕ) (n : length m.rate_buckets ≡ 32) (low : t ≤ 18446744073709551615) where
  abbrev ahead : Bool
  ahead = opens (prospect_in m.rate_buckets (id_of topic)).opening t

  abbrev is_held : Bool
  is_held = (prospect_in m.rate_buckets (id_of topic)).held

  limits : limiter_kind (decide m.rate_buckets (id_of topic) g.rate t).result ≡ cond ahead 0 (cond is_held 5 6)
  limits = ap limiter_kind (result_exact m.rate_buckets (id_of topic) g.rate t (omega arith) low) ∙ kind_of ahead is_held

  told : publish_kind g m topic t ≡ kind_at (standing_by g m topic) t
  unfolding spent_of
  told =
      by (ltb 0 g.denial)
      (λ k. rw k)
      (λ k. by (ltb 0 g.rate) (λ h. rw (k, h) limits) (λ h. rw (k, h, le-leb 0 t (omega arith))))

-- a kind of its own denies, so a message passes exactly when the time has come
opened : (ready held : Bool) → eqb (cond ready 0 (cond held 5 6)) 0 ≡ ready
opened true held = refl
opened false true = refl
opened false false = refl

opens_zero : (g : Gate) (m : MqttMonitor) (topic : List ℕ) (t : ℕ) → eqb (kind_at (standing_by g m topic) t) 0 ≡ opens (standing_by g m topic).opening t
opens_zero g m topic t =
    by (ltb 0 g.denial)
    (λ k. rw k (ne_eqb g.denial 0 (λ z. omega (arith, ltb-true 0 g.denial k))))
    (λ k.
    by (ltb 0 g.rate)
    (λ h. rw (k, h) (opened (opens (prospect_in m.rate_buckets (id_of topic)).opening t) (prospect_in m.rate_buckets (id_of topic)).held))
    (λ h. rw (k, h, le-leb 0 t (omega arith))))

module _ (matcher : List ℕ → List ℕ → Bool) (m : MqttMonitor) (msg : MqttMessage) (topic payload : List ℕ) where
  abbrev used : List ℕ
  used = take (used_topic msg) topic

  abbrev inspected : List ℕ
  inspected = take (used_payload msg) payload

  short : length used ≤ 128
  short = rw length-take (omega arith)

  module _ (e : type_number msg.packet_type ≡ 3) (r : inspect_refusal m msg topic payload ≡ 0) where
    -- who is not refused stands on a well-formed state
    formed : well_formed m ≡ true
    unfolding inspect_refusal
    formed = by (well_formed m) (λ w. w) (λ w. absurd (let z : ◌≡◌ {A = ℕ} 10 0 = rw w at r in omega arith))

    by_gate : standing_with matcher m used ≡ standing_by (gate_in matcher m a_publish used) m used
    unfolding standing_with
    by_gate = rw (formed, le-ltb 128 (length used) short)

    found : (findings_in matcher m msg used inspected).denial ≡ publish_kind (gate_in matcher m msg used) m used msg.timestamp_us
    unfolding plan_of plan_from denial_of seen_of
    found = rw e

    verdict : (inspect_with matcher m msg topic payload).result.allowed ≡ eqb (findings_in matcher m msg used inspected).denial 0
    unfolding inspect_with plan_of plan_from
    verdict = rw (eq-eqb _ _ r)

    module _ (n : length m.rate_buckets ≡ 32) (low : msg.timestamp_us ≤ 18446744073709551615) where
      -- EXACT: it is denied by the kind that the standing has for its time
      pub kind_exact : (findings_in matcher m msg used inspected).denial ≡ kind_at (standing_with matcher m used) msg.timestamp_us
      kind_exact =
          found ∙ same_kind (gate_in matcher m msg used) (gate_in matcher m a_publish used) m used msg.timestamp_us (publish_gate matcher m msg used e)
          ∙ told (gate_in matcher m a_publish used) m used msg.timestamp_us n low ∙ (rw by_gate)

      -- and allowed exactly when its time has come
      pub allowed_exact : (inspect_with matcher m msg topic payload).result.allowed ≡ opens (standing_with matcher m used).opening msg.timestamp_us
      allowed_exact =
          verdict ∙ ap (λ (k : ℕ). eqb k 0) kind_exact
          ∙ (rw by_gate (opens_zero (gate_in matcher m a_publish used) m used msg.timestamp_us))

    -- what the inspection leaves: the rules, the matcher and a well-formed state
    abbrev next : MqttMonitor
    next = (inspect_with matcher m msg topic payload).monitor

    still : gate_in matcher next a_publish used ≡ gate_in matcher m a_publish used
    still =
        let s = rules_stay matcher m msg topic payload in
        ap (λ (rules : List TopicRule). gate_of matcher rules next.rule_count next.default_action a_publish used) s.rules_same
        ∙ ap (λ (count : ℕ). gate_of matcher m.rules count next.default_action a_publish used) s.count_same
        ∙ ap (λ (action : TopicAction). gate_of matcher m.rules m.rule_count action a_publish used) s.default_same

    by_gate_then : standing_with matcher next used ≡ standing_by (gate_in matcher m a_publish used) next used
    unfolding standing_with
    by_gate_then = rw (kept_formed matcher m msg topic payload formed, le-ltb 128 (length used) short, still)

    module _ (n : length m.rate_buckets ≡ 32) (low : msg.timestamp_us ≤ 18446744073709551615) where
      abbrev bs : List RateBucket
      bs = m.rate_buckets

      abbrev id : Id
      id = id_of used

      abbrev rate : ℕ
      rate = (gate_in matcher m a_publish used).rate

      -- where the limiter counts it, its decision is stored
      module _ (h : ltb 0 rate ≡ true) where
        asked_here : ltb 0 (gate_in matcher m msg used).rate ≡ true
        asked_here = rw (publish_gate matcher m msg used e).rate_same h

        tables_then : next.rate_buckets ≡ stored bs (decide bs id rate msg.timestamp_us)
        tables_then =
            asked matcher m msg topic payload (eq-eqb _ _ r) asked_here n
            ∙ ap (λ (k : ℕ). stored bs (decide bs id k msg.timestamp_us)) (publish_gate matcher m msg used e).rate_same

        -- a live bucket of a well-formed state has less than a whole token besides its tokens
        rest_fine : find (holds_bucket id) bs < length bs → (get_or bs (find (holds_bucket id) bs) no_bucket).remainder ≤ 999999
        unfolding holds_bucket
        rest_fine l =
            let b : RateBucket = get_or bs (find (holds_bucket id) bs) no_bucket in
            let live : b.active ≡ true = (both b.active _ (find-lt (holds_bucket id) bs no_bucket l)).0 in
            let fine : bucket_fine b ≡ true = every_at bucket_fine bs no_bucket (find (holds_bucket id) bs) (formed_parts m formed).buckets_fine l in
            leb-true _ _ (both (leb b.id.prefix_len 32) (leb b.remainder 999999) (rw live at fine)).1

        module _ (d : opens (prospect_in bs id).opening msg.timestamp_us ≡ false) where
          not_granted : grants (decide bs id rate msg.timestamp_us).result ≡ false
          not_granted = ap grants (result_exact bs id rate msg.timestamp_us (omega arith) low) ∙ (rw d (denied_either (prospect_in bs id).held))
            where
              denied_either : (held : Bool) → grants (cond held Limited EvictedAndDenied) ≡ false
              denied_either true = refl
              denied_either false = refl

          stays_held : (prospect_in bs id).held ≡ true → prospect_in next.rate_buckets id ≡ prospect_in bs id
          stays_held y =
              let l : find (holds_bucket id) bs < length bs = ltb-true _ _ (sym (held_is bs id) ∙ y) in
              rw tables_then (limited_stays bs id rate msg.timestamp_us l (rest_fine l) not_granted)

          waits_new : (prospect_in bs id).held ≡ false → prospect_in next.rate_buckets id ≡ record { held = true; opening = later_by msg.timestamp_us (999999 / rate + 1) }
          waits_new y =
              let l : length bs ≤ find (holds_bucket id) bs = ltb-false _ _ (sym (held_is bs id) ∙ y) in
              rw tables_then (newcomer_waits bs id rate msg.timestamp_us (omega arith) (ltb-true _ _ h) l not_granted)

          takes_oldest : (prospect_in bs id).held ≡ false → next.rate_buckets ≡ set bs (oldest_live bs) (made id rate 0 msg.timestamp_us)
          takes_oldest y =
              let l : length bs ≤ find (holds_bucket id) bs = ltb-false _ _ (sym (held_is bs id) ∙ y) in
              tables_then ∙ gives_way bs id rate msg.timestamp_us (omega arith) l not_granted

      -- TRYING DOES NOT PROLONG THE WAIT: who is denied, and not by 6, stands where it stood
      pub tries_stay : opens (standing_with matcher m used).opening msg.timestamp_us ≡ false → ((standing_with matcher m used).kind ≡ 6 → ⊥)
          → standing_with matcher next used ≡ standing_with matcher m used
      tries_stay =
          let g : Gate = gate_in matcher m a_publish used in
          rw (by_gate, by_gate_then)
          (by (ltb 0 g.denial)
          (λ k. rw k (λ d f. refl))
          (λ k.
          by (ltb 0 g.rate)
          (λ h.
          rw (k, h)
          (λ d f.
          by (prospect_in bs id).held
          (λ y. rw (stays_held h d y))
          (λ y. absurd (f (rw y)))))
          (λ h. rw (k, h) (λ d f. refl))))

      -- what a standing by 6 says: the gate does not deny, the limiter counts, and the identity is new
      by_six : opens (standing_with matcher m used).opening msg.timestamp_us ≡ false → (standing_with matcher m used).kind ≡ 6
          → let g : Gate = gate_in matcher m a_publish used in
          (ltb 0 g.denial ≡ false) × (ltb 0 rate ≡ true) × (opens (prospect_in bs id).opening msg.timestamp_us ≡ false) × ((prospect_in bs id).held ≡ false)
          × ((standing_with matcher m used).rate ≡ rate)
      by_six =
          let g : Gate = gate_in matcher m a_publish used in
          rw by_gate
          (by (ltb 0 g.denial)
          (λ k. rw k (λ d f. absurd (not_six matcher m used f)))
          (λ k.
          by (ltb 0 g.rate)
          (λ h.
          rw (k, h)
          (λ d f.
          by (prospect_in bs id).held
          (λ y. absurd (let q : ◌≡◌ {A = ℕ} 5 6 = rw y at f in omega arith))
          (λ y. (refl, refl, d, y, refl))))
          (λ h. rw (k, h) (λ d f. absurd (omega arith)))))

      module _ (d : opens (standing_with matcher m used).opening msg.timestamp_us ≡ false) (f : (standing_with matcher m used).kind ≡ 6) where
        -- A NEWCOMER that is denied with 6 has a bucket then, and stands one token later
        pub newcomer_stands : standing_with matcher next used
            ≡ stands_at 0 5 (standing_with matcher m used).rate (later_by msg.timestamp_us (999999 / (standing_with matcher m used).rate + 1))
        newcomer_stands = let s = by_six d f in rw (by_gate_then, s.4, s.0, s.1, waits_new s.1 s.2 s.3)

        -- and WHO GIVES WAY to it is the oldest
        pub newcomer_takes : next.rate_buckets ≡ set bs (oldest_live bs) (made id (standing_with matcher m used).rate 0 msg.timestamp_us)
        newcomer_takes = let s = by_six d f in rw s.4 (takes_oldest s.1 s.2 s.3)

-- what a message leaves, under the monitor's own matcher
module _ (m : MqttMonitor) (msg : MqttMessage) (topic payload : List ℕ) (e : type_number msg.packet_type ≡ 3) (r : inspect_refusal m msg topic payload ≡ 0) where
  abbrev own : List ℕ → List ℕ → Bool
  own = matcher_of m

  abbrev name : List ℕ
  name = take (used_topic msg) topic

  abbrev gate : Gate
  gate = gate_in own m a_publish name

  by_left : left_in m name msg.timestamp_us ≡ left_by gate m name msg.timestamp_us
  unfolding left_in
  by_left = rw (formed own m msg topic payload e r, le-ltb 128 (length name) (short own m msg topic payload))

  left_kind_by : (left_by gate m name msg.timestamp_us).kind ≡ publish_kind gate m name msg.timestamp_us
  left_kind_by = by (ltb 0 gate.denial) (λ k. rw k) (λ k. rw k)

  -- the kind that denies it is the one found
  pub left_kind : (findings_in own m msg name (take (used_payload msg) payload)).denial ≡ (left_in m name msg.timestamp_us).kind
  left_kind =
      found own m msg topic payload e r
      ∙ same_kind (gate_in own m msg name) gate m name msg.timestamp_us (publish_gate own m msg name e)
      ∙ (rw by_left (sym left_kind_by))

  -- where the limiter counts it, its topic's bucket then has the tokens that are said to be left
  pub left_tokens : length m.rate_buckets ≡ 32 → msg.timestamp_us ≤ 18446744073709551615 → 0 < (left_in m name msg.timestamp_us).rate
      → let then = (inspect_with own m msg topic payload).monitor.rate_buckets in
      (get_or then (find (holds_bucket (id_of name)) then) no_bucket).tokens ≡ (left_in m name msg.timestamp_us).tokens
  unfolding spent_of
  left_tokens n low =
      rw by_left
      (by (ltb 0 gate.denial)
      (λ k. rw k (λ z. absurd (omega arith)))
      (λ k.
      rw k
      (λ z.
      let h : ltb 0 gate.rate ≡ true = lt-ltb 0 gate.rate z in
      rw (tables_then own m msg topic payload e r n low h, h) (ap (λ (b : RateBucket). b.tokens) (stored_there m.rate_buckets (id_of name) gate.rate msg.timestamp_us (omega arith))))))
