-- A run seen from the buckets: each call leaves them as they are, or is one step of the limiter. Rules, and so the rate of each call, stay what they were at the run's
-- start. Assumes nothing.
use mathlib.Core.Bool.{Bool, false, false≢true}
use mathlib.Core.List.{List, [], ◌∷◌}
use mathlib.Core.Path.{◌≡◌, refl, sym, ◌∙◌}
use Prim.Native.Nat.{ℕ, ◌<◌}
use native.Mathlib.Omega.{arith}
use borrow.Author.Tests.{ltb-true, ltb-false}
use lib.Dec.{eqb, ltb}
use lib.ListN.{length, replicate, length-take, get_or-replicate, get_or-eq_default}
use Rattle.laws.proofs.Cases.{by}
use Rattle.tables.specs.Buckets.{no_bucket, empty_bucket, holds_bucket}
use Rattle.tables.specs.Identity.{id_of}
use Rattle.tables.specs.declared.identity.Id.{Id}
use Rattle.tables.specs.declared.buckets.RateBucket.{RateBucket}
use Rattle.tables.proofs.identity.IdentityLaws.{OfTopic, of_topic}
use Rattle.tables.proofs.buckets.StepLaws.{bucket_at, Absent, Step, step}
use Rattle.monitor.specs.Inspect.{inspect_refusal}
use Rattle.monitor.specs.Plan.{gate_in}
use Rattle.monitor.specs.Sound.{Sound}
use Rattle.monitor.specs.declared.state.MqttMonitor.{MqttMonitor}
use Rattle.monitor.specs.Runs.{Call, answer, after_by, after}
use Rattle.monitor.specs.Prepared.{Prepared}
use Rattle.monitor.proofs.Prepared.{all_free, prepared_sound}
use Rattle.monitor.proofs.Link.{SameRules, refused, rules_stay, not_asked, asked, allowed}
use Rattle.monitor.proofs.SoundInspect.{sound_inspect}
use Rattle.theorems.specs.Run.{Matcher, time, is_allowed, used, rate_of}
use Rattle.theorems.proofs.Holders.{Named, names}
use Rattle.theorems.proofs.Reach.{gate_rate, no_rate}

-- a used topic's identity
pub of_used : (c : Call) → OfTopic (id_of (used c))
of_used c = of_topic (used c) (rw length-take (omega arith))

-- a state of a run beside the one at its start: the same rules, both sound, and the identities of its buckets are those of topics
pub record Like (m₀ m : MqttMonitor) : Type 0 where
  pub same : SameRules m₀ m
  pub sound₀ : Sound m₀
  pub sound : Sound m
  pub named : Named m.rate_buckets

-- one call: it does not reach the limiter and the buckets stay, or it is a step
pub data Turn (T : List RateBucket) (rate : ℕ) (c : Call) : List RateBucket → Bool → Type 0 where
  idle : {ok : Bool} → rate ≡ 0 → Turn T rate c T ok
  stepped : {T' : List RateBucket} {ok : Bool} → 0 < rate → Step T (id_of (used c)) rate (time c) T' ok → Turn T rate c T' ok

module _ (matcher : Matcher) where
  -- rates stay
  pub rate_like : {m₀ m : MqttMonitor} → Like m₀ m → (c : Call) → rate_of matcher m c ≡ rate_of matcher m₀ c
  unfolding rate_of inspect_refusal
  rate_like k c = rw (k.sound.formed, k.sound₀.formed, k.same.rules_same, k.same.count_same)

  turn_here : (m : MqttMonitor) (c : Call) → length m.rate_buckets ≡ 32
      → Turn m.rate_buckets (rate_of matcher m c) c (answer matcher m c).monitor.rate_buckets (is_allowed matcher m c)
  turn_here m c l =
      by (eqb (inspect_refusal m c.msg c.topic c.payload) 0)
      (λ e.
      by (ltb 0 (gate_in matcher m c.msg (used c)).rate)
      (λ h.
      rw (← gate_rate matcher m c e, asked matcher m c.msg c.topic c.payload e h l, allowed matcher m c.msg c.topic c.payload e h)
      (stepped (ltb-true _ _ h) (step m.rate_buckets (id_of (used c)) (gate_in matcher m c.msg (used c)).rate (time c) (omega arith))))
      (λ h. rw (← gate_rate matcher m c e, not_asked matcher m c.msg c.topic c.payload e h) (idle (omega (arith, ltb-false 0 (gate_in matcher m c.msg (used c)).rate h)))))
      (λ e. rw (refused matcher m c.msg c.topic c.payload e) (idle (no_rate matcher m c e)))

  pub turn : {m₀ m : MqttMonitor} → Like m₀ m → (c : Call)
      → Turn m.rate_buckets (rate_of matcher m₀ c) c (answer matcher m c).monitor.rate_buckets (is_allowed matcher m c)
  turn {m₀} {m} k c = rw (rate_like k c) at (turn_here m c k.sound.buckets_sound.size)

-- an inspection keeps the table's names
turn_named : {T T' : List RateBucket} {rate : ℕ} {c : Call} {ok : Bool} → Named T → Turn T rate c T' ok → Named T'
turn_named n (idle e) = n
turn_named {c = c} n (stepped p s) = names n (of_used c) s

-- the run goes on, to any sound state of the same rules whose buckets are named
pub goes_on : {m₀ m n : MqttMonitor} → Like m₀ m → SameRules m n → Sound n → Named n.rate_buckets → Like m₀ n
goes_on k r s n =
    record {
      same =
          record {
            rules_same = r.rules_same ∙ k.same.rules_same;
            count_same = r.count_same ∙ k.same.count_same;
            default_same = r.default_same ∙ k.same.default_same;
            choice_same = r.choice_same ∙ k.same.choice_same;
          };
      sound₀ = k.sound₀;
      sound = s;
      named = n;
    }

-- by an inspection
pub on : (matcher : Matcher) {m₀ m : MqttMonitor} → Like m₀ m → (c : Call) → Like m₀ (answer matcher m c).monitor
on matcher {m₀} {m} k c =
    goes_on k (rules_stay matcher m c.msg c.topic c.payload) (sound_inspect matcher k.sound c.msg c.topic c.payload)
    (turn_named k.named (turn matcher k c))

pub on_run : (matcher : Matcher) {m₀ m : MqttMonitor} → Like m₀ m → (cs : List Call) → Like m₀ (after matcher m cs)
unfolding after_by
on_run matcher k [] = k
on_run matcher {m₀ = m₀} {m = m} k (c ∷ cs) = on_run matcher {m = (answer matcher m c).monitor} (on matcher k c) cs

-- a fresh monitor has no live bucket
pub free_place : (j : ℕ) → (bucket_at (replicate 32 empty_bucket) j).active ≡ false
free_place j =
    by (ltb j 32) (λ h. rw (get_or-replicate 32 j empty_bucket no_bucket (ltb-true j 32 h)))
    (λ h. rw (get_or-eq_default (replicate 32 empty_bucket) no_bucket {n = j} (ltb-false j 32 h)))

-- so no one is in it
pub no_one : {m : MqttMonitor} → Prepared m → (x : Id) → Absent x m.rate_buckets
unfolding holds_bucket
no_one p x = rw (all_free p) (record { none = λ j. rw (free_place j) })

-- and a run begins
pub begin : {m : MqttMonitor} → Prepared m → Like m m
begin p =
    record {
      same = record { rules_same = refl; count_same = refl; default_same = refl; choice_same = refl };
      sound₀ = prepared_sound p;
      sound = prepared_sound p;
      named = rw (all_free p) (record { name = λ j h. absurd (false≢true (sym (free_place j) ∙ h)) });
    }
