-- Runs cut in two: their times, rates, states and arrivals. Assumes nothing.
use mathlib.Core.Bool.{true, cond, false≢true}
use lib.Dec.{ltb}
use Rattle.tables.specs.Identity.{id_of}
use mathlib.Core.List.{List, [], ◌∷◌, ◌++◌}
use mathlib.Core.Path.{◌≡◌, refl, sym, ◌∙◌}
use Prim.Native.Nat.{ℕ, ◌≤◌}
use native.Mathlib.Omega.{arith}
use Rattle.tables.specs.declared.identity.Id.{Id}
use Rattle.monitor.specs.declared.state.MqttMonitor.{MqttMonitor}
use Rattle.monitor.specs.Runs.{Call}
use Rattle.theorems.specs.Run.{Matcher, time, rate_of, reaches, InOrder, nothing, single, later, OneRate, Silent, done, next, arrived, noted, used}

-- a run that begins at s and ends at e, timestamps never going back
abbrev pub Timed : ℕ → List Call → ℕ → Type 0
Timed s [] e = s ≤ e
Timed s (c ∷ cs) e = (s ≤ time c) × Timed (time c) cs e

pub timed_le : {s e : ℕ} (cs : List Call) → Timed s cs e → s ≤ e
timed_le [] h = h
timed_le (c ∷ cs) h = let r = timed_le cs h.1 in omega (arith, h.0)

-- the same with no end
abbrev pub From : ℕ → List Call → Type 0
From s [] = Unit
From s (c ∷ cs) = (s ≤ time c) × From (time c) cs

chain : {c : Call} {cs : List Call} → InOrder (c ∷ cs) → From (time c) cs
chain (single c) = tt
chain (later h r) = (h, chain r)

pub from_start : (cs : List Call) → InOrder cs → From 0 cs
from_start [] r = tt
from_start (c ∷ cs) r = (omega arith, chain r)

-- the first part of a run in order
pub order_first : (pre post : List Call) → InOrder (pre ++ post) → InOrder pre
order_first [] post r = nothing
order_first (c ∷ []) post r = single c
order_first (c ∷ d ∷ pre) post (later h r) = later h (order_first (d ∷ pre) post r)

-- the part before a call, the part after it, and a part that ends with it
module _ (z : Call) where
  pub until : (s : ℕ) (pre post : List Call) → From s (pre ++ z ∷ post) → Timed s pre (time z)
  until s [] post r = r.0
  until s (c ∷ pre) post r = (r.0, until (time c) pre post r.1)

  pub since : (s : ℕ) (pre post : List Call) → From s (pre ++ z ∷ post) → From (time z) post
  since s [] post r = r.1
  since s (c ∷ pre) post r = since (time c) pre post r.1

  pub to_last : (s : ℕ) (pre : List Call) → From s (pre ++ z ∷ []) → Timed s (pre ++ z ∷ []) (time z)
  to_last s [] r = (r.0, omega arith)
  to_last s (c ∷ pre) r = (r.0, to_last (time c) pre r.1)

-- who has arrived after two runs
pub arrived_two : (matcher : Matcher) (m : MqttMonitor) (l : List Id) (pre post : List Call)
    → arrived matcher m l (pre ++ post) ≡ arrived matcher m (arrived matcher m l pre) post
unfolding arrived
arrived_two matcher m l [] post = refl
arrived_two matcher m l (c ∷ pre) post = arrived_two matcher m (cond (ltb 0 (rate_of matcher m c)) (noted (id_of (used c)) l) l) pre post

-- one rate in both
module _ {matcher : Matcher} {m : MqttMonitor} {x : Id} {R : ℕ} where
  pub rate_first : (pre post : List Call) → OneRate matcher m x R (pre ++ post) → OneRate matcher m x R pre
  rate_first [] post r = done
  rate_first (c ∷ pre) post (next h r) = next h (rate_first pre post r)

  pub rate_rest : (pre : List Call) {post : List Call} → OneRate matcher m x R (pre ++ post) → OneRate matcher m x R post
  rate_rest [] r = r
  rate_rest (c ∷ pre) (next h r) = rate_rest pre r

  pub rate_head : {c : Call} {cs : List Call} → OneRate matcher m x R (c ∷ cs) → reaches matcher m x c ≡ true → rate_of matcher m c ≡ R
  rate_head (next h r) = h

  -- silence, and one message behind it
  pub rate_silent : {cs : List Call} → Silent matcher m x cs → (z : Call) → rate_of matcher m z ≡ R → OneRate matcher m x R (cs ++ z ∷ [])
  rate_silent done z e = next (λ _. e) done
  rate_silent (next q r) z e = next (λ h. absurd (false≢true (sym q ∙ h))) (rate_silent r z e)
