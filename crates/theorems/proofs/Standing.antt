-- Where the limit stands, of the shipped `inspect`: the laws of `monitor` under the matcher that the state chose, which it keeps. Assumes nothing.
use mathlib.Core.Bool.{Bool, false}
use mathlib.Core.List.{List}
use mathlib.Core.Path.{◌≡◌, sym, ap, ◌∙◌}
use Prim.Native.Nat.{ℕ, ◌≤◌}
use native.Mathlib.Omega.{arith}
use borrow.Author.Tests.{eqb-true}
use Rattle.topics.specs.Matching.{matches_by}
use Rattle.tables.specs.Standing.{opens}
use Rattle.monitor.specs.Message.{type_number}
use Rattle.monitor.specs.Runs.{Call, shipped}
use Rattle.monitor.specs.Standing.{standing_with}
use Rattle.monitor.specs.State.{matcher_of}
use Rattle.monitor.specs.declared.state.MqttMonitor.{MqttMonitor}
use Rattle.monitor.proofs.Chosen.{inspect_keeps}
use Rattle.monitor.proofs.StandingExact.{kind_exact, allowed_exact, tries_stay, newcomer_stands, newcomer_takes, left_kind, left_tokens}
use Rattle.theorems.specs.Run.{time, used}
use Rattle.theorems.specs.Shipped.{passes}
use Rattle.theorems.specs.Standing.{Published, Standing, before, after}

module _ (m : MqttMonitor) (c : Call) (p : Published m c) where
  is_publish : type_number c.msg.packet_type ≡ 3
  is_publish = eqb-true _ _ p.publish

  low : time c ≤ 18446744073709551615
  low = omega (arith, p.fits)

  exact : passes shipped m c ≡ opens (before m c).opening (time c)
  exact = allowed_exact (matcher_of m) m c.msg c.topic c.payload is_publish p.taken p.table low

  -- the state after it has the same matcher
  kept : after m c ≡ standing_with (matcher_of m) (shipped m c).monitor (used c)
  kept = ap (λ (matcher : List ℕ → List ℕ → Bool). standing_with matcher (shipped m c).monitor (used c)) (ap matches_by (inspect_keeps (matcher_of m) m c))

  not_yet : passes shipped m c ≡ false → opens (before m c).opening (time c) ≡ false
  not_yet d = sym exact ∙ d

pub standing : Standing
standing =
    record {
      exact = exact;
      by_kind = λ m c p. kind_exact (matcher_of m) m c.msg c.topic c.payload (is_publish m c p) p.taken p.table (low m c p);
      tries =
          λ m c p d f.
          kept m c p ∙ tries_stay (matcher_of m) m c.msg c.topic c.payload (is_publish m c p) p.taken p.table (low m c p) (not_yet m c p d) f;
      newcomer =
          λ m c p d f.
          kept m c p ∙ newcomer_stands (matcher_of m) m c.msg c.topic c.payload (is_publish m c p) p.taken p.table (low m c p) (not_yet m c p d) f;
      gives_way =
          λ m c p d f. newcomer_takes (matcher_of m) m c.msg c.topic c.payload (is_publish m c p) p.taken p.table (low m c p) (not_yet m c p d) f;
      left_kind = λ m c p. left_kind m c.msg c.topic c.payload (is_publish m c p) p.taken;
      left_tokens = λ m c p z. left_tokens m c.msg c.topic c.payload (is_publish m c p) p.taken p.table (low m c p) z;
    }
