-- Number 10's test, place by place: a table passes exactly where each of its records does, and a state where its five parts do. Assumes nothing.
use mathlib.Core.Bool.{true, ◌&&◌}
use mathlib.Core.Path.{◌≡◌}
use Prim.Native.Nat.{◌≤◌}
use borrow.Author.Tests.{leb-true, le-leb}
use lib.Dec.{leb}
use lib.ListN.{take}
use Rattle.laws.specs.Lists.{every}
use Rattle.laws.proofs.Tests.{both}
use Rattle.tables.specs.Buckets.{bucket_fine}
use Rattle.tables.specs.Rules.{rule_fine}
use Rattle.tables.specs.Trackers.{tracker_fine}
use Rattle.tables.specs.Windows.{window_fine}
use Rattle.monitor.specs.State.{well_formed}
use Rattle.monitor.specs.declared.state.MqttMonitor.{MqttMonitor}

-- the five parts of the test
pub record Formed (m : MqttMonitor) : Type 0 where
  pub count : m.rule_count ≤ 32
  pub rules_fine : every rule_fine (take m.rule_count m.rules) ≡ true
  pub buckets_fine : every bucket_fine m.rate_buckets ≡ true
  pub windows_fine : every window_fine m.connect_windows ≡ true
  pub trackers_fine : every tracker_fine m.ewma_trackers ≡ true

pub formed_parts : (m : MqttMonitor) → well_formed m ≡ true → Formed m
unfolding well_formed
formed_parts m f =
    let n = leb m.rule_count 32 in
    let a = every rule_fine (take m.rule_count m.rules) in
    let b = every bucket_fine m.rate_buckets in
    let c = every window_fine m.connect_windows in
    let d = every tracker_fine m.ewma_trackers in
    let k = both (n && a && b && c) d f in
    let w = both (n && a && b) c k.0 in
    let s = both (n && a) b w.0 in
    let r = both n a s.0 in
    record { count = leb-true _ _ r.0; rules_fine = r.1; buckets_fine = s.1; windows_fine = w.1; trackers_fine = k.1 }

pub parts_formed : (m : MqttMonitor) → Formed m → well_formed m ≡ true
unfolding well_formed
parts_formed m f = rw (le-leb m.rule_count 32 f.count, f.rules_fine, f.buckets_fine, f.windows_fine) f.trackers_fine
