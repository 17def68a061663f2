-- Document 01, "Corners to prove": P1 to P12, one table. The proof is in proofs/Corners.antt, by computation.
-- Assumes nothing.
use Rattle.std.specs.Prelude.{◌≡◌, Bool, true, false, List, [], ◌∷◌, ◌++◌, ℕ, eqb, drop, replicate}
use Prim.Native.String.{String}
use Rattle.slices.specs.Bytes.{bytes}
use Rattle.topics.specs.Hashes.{fnv1a, djb2, client_hashes}
use Rattle.topics.specs.Matching.{port_matches, standard_matches}
use Rattle.topics.specs.Patterns.{pattern_refusal}
use Rattle.topics.specs.declared.matching.StandardMatch.{StandardMatch}
use Rattle.topics.specs.declared.matching.StandardMatch.TheVariants.{Yes}
use Rattle.tables.specs.Buckets.{decide, empty_bucket}
use Rattle.tables.specs.Identity.{id_of}
use Rattle.tables.specs.Trackers.{feed, empty_tracker}
use Rattle.tables.specs.Windows.{connect, empty_window}
use Rattle.tables.specs.declared.buckets.RateBucket.{RateBucket}
use Rattle.tables.specs.declared.trackers.EwmaTracker.{EwmaTracker}
use Rattle.tables.specs.declared.windows.ClientStormEntry.{ClientStormEntry}
use Rattle.monitor.specs.Inspect.{stored_at}
use Rattle.monitor.specs.Plan.{limiter_kind}

-- the port's answer for a pattern and a topic
abbrev pub port : String → String → Bool
port pattern topic = port_matches (bytes topic) (bytes pattern)

-- the standard matcher's answer
abbrev pub standard : String → String → StandardMatch
standard pattern topic = standard_matches (bytes topic) (bytes pattern)

-- whether the messages of one topic at some times are allowed, under a rate, on a table of buckets
unfoldable pub allowed_at : ℕ → List RateBucket → List ℕ → List Bool
allowed_at rate bs [] = []
allowed_at rate bs (t ∷ ts) =
    let d = decide bs (id_of (bytes "a")) rate t in eqb (limiter_kind d.result) 0 ∷ allowed_at rate (stored_at 32 bs d.at d.bucket) ts

-- whether CONNECTs of one client at some times are denied, by the default threshold and window, on a table of windows
unfoldable pub denied_at : List ClientStormEntry → List ℕ → List Bool
denied_at cs [] = []
denied_at cs (t ∷ ts) = let d = connect cs (client_hashes (bytes "c")) t 5 60000000 in d.storm ∷ denied_at (stored_at 16 cs d.at d.entry) ts

-- the alert and the mean x 256 after each of some sizes of one topic, on a table of trackers
unfoldable pub alerts_of : List EwmaTracker → List ℕ → List (Bool × ℕ)
alerts_of ks [] = []
alerts_of ks (size ∷ sizes) =
    let d = feed ks (id_of (bytes "a")) size 0 in (d.alert, d.tracker.mean_x256) ∷ alerts_of (stored_at 16 ks d.at d.tracker) sizes

-- the table
pub record Corners : Type 0 where
  pub p1 : port "sport/#" "sport" ≡ true
  pub p2 : (port "sport/+" "sport/" ≡ false) × (standard "sport/+" "sport/" ≡ Yes)
  pub p3 : port "+/+" "/finance" ≡ true
  pub p4 : port "sport/+/#" "sport/a" ≡ true
  pub p5 : port "sport/+" "sport/a/b" ≡ false
  pub p6 : (pattern_refusal (bytes "a+/b") ≡ 9) × (pattern_refusal (bytes "a/#/b") ≡ 9)
  pub p7 : (pattern_refusal (bytes "+/+/+") ≡ 0) × (pattern_refusal (bytes "+/+/+/+") ≡ 9)
  pub p8 : (djb2 (bytes "a") ≡ 177670) × (fnv1a (bytes "a") ≡ 0xe40c292c)
  pub p9 :
      allowed_at 2 (replicate 32 empty_bucket) (0 ∷ 0 ∷ 0 ∷ 500000 ∷ 999999 ∷ 1000000 ∷ [])
      ≡ true ∷ true ∷ false ∷ true ∷ false ∷ true ∷ []
  pub p10 :
      (denied_at (replicate 16 empty_window) (0 ∷ 10000000 ∷ 20000000 ∷ 30000000 ∷ 60000000 ∷ []) ≡ false ∷ false ∷ false ∷ false ∷ true ∷ [])
      × (denied_at (replicate 16 empty_window) (0 ∷ 10000000 ∷ 20000000 ∷ 30000000 ∷ 60000001 ∷ []) ≡ false ∷ false ∷ false ∷ false ∷ false ∷ [])
  pub p11 :
      (drop 8 (alerts_of (replicate 16 empty_tracker) (replicate 8 10 ++ (40 ∷ []))) ≡ (false, 3520) ∷ [])
      × (drop 8 (alerts_of (replicate 16 empty_tracker) (replicate 8 10 ++ (41 ∷ []))) ≡ (true, 3552) ∷ [])
  pub p12 : alerts_of (replicate 16 empty_tracker) (65535 ∷ 1 ∷ []) ≡ (false, 16776960) ∷ (false, 524288) ∷ []
