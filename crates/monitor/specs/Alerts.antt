-- Document 01, "Order inside one inspection": the kinds of a message's alerts in their order, and what each alert carries. Severity and hash go by the kind;
-- ids and the total are counted on.
-- Assumes nothing.
use Rattle.std.specs.Prelude.{Bool, true, false, cond, ◌||◌, ℕ, ◌+◌, ◌%◌, ◌^◌, min, eqb, ltb, take, replicate, set}
use mathlib.Core.List.{List, [], ◌∷◌, ◌++◌, foldl, map}
use Rattle.monitor.specs.declared.alerts.AlertSeverity.{AlertSeverity}
use Rattle.monitor.specs.declared.alerts.AlertSeverity.TheVariants.{Info, Low, Medium, High, Critical}
use Rattle.monitor.specs.declared.alerts.SecurityAlert.{SecurityAlert}
use Rattle.monitor.specs.declared.alerts.Raised.{Raised}
use Rattle.monitor.specs.declared.alerts.Findings.{Findings}

-- a severity's number
abbrev pub severity_number : AlertSeverity → ℕ
severity_number Info = 0
severity_number Low = 1
severity_number Medium = 2
severity_number High = 3
severity_number Critical = 4

-- 1, 6 and 9 are High; 4, 7 and 8 Low; all else is Medium
unfoldable pub severity_of : ℕ → AlertSeverity
severity_of k =
    cond (eqb k 1 || eqb k 6 || eqb k 9) High
    (cond (eqb k 4 || eqb k 7 || eqb k 8) Low
    Medium)

-- 3 and 7 carry the payload hash, all else 32 zero bytes
unfoldable pub hash_of : List ℕ → ℕ → List ℕ
hash_of hash k = cond (eqb k 3 || eqb k 7) hash (replicate 32 0)

-- one element, or none
abbrev pub when : Bool → ℕ → List ℕ
when true k = k ∷ []
when false k = []

-- the kinds of what was found, in the order of one inspection: clock, broad Subscribe, QoS, the one that denies, payload
unfoldable pub kinds_of : Findings → List ℕ
kinds_of f =
    when f.clock 8 ++ when f.broad 11 ++ when f.qos 4 ++ when (ltb 0 f.denial) f.denial ++ when f.anomaly 7

-- the kinds that deny a message
unfoldable pub denies : ℕ → Bool
denies k = eqb k 1 || eqb k 2 || eqb k 3 || eqb k 5 || eqb k 6 || eqb k 9 || eqb k 10

-- the kinds of the first alerts of an array
unfoldable pub kinds_among : ℕ → List SecurityAlert → List ℕ
kinds_among n alerts = map (λ a. a.source_id) (take n alerts)

-- ids count on and skip 0 at the wrap
abbrev pub id_after : ℕ → ℕ
id_after id = cond (eqb ((id + 1) % 2 ^ 64) 0) 1 ((id + 1) % 2 ^ 64)

-- totals are capped at 2 ^ 64 - 1
abbrev pub counted : ℕ → ℕ
counted n = min (n + 1) 18446744073709551615

-- an alert of a kind
abbrev pub alert_of : List ℕ → ℕ → ℕ → ℕ → SecurityAlert
alert_of hash t id k =
    record { id = id; timestamp_us = t; payload_hash = hash_of hash k; severity = severity_of k; source_id = k }

-- no alert, as in a place past the count
abbrev pub no_alert : SecurityAlert
no_alert = record { id = 0; timestamp_us = 0; payload_hash = replicate 32 0; severity = Info; source_id = 0 }

-- nothing raised yet
abbrev pub none_raised : ℕ → ℕ → Raised
none_raised id total = record { count = 0; alerts = replicate 4 no_alert; next_id = id; total = total }

-- one alert more; there is room for four
unfoldable pub raise : List ℕ → ℕ → Raised → ℕ → Raised
raise hash t a k =
    cond (ltb a.count 4)
    (record {
      count = a.count + 1;
      alerts = set a.alerts a.count (alert_of hash t a.next_id k);
      next_id = id_after a.next_id;
      total = counted a.total;
    })
    a

-- all alerts of a message
unfoldable pub raise_all : List ℕ → ℕ → ℕ → ℕ → List ℕ → Raised
raise_all hash t id total kinds = foldl (raise hash t) (none_raised id total) kinds
