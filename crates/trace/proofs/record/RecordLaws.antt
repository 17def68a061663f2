-- How a message's lines grow by one alert (`alerts_more`), and how long they are at most: 121 bytes an alert, 528 a record, 109 the closing lines. A sum of lengths as the code takes it, each
-- capped at the largest 64-bit number, is the length of the text (`alert_sum`, `record_sum`, `closing_sum`). Assumes nothing.
use Prim.Native.Nat.{ℕ, ◌+◌, ◌^◌, ◌≤◌, ◌<◌}
use mathlib.Core.Path.{◌≡◌, refl, ap}
use mathlib.Core.Bool.{Bool}
use mathlib.Core.List.{List, [], ◌∷◌, ◌++◌, map, append_assoc}
use native.Mathlib.Omega.{arith}
use native.Mathlib.Numerals.{add-one}
use lib.ListN.{length, take, get_or, length-append, length-map}
use lib.Seq.{take-suc, take_all}
use Rattle.slices.specs.Bytes.{bytes}
use Rattle.lines.specs.Decimal.{decimal}
use Rattle.lines.specs.Line.{number_line, flag_line, hex_line, capped}
use Rattle.lines.proofs.put.DecimalLaws.{decimal_short, decimal_20}
use Rattle.lines.proofs.lengths.LineLaws.{number_line-length, flag_line-length, hex_line-length}
use Rattle.monitor.specs.Alerts.{severity_number}
use Rattle.monitor.specs.declared.alerts.AlertSeverity.{AlertSeverity}
use Rattle.monitor.specs.declared.alerts.AlertSeverity.TheVariants.{Info, Low, Medium, High, Critical}
use Rattle.monitor.specs.declared.alerts.MqttInspectResult.{MqttInspectResult}
use Rattle.monitor.specs.declared.alerts.SecurityAlert.{SecurityAlert}
use Rattle.std.specs.Prelude.{Result, Ok, Err}
use Rattle.trace.specs.Record.{alert_text, alerts_text, record_text, closing_text, Written, written_by}
use Rattle.trace.specs.declared.record.RecordRefusal.{RecordRefusal}
use Rattle.trace.specs.declared.record.RecordRefusal.TheVariants.{BadState, TooShort}

-- what stands past the end of an array of alerts, as the checker reads it
abbrev pub blank : SecurityAlert
blank = record { id = 0; timestamp_us = 0; payload_hash = []; severity = Info; source_id = 0 }

alerts_append : (a b : List SecurityAlert) → alerts_text (a ++ b) ≡ alerts_text a ++ alerts_text b
unfolding alerts_text
alerts_append [] b = refl
alerts_append (x ∷ a) b = rw (alerts_append a b, append_assoc)

alerts_one : (a : SecurityAlert) → alerts_text (a ∷ []) ≡ alert_text a ++ []
unfolding alerts_text
alerts_one a = refl

append_none : (l : List ℕ) → l ++ [] ≡ l
append_none [] = refl
append_none (b ∷ l) = rw (append_none l)

-- one alert more
pub alerts_more : (l : List SecurityAlert) (i : ℕ) → i < length l → alerts_text (take (i + 1) l) ≡ alerts_text (take i l) ++ alert_text (get_or l i blank)
alerts_more l i h = rw (add-one, take-suc l i blank, alerts_append, alerts_one, append_none)

-- all alerts, where as many as there are, or more, are asked for
pub alerts_all : (l : List SecurityAlert) (i count : ℕ) → length l ≤ i → i ≤ count → alerts_text (take i l) ≡ alerts_text (take count l)
alerts_all l i count h g = rw (take_all i l h, take_all count l (omega arith))

-- a list is as long as what it is mapped to
pub mapped_long : {A B : Type 0} (f : A → B) (l : List A) (n : ℕ) → length (map f l) ≡ n → length l ≡ n
mapped_long f l n e = rw (length-map l f) at e

number_short : (key : List ℕ) (n d : ℕ) → length (decimal n) ≤ d → length (number_line key n) ≤ length key + d + 1
number_short key n d h = omega (arith, number_line-length key n)

digit : (s : AlertSeverity) → severity_number s < 10
digit Info = omega arith
digit Low = omega arith
digit Medium = omega arith
digit High = omega arith
digit Critical = omega arith

-- an alert as the types of its fields have it
pub record Typed (a : SecurityAlert) : Type 0 where
  pub id64 : a.id < 2 ^ 64
  pub kind32 : a.source_id < 2 ^ 32
  pub hash32 : length a.payload_hash ≡ 32

module _ (a : SecurityAlert) where
  alert_length : length (alert_text a) ≡ length (number_line (bytes "id=") a.id) + length (number_line (bytes "kind=") a.source_id)
      + length (number_line (bytes "severity=") (severity_number a.severity)) + length (hex_line (bytes "hash=") a.payload_hash)
  unfolding alert_text
  alert_length = simp length-append

  pub alert_short : Typed a → length (alert_text a) ≤ 121
  alert_short t =
      let p = number_short (bytes "id=") a.id 20 (decimal_20 _ t.id64) in
      let q = number_short (bytes "kind=") a.source_id 10 (decimal_short 9 _ (omega (arith, t.kind32))) in
      let r = number_short (bytes "severity=") (severity_number a.severity) 1 (decimal_short 0 _ (digit a.severity)) in
      omega (arith, alert_length, hex_line-length (bytes "hash=") a.payload_hash, t.hash32)

  pub alert_sum : {p q n r s : ℕ} → Typed a → p ≡ capped (length (number_line (bytes "id=") a.id))
      → q ≡ capped (length (number_line (bytes "kind=") a.source_id)) → n ≡ severity_number a.severity → r ≡ capped (length (number_line (bytes "severity=") n))
      → s ≡ capped (length (hex_line (bytes "hash=") a.payload_hash)) → (p + q + r + s ≡ length (alert_text a)) × (p + q + r + s ≤ 121)
  alert_sum {r = r} t ep eq en er es =
      let h = alert_short t in
      let e : r ≡ capped (length (number_line (bytes "severity=") (severity_number a.severity))) = rw en at er in
      (omega (arith, alert_length), omega (arith, alert_length))

module _ (n : ℕ) (r : MqttInspectResult) where
  record_length : length (record_text n r) ≡ length (number_line (bytes "n=") n) + length (flag_line (bytes "allowed=") r.allowed)
      + length (number_line (bytes "alerts=") r.alert_count) + length (alerts_text (take r.alert_count r.alerts))
  unfolding record_text
  record_length = simp length-append

  pub record_short : n < 2 ^ 64 → r.alert_count < 2 ^ 8 → length (alerts_text (take r.alert_count r.alerts)) ≤ 484 → length (record_text n r) ≤ 528
  record_short h g l =
      let p = number_short (bytes "n=") n 20 (decimal_20 n h) in
      let q = number_short (bytes "alerts=") r.alert_count 3 (decimal_short 2 _ (omega (arith, g))) in
      omega (arith, record_length, flag_line-length (bytes "allowed=") r.allowed)

  pub record_sum : {p q k l : ℕ} → n < 2 ^ 64 → r.alert_count < 2 ^ 8 → p ≡ capped (length (number_line (bytes "n=") n))
      → ((on : Bool) → q ≡ capped (length (flag_line (bytes "allowed=") on))) → k ≡ capped (length (number_line (bytes "alerts=") r.alert_count))
      → (l ≡ length (alerts_text (take r.alert_count r.alerts))) × (l ≤ 484) → (p + q + k + l ≡ length (record_text n r)) × (p + q + k + l ≤ 528)
  record_sum h g ep eq ek el =
      let s = record_short h g (omega (arith, el)) in
      let f = eq r.allowed in
      (omega (arith, record_length), omega (arith, record_length))

module _ (number line inspected total : ℕ) where
  closing_length : length (closing_text number line inspected total) ≡ length (number_line (bytes "end=") number) + length (number_line (bytes "line=") line)
      + length (number_line (bytes "inspected=") inspected) + length (number_line (bytes "total=") total)
  unfolding closing_text
  closing_length = simp length-append

  module _ (a : number < 2 ^ 64) (b : line < 2 ^ 64) (c : inspected < 2 ^ 64) (d : total < 2 ^ 64) where
    pub closing_short : length (closing_text number line inspected total) ≤ 109
    closing_short =
        let p = number_short (bytes "end=") number 20 (decimal_20 number a) in
        let q = number_short (bytes "line=") line 20 (decimal_20 line b) in
        let r = number_short (bytes "inspected=") inspected 20 (decimal_20 inspected c) in
        let s = number_short (bytes "total=") total 20 (decimal_20 total d) in
        omega (arith, closing_length)

    pub closing_sum : {p q r s : ℕ} → p ≡ capped (length (number_line (bytes "end=") number)) → q ≡ capped (length (number_line (bytes "line=") line))
        → r ≡ capped (length (number_line (bytes "inspected=") inspected)) → s ≡ capped (length (number_line (bytes "total=") total))
        → (p + q + r + s ≡ length (closing_text number line inspected total)) × (p + q + r + s ≤ 109)
    closing_sum ep eq er es = (omega (arith, closing_length, closing_short), omega (arith, closing_length, closing_short))

-- number and length tell the whole answer
pub written_once : (r s : Result ℕ RecordRefusal) → written_by r ≡ written_by s → r ≡ s
written_once (Ok m) (Ok n) e = ap Ok (ap (λ (w : Written). w.length) e)
written_once (Ok m) (Err BadState) e = let k = ap (λ (w : Written). w.number) e in absurd (omega (arith, k))
written_once (Ok m) (Err TooShort) e = let k = ap (λ (w : Written). w.number) e in absurd (omega (arith, k))
written_once (Err BadState) (Ok n) e = let k = ap (λ (w : Written). w.number) e in absurd (omega (arith, k))
written_once (Err TooShort) (Ok n) e = let k = ap (λ (w : Written). w.number) e in absurd (omega (arith, k))
written_once (Err BadState) (Err BadState) e = refl
written_once (Err BadState) (Err TooShort) e = let k = ap (λ (w : Written). w.number) e in absurd (omega (arith, k))
written_once (Err TooShort) (Err BadState) e = let k = ap (λ (w : Written). w.number) e in absurd (omega (arith, k))
written_once (Err TooShort) (Err TooShort) e = refl
