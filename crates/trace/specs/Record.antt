-- Document 01, "The trace": one message's lines, "ordinal, verdict, alert count, then each alert", the closing lines, and writing a record as a call of its own.
-- Assumes nothing.
use Rattle.std.specs.Prelude.{cond, List, [], ◌∷◌, ◌++◌, ℕ, eqb, leb, length, take, Result, Ok, Err}
use Rattle.std.proofs.lemmas.List.Edits.{sets}
use Rattle.slices.specs.Bytes.{bytes}
use Rattle.lines.specs.Line.{number_line, flag_line, hex_line}
use Rattle.monitor.specs.Alerts.{severity_number}
use Rattle.monitor.specs.declared.alerts.MqttInspectResult.{MqttInspectResult}
use Rattle.monitor.specs.declared.alerts.SecurityAlert.{SecurityAlert}
use Rattle.trace.specs.declared.record.Closing.{Closing}
use Rattle.trace.specs.declared.record.RecordRefusal.{RecordRefusal}
use Rattle.trace.specs.declared.record.RecordRefusal.TheVariants.{BadState, TooShort}

-- an alert's four lines
unfoldable pub alert_text : SecurityAlert → List ℕ
alert_text a =
    number_line (bytes "id=") a.id ++ number_line (bytes "kind=") a.source_id ++ number_line (bytes "severity=") (severity_number a.severity)
    ++ hex_line (bytes "hash=") a.payload_hash

-- alerts one after the other
unfoldable pub alerts_text : List SecurityAlert → List ℕ
alerts_text [] = []
alerts_text (a ∷ as') = alert_text a ++ alerts_text as'

-- a message's lines: its ordinal, whether it is allowed, how many alerts, and each of them
unfoldable pub record_text : ℕ → MqttInspectResult → List ℕ
record_text n r =
    number_line (bytes "n=") n ++ flag_line (bytes "allowed=") r.allowed ++ number_line (bytes "alerts=") r.alert_count
    ++ alerts_text (take r.alert_count r.alerts)

-- the closing lines: end number, last or refused line, messages, alerts
unfoldable pub closing_text : ℕ → ℕ → ℕ → ℕ → List ℕ
closing_text number line inspected total =
    number_line (bytes "end=") number ++ number_line (bytes "line=") line ++ number_line (bytes "inspected=") inspected ++ number_line (bytes "total=") total

-- the closing lines as the code has what they say
abbrev pub closing_lines : Closing → List ℕ
closing_lines c = closing_text c.number c.line c.inspected c.total

-- 10 for an alert count over 4, then 28 where the buffer is shorter than the record; 0 is none
unfoldable pub record_refusal : ℕ → ℕ → MqttInspectResult → ℕ
record_refusal room n r = cond (leb r.alert_count 4) (cond (leb (length (record_text n r)) room) 0 28) 10

-- how writing a record ends: 0 and how many bytes stand at the buffer's beginning; or 10 or 28 with nothing written
pub record Written : Type 0 where
  pub number : ℕ
  pub length : ℕ

-- the number of a refusal
abbrev pub record_number : RecordRefusal → ℕ
record_number BadState = 10
record_number TooShort = 28

-- an answer as number and length
abbrev pub written_by : Result ℕ RecordRefusal → Written
written_by (Ok n) = record { number = 0; length = n }
written_by (Err e) = record { number = record_number e; length = 0 }

-- what writing a record answers
unfoldable pub record_written : ℕ → ℕ → MqttInspectResult → Written
record_written room n r =
    cond (eqb (record_refusal room n r) 0)
    (record { number = 0; length = length (record_text n r) })
    (record { number = record_refusal room n r; length = 0 })

-- the buffer after it
unfoldable pub record_kept : List ℕ → ℕ → MqttInspectResult → List ℕ
record_kept d n r = cond (eqb (record_refusal (length d) n r) 0) (sets d 0 (record_text n r)) d
