-- What a call tells is all of its answer: two answers that tell the same are the same. Assumes nothing.
use mathlib.Core.Bool.{cond}
use mathlib.Core.List.{List}
use mathlib.Core.Path.{◌≡◌, refl, sym, ap, ◌∙◌}
use Prim.Native.Nat.{ℕ, ◌≤◌}
use native.Mathlib.Omega.{arith}
use lib.Dec.{eqb}
use Rattle.std.specs.Prelude.{Result, Ok, Err}
use Rattle.topics.specs.declared.covering.Witness.{Witness}
use Rattle.monitor.specs.Covers.{CoverReport, LaterName, told_covers, told_name}
use Rattle.monitor.specs.Ended.{Outcome, Done, Refused, Inspected, told_value, told_done}
use Rattle.monitor.specs.Inspect.{inspected_as}
use Rattle.monitor.specs.Refusal.{refusal_number}
use Rattle.monitor.specs.Standing.{Outlook, Left, told_outlook, told_left}
use Rattle.monitor.specs.State.{number_of}
use Rattle.monitor.specs.declared.inspection.Inspection.{Inspection}
use Rattle.monitor.specs.declared.refusal.Refusal.{Refusal}
use Rattle.monitor.specs.declared.refusal.Refusal.TheVariants.{TableFull, NotHeld, BadInput, Malformed, NotUtf8}
use Rattle.monitor.specs.declared.standing.Left.{Left as LeftHere}
use Rattle.monitor.specs.declared.standing.Outlook.{Outlook as OutlookHere}
use Rattle.monitor.specs.declared.state.MqttMonitor.{MqttMonitor}

-- a refusal by its number
abbrev refusal_of : ℕ → Refusal
refusal_of n = cond (eqb n 6) TableFull (cond (eqb n 7) NotHeld (cond (eqb n 9) BadInput (cond (eqb n 10) Malformed NotUtf8)))

read_back : (e : Refusal) → refusal_of (refusal_number e) ≡ e
read_back TableFull = refl
read_back NotHeld = refl
read_back BadInput = refl
read_back Malformed = refl
read_back NotUtf8 = refl

pub refusal_once : (e f : Refusal) → refusal_number e ≡ refusal_number f → e ≡ f
refusal_once e f p = sym (read_back e) ∙ ap refusal_of p ∙ read_back f

-- no refusal has the number 0
refusal_real : (e : Refusal) → 1 ≤ refusal_number e
refusal_real TableFull = omega arith
refusal_real NotHeld = omega arith
refusal_real BadInput = omega arith
refusal_real Malformed = omega arith
refusal_real NotUtf8 = omega arith

-- the number of a call that is done
abbrev value_of : Outcome → ℕ
value_of (Done value) = value
value_of (Refused number) = 0

-- a refusal tells nothing that a success could
never : {A : Type 0} (e : Refusal) → refusal_number e ≡ 0 → A
never e p = absurd (omega (arith, p, refusal_real e))

pub value_once : (r s : Result ℕ Refusal) → told_value r ≡ told_value s → r ≡ s
value_once (Ok v) (Ok w) p = ap (λ o. Ok (value_of o)) p
value_once (Ok v) (Err f) p = never f (sym (ap number_of p))
value_once (Err e) (Ok w) p = never e (ap number_of p)
value_once (Err e) (Err f) p = ap Err (refusal_once e f (ap number_of p))

pub done_once : (r s : Result Unit Refusal) → told_done r ≡ told_done s → r ≡ s
done_once (Ok v) (Ok w) p = refl
done_once (Ok v) (Err f) p = never f (sym (ap number_of p))
done_once (Err e) (Ok w) p = never e (ap number_of p)
done_once (Err e) (Err f) p = ap Err (refusal_once e f (ap number_of p))

-- an inspection tells the state that it leaves, too
pub inspected_once : (r s : Result Inspection Refusal) (m n : MqttMonitor) → inspected_as r m ≡ inspected_as s n → (r ≡ s) × (m ≡ n)
inspected_once (Ok i) (Ok j) m n p =
    (ap (λ (x : Inspected). Ok (record { stage = x.stage; result = x.result })) p, ap (λ (x : Inspected). x.monitor) p)
inspected_once (Ok i) (Err f) m n p = never f (sym (ap (λ (x : Inspected). number_of x.outcome) p))
inspected_once (Err e) (Ok j) m n p = never e (ap (λ (x : Inspected). number_of x.outcome) p)
inspected_once (Err e) (Err f) m n p =
    (ap Err (refusal_once e f (ap (λ (x : Inspected). number_of x.outcome) p)), ap (λ (x : Inspected). x.monitor) p)

pub outlook_once : (r s : Result OutlookHere Refusal) → told_outlook r ≡ told_outlook s → r ≡ s
outlook_once (Ok o) (Ok q) p = ap (λ (x : Outlook). Ok (record { kind = x.kind; rate = x.rate; opening = x.opening })) p
outlook_once (Ok o) (Err f) p = never f (sym (ap (λ (x : Outlook). x.number) p))
outlook_once (Err e) (Ok q) p = never e (ap (λ (x : Outlook). x.number) p)
outlook_once (Err e) (Err f) p = ap Err (refusal_once e f (ap (λ (x : Outlook). x.number) p))

pub left_once : (r s : Result LeftHere Refusal) → told_left r ≡ told_left s → r ≡ s
left_once (Ok l) (Ok q) p = ap (λ (x : Left). Ok (record { kind = x.kind; rate = x.rate; tokens = x.tokens })) p
left_once (Ok l) (Err f) p = never f (sym (ap (λ (x : Left). x.number) p))
left_once (Err e) (Ok q) p = never e (ap (λ (x : Left). x.number) p)
left_once (Err e) (Err f) p = ap Err (refusal_once e f (ap (λ (x : Left). x.number) p))

pub covers_once : (r s : Result (List ℕ) Refusal) → told_covers r ≡ told_covers s → r ≡ s
covers_once (Ok c) (Ok d) p = ap (λ (x : CoverReport). Ok x.covers) p
covers_once (Ok c) (Err f) p = never f (sym (ap (λ (x : CoverReport). x.number) p))
covers_once (Err e) (Ok d) p = never e (ap (λ (x : CoverReport). x.number) p)
covers_once (Err e) (Err f) p = ap Err (refusal_once e f (ap (λ (x : CoverReport). x.number) p))

pub name_once : (r s : Result Witness Refusal) → told_name r ≡ told_name s → r ≡ s
name_once (Ok w) (Ok v) p = ap (λ (x : LaterName). Ok x.witness) p
name_once (Ok w) (Err f) p = never f (sym (ap (λ (x : LaterName). x.number) p))
name_once (Err e) (Ok v) p = never e (ap (λ (x : LaterName). x.number) p)
name_once (Err e) (Err f) p = ap Err (refusal_once e f (ap (λ (x : LaterName). x.number) p))
