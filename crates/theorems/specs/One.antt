-- One answer (document 01, "How firmly each answer is bound"): a call's promise leaves nothing open and asks nothing, so callers can stand on it alone. Stated over the
-- contract as the checker itself reads it: `ended` is the signature, `Post` what the `ensures` clauses say of arguments, result and lent buffers, `Asked` what `requires` asks.
-- The theorems are in proofs/Answers*.antt, one file a crate; bin/answered holds them to every public function. Assumes nothing.
use Rattle.std.specs.Prelude.{◌≡◌}
use seplogic.Ra.Ura.{Ura}
use base.Logic.{SProp}
use prog.Memory.{Memory}
use prog.Routine.{Routine}
use types.Logic.{Logic}
use contract.Lifetimes.{Lfts}
use contract.Monad.{Fun}
use contract.Notation.{connectives}
use denote.Triple.Clauses.{Ended, AtExit, Clauses}
use denote.Triple.Entry.{Args, Res}

module _ (T : Ended) where
  -- the lifetimes of a call
  abbrev pub Lives : Type 0
  Lives = Lfts T.signature.lifetimes

  -- a claim on the arguments of a call
  abbrev pub In : Type 1
  In = (κs : Lives) → Args T.signature κs → Type 0

  -- a claim on the arguments, the result and the parameters at exit
  abbrev pub Out : Type 1
  Out = (κs : Lives) → Args T.signature κs → Res T.signature κs → AtExit T κs → Type 0

  -- what a call asks holds of any arguments
  abbrev pub Any : In → Type 0
  Any asked = (κs : Lives) (a : Args T.signature κs) → asked κs a

  -- two results that a promise allows for the same arguments are equal
  abbrev pub One : Out → Type 0
  One promise =
      (κs : Lives) (a : Args T.signature κs) (x y : Res T.signature κs) (e f : AtExit T κs)
      → promise κs a x e → promise κs a y f → x ≡ y

  -- and so is what they leave behind: `left` reads it off the parameters at exit
  abbrev pub OneLeft : Out → {L : Type 0} → ((κs : Lives) → AtExit T κs → L) → Type 0
  OneLeft promise left =
      (κs : Lives) (a : Args T.signature κs) (x y : Res T.signature κs) (e f : AtExit T κs)
      → promise κs a x e → promise κs a y f → (x ≡ y) × (left κs e ≡ left κs f)

  -- of a result that is a part of a lent slice, what `seen` reads is the same: the bytes, wherever they lie
  abbrev pub OneRead : Out → {L : Type 0} → ((κs : Lives) → Res T.signature κs → L) → Type 0
  OneRead promise seen =
      (κs : Lives) (a : Args T.signature κs) (x y : Res T.signature κs) (e f : AtExit T κs)
      → promise κs a x e → promise κs a y f → seen κs x ≡ seen κs y

  -- what every result that a promise allows tells, with what is left behind, is what a definition hands back for the arguments
  abbrev pub Tells : Out → {L : Type 0} → ((κs : Lives) → Res T.signature κs → AtExit T κs → L) → ((κs : Lives) → Args T.signature κs → L) → Type 0
  Tells promise told given =
      (κs : Lives) (a : Args T.signature κs) (x : Res T.signature κs) (e : AtExit T κs) → promise κs a x e → told κs x e ≡ given κs a

  -- A call that the checker has no reading of, because it is proved by a walk, has its clauses alone, in any model of the program logic
  abbrev pub Written : Type 2
  Written = (M : Type 1) (𝓤 : Ura M) (𝓛 : Logic 𝓤) → (Memory → SProp 𝓤) → (Routine → Fun 𝓤) → Clauses 𝓤 T

  -- its `ensures` clauses are a promise and no more
  abbrev pub Says : Written → Out → Type 2
  Says clauses promise =
      (M : Type 1) (𝓤 : Ura M) (𝓛 : Logic 𝓤) (mem : Memory → SProp 𝓤) (run : Routine → Fun 𝓤)
      (κs : Lives) (a : Args T.signature κs) (g : (clauses M 𝓤 𝓛 mem run κs a).ghost) (x : Res T.signature κs) (e : AtExit T κs)
      → (clauses M 𝓤 𝓛 mem run κs a).ensures g x e ≡ (connectives 𝓤).⌜◌⌝ (promise κs a x e)

  -- and it has no `requires` clause
  abbrev pub AsksNothing : Written → Type 2
  AsksNothing clauses =
      (M : Type 1) (𝓤 : Ura M) (𝓛 : Logic 𝓤) (mem : Memory → SProp 𝓤) (run : Routine → Fun 𝓤)
      (κs : Lives) (a : Args T.signature κs) (g : (clauses M 𝓤 𝓛 mem run κs a).ghost)
      → (clauses M 𝓤 𝓛 mem run κs a).requires g ≡ (connectives 𝓤).⊤ₛ
