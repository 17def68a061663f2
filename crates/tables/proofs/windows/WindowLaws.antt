-- CONNECT windows: the stamps counted, and what the crates above need: the window handed back is fine if the table's were. Assumes nothing.
use mathlib.Core.Path.{◌≡◌, refl}
use mathlib.Core.Bool.{Bool, true, false, cond, not, ◌||◌}
use mathlib.Core.List.{List}
use Prim.Native.Nat.{ℕ, ◌+◌, ◌<◌}
use native.Mathlib.Omega.{arith}
use borrow.Author.Tests.{le-leb, ltb-true}
use lib.Dec.{leb, ltb}
use lib.ListN.{length, get_or}
use Rattle.std.specs.List.{count_by}
use Rattle.std.proofs.lemmas.List.Recursion.{is_count_by}
use Rattle.laws.proofs.Cases.{by}
use Rattle.topics.specs.declared.hashes.ClientHashes.{ClientHashes}
use Rattle.tables.specs.declared.windows.ClientStormEntry.{ClientStormEntry}
use Rattle.tables.specs.declared.windows.ConnectDecision.{ConnectDecision}
use Rattle.tables.specs.Scan.{seat}
use Rattle.tables.specs.Windows.{fresh_window, recorded, count_from, holds_client, no_window, connect_at, connect, window_fine}
use Rattle.tables.proofs.LookupLaws.{looked_up}

-- what a newcomer's place is chosen by: a free one, else the least last-seen
abbrev pub is_free : ClientStormEntry → Bool
is_free e = not e.active

abbrev pub last_seen : ClientStormEntry → ℕ
last_seen e = e.last_seen_us

-- the stamps at or above a start, counted by a chain
pub count_from_by : (start : ℕ) (l : List ℕ) → count_from start l ≡ count_by (λ s. leb start s) l
unfolding count_from
count_from_by start = is_count_by (count_from start) (λ s. leb start s) refl (λ s l. by (leb start s) (λ e. rw e refl) (λ e. rw e (omega arith)))

-- recording keeps a window fine: the count stops at 16
recorded_fine : (e : ClientStormEntry) (t : ℕ) → window_fine e ≡ true → window_fine (recorded e t) ≡ true
unfolding recorded
recorded_fine e t = go e.active (ltb e.count 16) refl
  where
    go : (a b : Bool) → ltb e.count 16 ≡ b → (not a || leb e.count 16) ≡ true → (not a || leb (cond b (e.count + 1) e.count) 16) ≡ true
    go false b l p = refl
    go true true l p = le-leb (e.count + 1) 16 (omega (arith, ltb-true))
    go true false l p = p

-- what a CONNECT does, from the search for the client's window and the choice of a place
module _ (cs : List ClientStormEntry) (h : ClientHashes) (t threshold window : ℕ) where
  -- the answer at a place
  abbrev at : ℕ → ClientStormEntry → ConnectDecision
  at i e = connect_at i e t threshold window

  connect_either : (P : ConnectDecision → Type 0) → ((i : ℕ) → i < length cs → holds_client h (get_or cs i no_window) ≡ true → P (at i (get_or cs i no_window)))
      → P (at (seat is_free last_seen cs) (fresh_window h)) → P (connect cs h t threshold window)
  unfolding connect
  connect_either = λ P a b. looked_up (holds_client h) cs no_window at (seat is_free last_seen cs) (fresh_window h) P a (λ _. b)

  -- the window handed back is fine, if all of the table's are
  pub connect_fine : ((j : ℕ) → j < length cs → window_fine (get_or cs j no_window) ≡ true) → window_fine (connect cs h t threshold window).entry ≡ true
  connect_fine fine =
      connect_either (λ d. window_fine d.entry ≡ true) (λ i l e. recorded_fine (get_or cs i no_window) t (fine i l)) (recorded_fine (fresh_window h) t refl)
