-- The table of CONNECT windows stays sound: all free at the start, and under a CONNECT. A client's own window keeps its hashes; a newcomer's were not held. Assumes nothing.
use mathlib.Core.Bool.{true, false, ◌&&◌, true≢false, false≢true}
use mathlib.Core.List.{List}
use mathlib.Core.Path.{◌≡◌, refl, sym, ◌∙◌}
use Prim.Native.Nat.{ℕ, ◌<◌}
use native.Mathlib.Omega.{arith}
use borrow.Author.Tests.{eqb-true, eq-eqb}
use lib.Dec.{eqb}
use lib.ListN.{length, get_or, set, replicate, length-set, get_or-replicate}
use Rattle.laws.proofs.Tests.{both, fails}
use Rattle.laws.proofs.Lists.{each, pairs}
use Rattle.topics.specs.declared.hashes.ClientHashes.{ClientHashes}
use Rattle.tables.specs.Scan.{seat}
use Rattle.tables.specs.Windows.{holds_client, recorded, fresh_window, connect, connect_at, no_window, empty_window}
use Rattle.tables.specs.declared.windows.ClientStormEntry.{ClientStormEntry}
use Rattle.tables.specs.declared.windows.ConnectDecision.{ConnectDecision}
use Rattle.tables.proofs.ScanLaws.{seat-lt}
use Rattle.tables.proofs.windows.WindowLaws.{is_free, last_seen}
use Rattle.tables.proofs.LookupLaws.{looked_up}
use Rattle.monitor.specs.Sound.{same_client, SoundWindows}

-- two windows are not both live with one client
abbrev Apart : ClientStormEntry → ClientStormEntry → Type 0
Apart a b = a.active ≡ true → b.active ≡ true → same_client a b ≡ false

-- all free
pub windows_fresh : SoundWindows (replicate 16 empty_window)
windows_fresh =
    record {
      size = refl;
      free = λ i h e. get_or-replicate 16 i empty_window no_window h;
      long = λ i h. rw (get_or-replicate 16 i empty_window no_window h);
      apart = λ i j l h e f. absurd (false≢true (rw (get_or-replicate 16 j empty_window no_window h) at f));
    }

module _ {T : List ClientStormEntry} (s : SoundWindows T) where
  -- a live window stored that is long enough and apart from the others
  module _ (k : ℕ) (x : ClientStormEntry) (h : k < 16) where
    within : k < length T
    within = let e = s.size in omega arith

    store : x.active ≡ true → length x.timestamps ≡ 16 → ((i : ℕ) → i < k → Apart (get_or T i no_window) x) → ((j : ℕ) → k < j → j < 16 → Apart x (get_or T j no_window))
        → SoundWindows (set T k x)
    store live long before after =
        record {
          size = length-set T k x ∙ s.size;
          free =
              each no_window T k x within (λ i e. i < 16 → e.active ≡ false → e ≡ empty_window) (λ l f. absurd (true≢false (sym live ∙ f))) (λ j n. s.free j);
          long = each no_window T k x within (λ i e. i < 16 → length e.timestamps ≡ 16) (λ l. long) (λ j n. s.long j);
          apart = pairs no_window T k x within Apart 16 (λ i l m. before i l) after (λ i j m n. s.apart i j);
        }

-- the order of two windows does not matter
swapped : (a b : ClientStormEntry) → same_client a b ≡ false → same_client b a ≡ false
unfolding same_client
swapped a b e =
    fails (same_client b a)
    (λ p.
    let q = both (eqb b.client_hash a.client_hash) (eqb b.client_hash2 a.client_hash2) p in
    let h : a.client_hash ≡ b.client_hash = sym (eqb-true _ _ q.0) in
    let h2 : a.client_hash2 ≡ b.client_hash2 = sym (eqb-true _ _ q.1) in
    false≢true (sym e ∙ (rw (eq-eqb _ _ h) (eq-eqb _ _ h2))))

module _ (c : ClientHashes) (t threshold window : ℕ) {T : List ClientStormEntry} (s : SoundWindows T) where
  -- the table with a window stored
  abbrev Stays : ConnectDecision → Type 0
  Stays d = SoundWindows (set T d.at d.entry)

  held : (i : ℕ) → i < length T → holds_client c (get_or T i no_window) ≡ true → Stays (connect_at i (get_or T i no_window) t threshold window)
  unfolding holds_client recorded same_client
  held i l p =
      let z = s.size in
      let h : i < 16 = omega arith in
      let e = get_or T i no_window in
      let live = (both e.active (eqb e.client_hash c.hash) (both (e.active && eqb e.client_hash c.hash) (eqb e.client_hash2 c.hash2) p).0).0 in
      store s i (recorded e t) h live (length-set e.timestamps _ t ∙ s.long i h) (λ j m. s.apart j i m h) (λ j m. s.apart i j m)

  new : ((j : ℕ) → j < length T → holds_client c (get_or T j no_window) ≡ false)
      → Stays (connect_at (seat is_free last_seen T) (fresh_window c) t threshold window)
  unfolding holds_client recorded same_client
  new none =
      let z = s.size in
      let l : seat is_free last_seen T < length T = seat-lt is_free last_seen T no_window (omega arith) in
      let x = recorded (fresh_window c) t in
      let away : (j : ℕ) → j < 16 → (get_or T j no_window).active ≡ true → same_client (get_or T j no_window) x ≡ false = λ j h e. rw e at (none j (omega arith)) in
      store s (seat is_free last_seen T) x (omega arith) refl
      (length-set (fresh_window c).timestamps 0 t)
      (λ j m f g. away j (omega arith) f)
      (λ j m n f g. swapped (get_or T j no_window) x (away j n g))

  -- a CONNECT
  pub windows_after : Stays (connect T c t threshold window)
  unfolding connect
  windows_after =
      looked_up (holds_client c) T no_window (λ i e. connect_at i e t threshold window) (seat is_free last_seen T) (fresh_window c) Stays held new
