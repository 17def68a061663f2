-- Document 01, "CONNECT windows and payload trackers": a client's last 16 CONNECT stamps. A CONNECT is recorded, then counted.
-- Assumes nothing.
use Rattle.std.specs.Prelude.{Bool, true, false, cond, not, ◌&&◌, ◌||◌, List, [], ◌∷◌, ℕ, ◌+◌, ◌-◌, ◌%◌, eqb, leb, ltb, length, get_or, set, take, replicate}
use Rattle.topics.specs.declared.hashes.ClientHashes.{ClientHashes}
use Rattle.tables.specs.Scan.{find, seat}
use Rattle.tables.specs.declared.windows.ClientStormEntry.{ClientStormEntry}
use Rattle.tables.specs.declared.windows.ConnectDecision.{ConnectDecision}

-- a window that no CONNECT was recorded in yet
abbrev pub fresh_window : ClientHashes → ClientStormEntry
fresh_window h =
    record {
      client_hash = h.hash;
      client_hash2 = h.hash2;
      timestamps = replicate 16 0;
      count = 0;
      write_idx = 0;
      last_seen_us = 0;
      active = true;
    }

-- a stamp is recorded: the last 16 are kept, in a ring
unfoldable pub recorded : ClientStormEntry → ℕ → ClientStormEntry
recorded e t =
    record {
      client_hash = e.client_hash;
      client_hash2 = e.client_hash2;
      timestamps = set e.timestamps (e.write_idx % 16) t;
      count = cond (ltb e.count 16) (e.count + 1) e.count;
      write_idx = (e.write_idx % 16 + 1) % 16;
      last_seen_us = t;
      active = e.active;
    }

-- how many stamps are at or above a time
unfoldable pub count_from : ℕ → List ℕ → ℕ
count_from start [] = 0
count_from start (s ∷ ss) = cond (leb start s) 1 0 + count_from start ss

-- the stamps at or above now minus window (floor 0), later ones included
unfoldable pub in_window : ClientStormEntry → ℕ → ℕ → ℕ
in_window e t window = count_from (t - window) (take e.count e.timestamps)

-- a live window of a client: clients are told apart by the two hashes
unfoldable pub holds_client : ClientHashes → ClientStormEntry → Bool
holds_client h e = e.active && eqb e.client_hash h.hash && eqb e.client_hash2 h.hash2

-- what stands past a table's end, as the checker reads it
abbrev pub no_window : ClientStormEntry
no_window = record { client_hash = 0; client_hash2 = 0; timestamps = []; count = 0; write_idx = 0; last_seen_us = 0; active = false }

-- a window with the CONNECT recorded, to be stored at a place; a storm if the count is at the threshold
abbrev pub connect_at : ℕ → ClientStormEntry → ℕ → ℕ → ℕ → ConnectDecision
connect_at at e t threshold window =
    record { at = at; entry = recorded e t; storm = leb threshold (in_window (recorded e t) t window) }

-- what a CONNECT does: the client's own window; else a fresh one in the first free place, else in that of the least last-seen, the first in a tie
unfoldable pub connect : List ClientStormEntry → ClientHashes → ℕ → ℕ → ℕ → ConnectDecision
connect cs h t threshold window =
    cond (ltb (find (holds_client h) cs) (length cs))
    (connect_at (find (holds_client h) cs) (get_or cs (find (holds_client h) cs) no_window) t threshold window)
    (connect_at (seat (λ e. not e.active) (λ e. e.last_seen_us) cs) (fresh_window h) t threshold window)

-- a free place
abbrev pub empty_window : ClientStormEntry
empty_window = record { client_hash = 0; client_hash2 = 0; timestamps = replicate 16 0; count = 0; write_idx = 0; last_seen_us = 0; active = false }

-- not a live record with a window count over 16 (number 10)
abbrev pub window_fine : ClientStormEntry → Bool
window_fine e = not e.active || leb e.count 16
