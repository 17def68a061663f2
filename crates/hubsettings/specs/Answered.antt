-- What is answered to an input: what is told of a settings text that was read to its end, that text in a form that is asked for, its rules that can never speak, or two of its
-- rules; nothing at all to an input of which reading failed.
-- Assumes nothing.
use Rattle.std.specs.Prelude.{List, [], ℕ, take}
use Rattle.settings.specs.Dead.{dead_text, pair_text}
use Rattle.settings.specs.Told.{told_text, turned_text, turned_end}
use Rattle.settings.specs.declared.told.SettingsTold.{SettingsTold}
use Rattle.std.specs.Prelude.{Result, Ok, Err, ℤ}

unfoldable pub answer_to : Result ℕ ℤ → List ℕ → List ℕ
answer_to (Ok n) s = told_text (take n s)
answer_to (Err error) s = []

unfoldable pub dead_to : Result ℕ ℤ → List ℕ → List ℕ
dead_to (Ok n) s = dead_text (take n s)
dead_to (Err error) s = []

unfoldable pub pair_to : ℕ → ℕ → Result ℕ ℤ → List ℕ → List ℕ
pair_to later earlier (Ok n) s = pair_text later earlier (take n s)
pair_to later earlier (Err error) s = []

unfoldable pub turn_to : ℕ → Result ℕ ℤ → List ℕ → List ℕ
turn_to form (Ok n) s = turned_text form (take n s)
turn_to form (Err error) s = []

-- how that ended, in a buffer of some length
unfoldable pub turn_end : ℕ → ℕ → Result ℕ ℤ → List ℕ → SettingsTold
turn_end form room (Ok n) s = turned_end form room (take n s)
turn_end form room (Err error) s = record { number = 0; line = 0; length = 0 }
