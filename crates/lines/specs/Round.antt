-- What is claimed of values and their text (document 01, "The trace"): what is written is read back, and what is read was written so, since each value has one text. The proofs are
-- in proofs/DecimalRound.antt, HexRound.antt and WordRound.antt.
-- Assumes nothing.
use Rattle.std.specs.Prelude.{◌≡◌, true, List, ℕ, ◌≤◌, ◌<◌, length, get_or}
use Rattle.lines.specs.Decimal.{decimal}
use Rattle.lines.specs.Hex.{hex_text}
use Rattle.lines.specs.ReadDecimal.{decimal_of}
use Rattle.lines.specs.ReadHex.{hex_refusal, unhex}
use Rattle.lines.specs.ReadWord.{word_of, different}
use Rattle.lines.specs.Word.{words_of, word_text}
use Rattle.lines.specs.declared.value.Number.TheVariants.{Value}

pub record Round : Type 0 where
  -- a number in its range; and the text that is read as a number is that number's
  pub decimal_read : (low high n : ℕ) → low ≤ n → n ≤ high → decimal_of low high (decimal n) ≡ Value n
  pub decimal_written : (low high : ℕ) (l : List ℕ) (n : ℕ) → decimal_of low high l ≡ Value n → l ≡ decimal n
  -- bytes for which there is room; and hex that is taken is its bytes'
  pub hex_taken : (room : ℕ) (s : List ℕ) → ((i : ℕ) → get_or s i 0 < 256) → length s ≤ room → hex_refusal room (hex_text s) ≡ 0
  pub hex_read : (s : List ℕ) → ((i : ℕ) → get_or s i 0 < 256) → unhex (hex_text s) ≡ s
  pub hex_written : (room : ℕ) (l : List ℕ) → hex_refusal room l ≡ 0 → hex_text (unhex l) ≡ l
  -- a word of a list of different words; and what is read as one is that word
  pub word_read : (ws : List ℕ) (k : ℕ) → different (words_of ws) ≡ true → k < length (words_of ws) → word_of ws (word_text ws k) ≡ Value k
  pub word_written : (ws l : List ℕ) (k : ℕ) → word_of ws l ≡ Value k → l ≡ word_text ws k
