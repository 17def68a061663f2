-- Text there and back, gathered from the three files that prove it. Assumes nothing.
use Rattle.lines.specs.Round.{Round}
use Rattle.lines.proofs.DecimalRound.{decimal_read, decimal_unique}
use Rattle.lines.proofs.HexRound.{hex_read, hex_back, hex_unique}
use Rattle.lines.proofs.WordRound.{word_value, word_taken}

pub round : Round
round =
    record {
      decimal_read = decimal_read;
      decimal_written = decimal_unique;
      hex_taken = hex_read;
      hex_read = hex_back;
      hex_written = hex_unique;
      word_read = word_value;
      word_written = λ ws l k e. (word_taken ws l k e).0;
    }
