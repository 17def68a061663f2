-- What the words behind the program's name ask for: one of the two matchers of the rules; then where the limit stands, too; or nothing that the program knows.
use Rattle.std.specs.Prelude.{cond, List, ℕ}
use Rattle.slices.specs.Bytes.{bytes, same}
use Rattle.topics.specs.declared.matching.Matching.{Matching}
use Rattle.topics.specs.declared.matching.Matching.TheVariants.{Port, Standard}
use Rattle.hubtrace.specs.declared.asked.Asked.{Asked}
use Rattle.hubtrace.specs.declared.asked.Asked.TheVariants.{For, Standing, Unknown}

-- the first word
abbrev pub asked_by : List ℕ → Asked
asked_by word = cond (same (bytes "--match=port") word) (For Port) (cond (same (bytes "--match=standard") word) (For Standard) Unknown)

-- the second, beside a matcher
abbrev pub asked_beside : Matching → List ℕ → Asked
asked_beside matching word = cond (same (bytes "--standing") word) (Standing matching) Unknown

-- the second, beside the first
abbrev pub asked_too : Asked → List ℕ → Asked
asked_too (For matching) word = asked_beside matching word
asked_too (Standing matching) word = Unknown
asked_too Unknown word = Unknown
