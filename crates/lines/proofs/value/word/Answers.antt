use Rattle.std.proofs.Common.{rules, tests, ◌≡◌, eqb, position}
use Rattle.std.specs.List.{slice_split}
use Rattle.std.proofs.lemmas.Iterator.Search.{position_from_yields_List}
use Rattle.std.proofs.lemmas.Iterator.Splits.{YieldsList-from_slice_split}
use Rattle.lines.proofs.words.WordLaws.{is_word, word_found, word_missing}
use Rattle.lines.proofs.value.word.Goals.{After-position}
use Rattle.lines.proofs.value.word.Goals as goal

-- the place of `l` among the words
place : (c : After-position) → c.position.result ≡ position (is_word c.args.l.now) (slice_split (λ b. eqb b 124) c.args.words.now)
place c =
    position_from_yields_List (is_word c.args.l.now) _ _ c.position.result c.position.ensures.ran
    (YieldsList-from_slice_split _ (λ b. eqb b 124) c.args.words.now c.split.ensures.rest c.split.ensures.done c.split.ensures.closure (λ x b q k. search (rules, tests)))
    (λ x b q k. search (rules, tests))

pub returns-in-Some : goal.returns-in-Some
returns-in-Some c = word_found _ _ (place (goal.at.returns-in-Some c).After-position) _ c.in-Some.is

pub returns-in-None : goal.returns-in-None
returns-in-None c = word_missing _ _ (place (goal.at.returns-in-None c).After-position) c.in-None.is
