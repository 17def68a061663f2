use Rattle.std.proofs.Common.{rules, tests, List, ℕ, ap, ◌≡◌, ◌∙◌, eqb, refl, slice_get}
use Rattle.std.specs.List.{slice_split}
use Rattle.std.specs.Option.{option_map}
use Rattle.std.proofs.lemmas.Iterator.Consumers.{nth_from_yields_List}
use Rattle.std.proofs.lemmas.Iterator.Splits.{YieldsList-from_slice_split}
use Rattle.lines.specs.Word.{words_of, word_text}
use Rattle.lines.proofs.words.WordLaws.{words_split, nth_or}
use Rattle.lines.proofs.words.word_part.Goals as goal

pub returns : goal.returns
unfolding word_text
returns c =
    let found : option_map (λ x. x.now) c.nth.result ≡ slice_get (slice_split (λ b. eqb b 124) c.args.words.now) c.args.k =
    nth_from_yields_List c.nth.result _ c.args.k c.nth.ensures.ran
    (YieldsList-from_slice_split _ (λ b. eqb b 124) c.args.words.now c.split.ensures.rest c.split.ensures.done c.split.ensures.closure (λ x b q k. search (rules, tests))) in
    rw c.unwrap_or.ensures (nth_or _ _ (words_of c.args.words.now) c.args.k refl (found ∙ ap (λ (ws : List (List ℕ)). slice_get ws c.args.k) (words_split c.args.words.now)))
