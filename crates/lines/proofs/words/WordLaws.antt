-- The words of a list are what `split` at its bars gives, and a word's place is where it is first among them. Assumes nothing.
use Rattle.std.proofs.Common.{◌≡◌, ℕ, Bool, true, false, eqb, cond, ltb, List, [], ◌∷◌, length, get_or, Option, Some, None, position, slice_get, refl, sym, ap, ◌∙◌, arith}
use Rattle.std.specs.List.{slice_split, position_or_len}
use Rattle.std.specs.Cmp.Lexicographic.{pointwise}
use Rattle.std.proofs.lemmas.List.Recursion.{is_position_or_len}
use Rattle.std.proofs.Common.{Bor}
use Rattle.std.specs.Option.{unwrap_or, option_map}
use Rattle.std.proofs.lemmas.Option.{same_Some, unwrap_or-slice_get}
use Rattle.std.proofs.lemmas.Grind.{common_steps}
use Rattle.laws.proofs.Cases.{by}
use Rattle.slices.specs.Bytes.{same}
use Rattle.slices.proofs.bytes.StdLaws.{same_eq}
use Rattle.lines.specs.declared.value.Number.TheVariants.{Value, Bad}
use Rattle.lines.specs.Word.{first_word, rest_words, words_of}
use Rattle.lines.specs.ReadWord.{word_index, word_of}

-- `words.split(|b| *b == b'|')`
pub words_split : (ws : List ℕ) → slice_split (λ b. eqb b 124) ws ≡ words_of ws
unfolding first_word rest_words
words_split [] = refl
words_split (c ∷ cs) =
    by (eqb c 124)
    (λ e. rw (e, first_word, rest_words, words_split cs))
    (λ e. rw (e, first_word, rest_words, words_split cs))

-- the test that the code makes of each word
abbrev pub is_word : List ℕ → List ℕ → Bool
is_word l w = pointwise eqb w l

index_of : (l : List ℕ) (ws : List (List ℕ)) → word_index ws l ≡ position_or_len (is_word l) ws
unfolding word_index
index_of l = is_position_or_len (λ ws. word_index ws l) (is_word l) refl
    (λ w ws. by (same w l) (λ e. rw (e, ← same_eq w l, e, word_index)) (λ e. rw (e, ← same_eq w l, e, word_index) (omega arith)))

-- an answer told as an option
told : (b : Bool) (i : ℕ) (r : Option ℕ) → r ≡ cond b (Some i) None
    → (r ≡ None → Bad ≡ cond b (Value i) Bad) × ((k : ℕ) → r ≡ Some k → Value k ≡ cond b (Value i) Bad)
told true i r e = (λ n. absurd (grind (arith, common_steps)), λ k s. ap (λ (m : ℕ). Value m) (same_Some k i (sym s ∙ e)))
told false i r e = (λ n. refl, λ k s. absurd (grind (arith, common_steps)))

module _ (ws l : List ℕ) {r : Option ℕ} (e : r ≡ position (is_word l) (slice_split (λ b. eqb b 124) ws)) where
  both_told : (r ≡ None → Bad ≡ word_of ws l) × ((k : ℕ) → r ≡ Some k → Value k ≡ word_of ws l)
  unfolding word_of
  both_told =
      told (ltb (word_index (words_of ws) l) (length (words_of ws))) (word_index (words_of ws) l) r
      (e ∙ rw (words_split ws, index_of l (words_of ws)))

  -- there is no such word
  pub word_missing : r ≡ None → Bad ≡ word_of ws l
  word_missing n = both_told.0 n

  -- it is first at a place
  pub word_found : (k : ℕ) → r ≡ Some k → Value k ≡ word_of ws l
  word_found k s = both_told.1 k s

-- what `nth(k).unwrap_or(&[])` reads
pub nth_or : (o : Option (Bor (List ℕ))) (d : Bor (List ℕ)) (parts : List (List ℕ)) (k : ℕ) → d.now ≡ [] → option_map (λ x. x.now) o ≡ slice_get parts k
    → (unwrap_or o d).now ≡ get_or parts k []
nth_or None d parts k z e = z ∙ ap (λ (p : Option (List ℕ)). unwrap_or p []) e ∙ unwrap_or-slice_get parts k []
nth_or (Some b) d parts k z e = ap (λ (p : Option (List ℕ)). unwrap_or p []) e ∙ unwrap_or-slice_get parts k []
