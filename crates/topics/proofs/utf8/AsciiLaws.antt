-- Laws of ASCII at a string's beginning: where it ends, and that decoding may begin behind it. Assumes nothing.
use Rattle.std.specs.Option.{unwrap_or}
use Rattle.std.specs.List.{position_or_len}
use Rattle.std.proofs.lemmas.List.Recursion.{is_position_or_len}
use Rattle.laws.proofs.Lists.{position_or}
use Rattle.std.proofs.Common.{not, nat_lt, position, ◌≡◌, ℕ, ltb, List, [], ◌∷◌, length, drop, sym, refl, ap, ◌∙◌, arith, ltb-true, fold}
use Rattle.laws.proofs.Cases.{by}
use Rattle.topics.specs.Utf8.{between, taken, is_whole, is_utf8, ascii_end}
use Rattle.topics.specs.declared.utf8.Decoding.{Decoding}
use Rattle.topics.proofs.utf8.DecodeLaws.{begun_one}

-- the first byte that is not ASCII: `s.iter().position(|b| !b.is_ascii()).unwrap_or(s.len())`
ascii_len : (s : List ℕ) → ascii_end s ≡ position_or_len (λ b. not (nat_lt b 0x80)) s
unfolding ascii_end
ascii_len = is_position_or_len ascii_end (λ b. not (nat_lt b 0x80)) refl
    (λ b s. by (ltb b 0x80) (λ e. rw (e, ascii_end) (omega arith)) (λ e. rw (e, ascii_end)))

pub ascii_position : (s : List ℕ) → unwrap_or (position (λ b. not (nat_lt b 0x80)) s) (length s) ≡ ascii_end s
ascii_position s = position_or _ s ∙ sym (ascii_len s)

-- decoding is between two characters behind ASCII
fold_behind : (s : List ℕ) → fold taken between (drop (ascii_end s) s) ≡ fold taken between s
unfolding ascii_end taken
fold_behind [] = refl
fold_behind (b ∷ s) =
    by (ltb b 0x80)
    (λ e. rw (e, ascii_end) (fold_behind s ∙ ap (λ (d : Decoding). fold taken d s) (sym (begun_one b (ltb-true b 0x80 e)))))
    (λ e. rw (e, ascii_end))

pub utf8_behind : (s : List ℕ) → is_utf8 (drop (ascii_end s) s) ≡ is_utf8 s
unfolding is_utf8
utf8_behind s = ap is_whole (fold_behind s)
