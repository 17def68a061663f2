-- A pattern matches itself, read as a topic: so whatever covers it matches it too, and the old shadow count, which asks just that under the port, counts it. Under the standard a `+` may take an empty
-- last level, which the port's does not. Assumes nothing.
use Rattle.std.proofs.Common.{◌≡◌, ℕ, Bool, true, false, not, eqb, List, [], ◌∷◌, sym, refl, ◌∙◌, eqb-true}
use mathlib.Core.Bool.{or-true, and-false}
use Rattle.laws.specs.Lists.{none}
use Rattle.laws.proofs.Cases.{by}
use Rattle.laws.proofs.Tests.{never, both}
use Rattle.slices.specs.Bytes.{same}
use Rattle.slices.proofs.bytes.SameLaws.{same_refl}
use Rattle.topics.specs.Covered.{OldCountMeets}
use Rattle.topics.specs.Covering.{covers}
use Rattle.topics.specs.Levels.{levels, is_hash, is_plus}
use Rattle.topics.specs.Matching.{dollar_apart, match_levels, match_bytes, matches_with}
use Rattle.topics.specs.Patterns.{pattern_refusal}
use Rattle.topics.proofs.covering.Enough.{enough}
use Rattle.topics.proofs.covering.TriedLaws.{none_taken, hash_takes, plus_takes, plain_takes}
use Rattle.topics.proofs.matching.Difference.{difference}
use Rattle.topics.proofs.matching.Meaning.{meaning}
use Rattle.topics.proofs.patterns.PatternLaws.{some_none, accepted_length, accepted_placed}

-- a level that is `+` is not empty
plus_some : (q : List ℕ) → is_plus q ≡ true → none q ≡ false
unfolding same
plus_some [] e = never e
plus_some (c ∷ q) e = refl

-- level by level
itself : (f : Bool) (qs : List (List ℕ)) → match_levels f qs qs ≡ true
itself f [] = none_taken f
itself f (q ∷ qs) =
    by (is_hash q)
    (λ h. hash_takes f q q qs qs h)
    (λ h.
    by (is_plus q)
    (λ w. rw (plus_takes f q q qs qs h w, plus_some q w, or-true f) (itself f qs))
    (λ w. rw (plain_takes f q q qs qs h w, same_refl q) (itself f qs)))

-- one that begins with a wildcard does not begin with a dollar sign
own_dollar : (q : List ℕ) → dollar_apart q q ≡ false
own_dollar [] = refl
own_dollar (c ∷ q) =
    by (eqb c 35)
    (λ h. rw (eqb-true c 35 h))
    (λ h. by (eqb c 43) (λ w. rw (eqb-true c 43 w)) (λ w. rw (h, w, and-false (eqb c 36))))

module _ (p q : List ℕ) (aq : pattern_refusal q ≡ 0) where
  own : (f d : Bool) → matches_with f d q q ≡ true
  own f d = rw (own_dollar q, and-false d) (meaning f false q q (accepted_placed q aq) ∙ itself f (levels q))

pub old_count_meets : OldCountMeets
old_count_meets p q ap' aq =
    let all : (f d : Bool) → covers f d p q ≡ true → matches_with f d q p ≡ true =
    λ f d e. enough f d p q (accepted_placed p ap') (accepted_placed q aq) (accepted_length q aq).1 e q (some_none q (accepted_length q aq).0) (own p q aq f d) in
    record {
      by_port = λ e. all false false e;
      by_standard =
          λ e n.
          let m = (both (not (dollar_apart q p)) (match_bytes true q p) (all true true e)).1 in
          meaning false false q p (accepted_placed p ap')
          ∙ difference (levels q) (levels p)
          ∙ rw (n, sym (meaning true false q p (accepted_placed p ap')) ∙ m);
    }
