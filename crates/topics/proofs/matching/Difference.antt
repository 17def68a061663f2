-- Where the two matchers differ. By the first flag alone a matcher with it takes what one without takes, and what a `+` takes at the topic's empty last level; the second
-- flag takes away the names that section 4.7.2 keeps apart. Assumes nothing.
use Rattle.std.proofs.Common.{◌≡◌, ℕ, Bool, true, false, not, ◌&&◌, ◌||◌, List, [], ◌∷◌, sym, refl, ◌∙◌}
use mathlib.Core.Bool.{and-true, and-false, and_assoc}
use Rattle.laws.specs.Lists.{none}
use Rattle.laws.proofs.Cases.{by}
use Rattle.slices.specs.Bytes.{same}
use Rattle.topics.specs.Levels.{levels, is_hash, is_plus}
use Rattle.topics.specs.Meaning.{Difference}
use Rattle.topics.specs.Matching.{match_levels, dollar_apart, port_matches, standard_rule, plus_at_empty_last}
use Rattle.topics.proofs.matching.Meaning.{meaning}

neither : (a b m : Bool) → (not a && (m && not b)) ≡ (m && not (a || b))
neither true b m = sym (and-false m)
neither false b m = refl

-- for all levels
pub difference : (ts ps : List (List ℕ)) → match_levels false ts ps ≡ (match_levels true ts ps && not (plus_at_empty_last ts ps))
unfolding match_levels plus_at_empty_last
difference [] [] = refl
difference [] (p ∷ ps) = sym (and-true _)
difference (t ∷ ts) [] = refl
difference (t ∷ ts) (p ∷ ps) =
    by (is_hash p)
    (λ h. rw (h, match_levels, plus_at_empty_last))
    (λ h.
    by (is_plus p)
    (λ q. rw (h, q, match_levels, plus_at_empty_last, difference ts ps) (neither (none t && none ts) (plus_at_empty_last ts ps) (match_levels true ts ps)))
    (λ q. rw (h, q, match_levels, plus_at_empty_last, difference ts ps) (sym (and_assoc (same p t) (match_levels true ts ps) (not (plus_at_empty_last ts ps))))))

-- two answers, one without the cases `e` and one without the cases `a`: the first alone is left where `a` holds, the second alone where `e` holds
one_alone : (l e a : Bool) → ((l && not e) && not (not a && l)) ≡ ((l && not e) && a)
one_alone true true true = refl
one_alone true true false = refl
one_alone true false true = refl
one_alone true false false = refl
one_alone false e a = refl

other_alone : (l e a : Bool) → ((not a && l) && not (l && not e)) ≡ ((not a && l) && e)
other_alone true true true = refl
other_alone true true false = refl
other_alone true false true = refl
other_alone true false false = refl
other_alone false e true = refl
other_alone false e false = refl

-- for every topic, and every pattern whose wildcards are well placed
pub port_differs : Difference
unfolding standard_rule
port_differs t p u =
    let m : port_matches t p ≡ (match_levels true (levels t) (levels p) && not (plus_at_empty_last (levels t) (levels p))) =
    meaning false false t p u ∙ difference (levels t) (levels p) in
    record {
      only_port = rw m (one_alone (match_levels true (levels t) (levels p)) (plus_at_empty_last (levels t) (levels p)) (dollar_apart t p));
      only_standard = rw m (other_alone (match_levels true (levels t) (levels p)) (plus_at_empty_last (levels t) (levels p)) (dollar_apart t p));
    }
