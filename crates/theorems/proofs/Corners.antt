-- P1 to P12 by computation. Assumes nothing.
use mathlib.Core.Path.{refl}
use Rattle.slices.specs.Bytes.{same, has, count_of}
use Rattle.topics.specs.Hashes.{fnv1a, djb2, suffix_hash, client_hashes}
use Rattle.topics.specs.Levels.{first_level, rest_levels}
use Rattle.topics.specs.Matching.{match_levels, from_slash, takes_none, takes_end, match_bytes, standard_rule, standard_matches}
use Rattle.topics.specs.Patterns.{well_placed, pattern_refusal}
use Rattle.topics.specs.Utf8.{begun, taken, is_utf8}
use Rattle.tables.specs.Buckets.{refilled, spend, is_expired, holds_bucket, newcomer, decide}
use Rattle.tables.specs.Identity.{prefix_of, id_of, is_of}
use Rattle.tables.specs.Scan.{find, least_of, seat}
use Rattle.tables.specs.Trackers.{mean_after, is_anomaly, fed, holds_tracker, feed}
use Rattle.tables.specs.Windows.{recorded, count_from, in_window, holds_client, connect}
use Rattle.theorems.specs.Corners.{Corners, allowed_at, denied_at, alerts_of}

pub corners : Corners
unfolding match_bytes from_slash takes_none takes_end match_levels first_level rest_levels same has standard_rule standard_matches well_placed count_of
    pattern_refusal is_utf8 taken begun fnv1a djb2 suffix_hash client_hashes prefix_of id_of is_of find least_of seat refilled spend is_expired holds_bucket newcomer decide
    recorded count_from in_window holds_client connect mean_after is_anomaly fed holds_tracker feed allowed_at denied_at alerts_of
corners =
    record {
      p1 = refl;
      p2 = (refl, refl);
      p3 = refl;
      p4 = refl;
      p5 = refl;
      p6 = (refl, refl);
      p7 = (refl, refl);
      p8 = (refl, refl);
      p9 = refl;
      p10 = (refl, refl);
      p11 = (refl, refl);
      p12 = refl;
    }
