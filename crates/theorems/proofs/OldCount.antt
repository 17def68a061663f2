-- What the old shadow count gets wrong, by computation. Assumes nothing.
use mathlib.Core.Path.{refl}
use Rattle.slices.specs.Bytes.{same}
use Rattle.topics.specs.Covering.{only_later, sample, first_cut, tried_with, witness, covers}
use Rattle.topics.specs.Matching.{from_slash, takes_none, takes_end, match_bytes}
use Rattle.tables.specs.Covers.{rule_covers, first_number, covers_after, cover_report}
use Rattle.tables.specs.Rules.{shadowed, shadowed_after}
use Rattle.tables.specs.Scan.{find}
use Rattle.theorems.specs.OldCount.{OldCountWrong}

pub old_count_wrong : OldCountWrong
unfolding same only_later sample first_cut tried_with witness covers from_slash takes_none takes_end match_bytes rule_covers first_number covers_after cover_report shadowed shadowed_after find
old_count_wrong =
    record {
      counted = refl;
      not_by_port = refl;
      not_by_standard = refl;
      port_shown = refl;
      standard_shown = refl;
      dollar_counted = refl;
      dollar_not = refl;
      dollar_shown = refl;
      missed = refl;
      missed_covered = refl;
      missed_port = refl;
      right = refl;
      right_covered = refl;
    }
