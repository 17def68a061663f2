-- Settings that come back (specs/Settings.antt): a loaded monitor is a fresh one with its rules, so that what holds from every such monitor holds from it. Assumes nothing.
use Rattle.settings.specs.Loaded.{monitor_of}
use Rattle.settings.proofs.HomeAgain.{home_again}
use Rattle.settings.proofs.OneToOne.{one_to_one, made_by_calls}
use Rattle.theorems.specs.Settings.{SavedSettings}
use Rattle.theorems.proofs.Shipped.{shipped_meets}

pub saved_settings : SavedSettings
saved_settings =
    record {
      one_to_one = one_to_one;
      home_again = home_again;
      made = made_by_calls;
      limits =
          record {
            upper = λ s {v} e. shipped_meets.upper (monitor_of v) (made_by_calls.prepared s e);
            lower_first = λ s {v} e. shipped_meets.lower_first (monitor_of v) (made_by_calls.prepared s e);
            lower_later = λ s {v} e. shipped_meets.lower_later (monitor_of v) (made_by_calls.prepared s e);
          };
    }
