-- The free places of the code are those of the definitions. Assumes nothing.
use Rattle.std.proofs.Common.{◌≡◌, refl}
use Rattle.tables.specs.Buckets.{empty_bucket}
use Rattle.tables.specs.Identity.{empty_id}
use Rattle.tables.specs.Rules.{empty_rule}
use Rattle.tables.specs.Trackers.{empty_tracker}
use Rattle.tables.specs.Windows.{empty_window}
use Rattle.tables.specs.declared.buckets.TheConstants.RateBucket as RateBucket
use Rattle.tables.specs.declared.identity.TheConstants.Id as Id
use Rattle.tables.specs.declared.rules.TheConstants.TopicRule as TopicRule
use Rattle.tables.specs.declared.trackers.TheConstants.EwmaTracker as EwmaTracker
use Rattle.tables.specs.declared.windows.TheConstants.ClientStormEntry as ClientStormEntry

pub free_id : Id.EMPTY ≡ empty_id
free_id = refl

pub free_bucket : RateBucket.FREE ≡ empty_bucket
free_bucket = refl

pub free_rule : TopicRule.FREE ≡ empty_rule
free_rule = refl

pub free_tracker : EwmaTracker.FREE ≡ empty_tracker
free_tracker = refl

pub free_window : ClientStormEntry.FREE ≡ empty_window
free_window = refl
