pub mod Acts
pub mod Chosen
pub mod Covered
pub mod Denied
pub mod FoundLaws
pub mod Four
pub mod Light
pub mod Link
pub mod PlainLaws
pub mod Prepared
pub mod Ranged
pub mod Reached
pub mod Replies
mod SoundBuckets
pub mod SoundCalls
mod SoundIds
pub mod SoundInspect
mod SoundMoves
mod SoundRules
mod SoundTrackers
mod SoundWindows
pub mod StandingExact
pub mod Total
pub mod Unbroken
