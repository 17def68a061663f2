pub mod BucketLaws
pub mod PlaceLaws
pub mod StepLaws
