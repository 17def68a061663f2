pub mod TrackerLaws
