pub mod FreeLaws
pub mod LookupLaws
pub mod ScanLaws
