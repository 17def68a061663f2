mod CoverLaws
pub mod ReportLaws
