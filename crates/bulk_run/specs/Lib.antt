pub mod Bulk
pub mod Completeness
pub mod Summary
pub mod SummaryExamples
