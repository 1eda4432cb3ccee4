pub mod Completeness
pub mod Opening
pub mod OpeningExamples
pub mod Reports
pub mod Run
pub mod Scenario
pub mod Starting
pub mod Stops
