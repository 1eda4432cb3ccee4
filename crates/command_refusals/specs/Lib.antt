pub mod Statuses
pub mod Shown
pub mod Faults
pub mod Refusals
pub mod Verdicts
pub mod Order
pub mod OrderExamples
pub mod Examples
