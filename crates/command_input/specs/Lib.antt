pub mod Early
pub mod Inputs
pub mod Outputs
pub mod FilesLeft
pub mod Scenarios
pub mod ScenarioExamples
