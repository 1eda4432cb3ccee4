pub mod Acknowledged
pub mod GateAnswers
pub mod Opened
pub mod Runs
