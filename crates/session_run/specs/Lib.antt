pub mod Alike
pub mod Playthrough
pub mod Session
pub mod Completeness
pub mod SessionExamples
