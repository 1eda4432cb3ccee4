pub mod CrashExamples
pub mod Laws
pub mod Machine
pub mod Names
pub mod Settling
pub mod SettlingExamples
