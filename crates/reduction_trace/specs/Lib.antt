pub mod Whole
pub mod Phases
