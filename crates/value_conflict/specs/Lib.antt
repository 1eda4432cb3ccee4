pub mod ValueConflict
pub mod Soundness
pub mod Names
pub mod Examples
