pub mod Verdicts
pub mod Flaws
pub mod Spots
