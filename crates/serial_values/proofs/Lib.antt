mod Applied
mod LogValues
mod Subsystems
pub mod SamePlans
