pub mod Warnings
pub mod Lines
pub mod Examples
