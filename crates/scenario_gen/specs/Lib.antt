pub mod Draws
pub mod Generated
mod Examples
