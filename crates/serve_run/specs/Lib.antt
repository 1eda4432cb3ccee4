pub mod Dialogue
pub mod Serve
