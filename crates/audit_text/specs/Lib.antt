pub mod Logs
pub mod Copies
