pub mod Replays
pub mod Examples
