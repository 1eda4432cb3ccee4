pub mod Happenings
pub mod Starts
pub mod Waits
pub mod Serving
mod Examples
