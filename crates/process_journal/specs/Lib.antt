pub mod Plans
pub mod Bodies
pub mod Journals
pub mod Reading
pub mod Opened
pub mod Errors
pub mod Laws
mod Examples
pub mod Replays
pub mod Staged
