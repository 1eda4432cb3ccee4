pub mod Answers
pub mod Bodies
pub mod Errors
mod Examples
pub mod Laws
pub mod Matching
pub mod Opened
pub mod Order
pub mod Room
pub mod Staged
pub mod Values
