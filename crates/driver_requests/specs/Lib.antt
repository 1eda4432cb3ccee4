pub mod Requests
pub mod Answers
pub mod Readiness
mod Examples
