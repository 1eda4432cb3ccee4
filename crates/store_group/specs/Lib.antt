pub mod Events
pub mod Groups
