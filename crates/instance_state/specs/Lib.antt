pub mod Instances
pub mod Rows
pub mod OwnActs
pub mod Standings
pub mod Reached
pub mod Examples
