pub mod Entries
pub mod GroupTurns
pub mod Outcomes
pub mod Progress
pub mod Seats
pub mod Shared
pub mod Tallies
