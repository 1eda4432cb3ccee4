pub mod Lent
pub mod Plays
pub mod Rule
pub mod Seats
pub mod Turns
pub mod Weights
