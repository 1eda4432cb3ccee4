pub mod Completing
pub mod Turns
pub mod Restarting
