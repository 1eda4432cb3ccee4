pub mod Images
mod Kept
mod Stops
