mod Appending
mod Crash
mod Framing
pub mod Logs
mod Plain
pub mod Reading
mod Retracting
pub mod Staging
pub mod StagedImages
pub mod Standing
mod WholeFile
