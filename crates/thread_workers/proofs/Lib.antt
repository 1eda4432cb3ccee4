pub mod Sent
pub mod Jobs
pub mod Knowledge
pub mod Lists
pub mod Reported
pub mod StillTrue
pub mod WholeRun
pub mod ByHistory
