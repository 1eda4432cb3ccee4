pub mod History
pub mod Jobs
pub mod Meeting
pub mod Workers
