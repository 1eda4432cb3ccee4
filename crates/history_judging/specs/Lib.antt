pub mod Conflicting
pub mod Keeping
pub mod Judging
pub mod Laws
pub mod Errors
