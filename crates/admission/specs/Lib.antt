pub mod Least
pub mod Admission
pub mod Parts
pub mod Examples
