pub mod Outcomes
pub mod Audit
pub mod History
pub mod Laws
