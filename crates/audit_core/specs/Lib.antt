pub mod Taking
pub mod Arrows
pub mod Audits
