pub mod Examples
pub mod Taking
