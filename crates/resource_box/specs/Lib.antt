mod Examples
pub mod Laws
pub mod Meaning
pub mod Table
