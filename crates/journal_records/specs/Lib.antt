pub mod Bytes
pub mod Laws
mod Examples
