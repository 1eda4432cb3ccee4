pub mod Init
pub mod Strict
