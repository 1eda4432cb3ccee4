pub mod Held
pub mod Refusing
