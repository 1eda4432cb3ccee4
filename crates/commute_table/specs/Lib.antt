pub mod Operations
pub mod Bytes
pub mod Reading
pub mod Errors
pub mod Document
pub mod Binding
