pub mod Parts
pub mod Borrowed
