pub mod Pages
pub mod Usages
