pub mod Expand
pub mod Expansion
pub mod Layout
pub mod Naming
pub mod Reader
pub mod Reading
pub mod States
pub mod Trees
