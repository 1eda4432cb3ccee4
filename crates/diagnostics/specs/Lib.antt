pub mod Diagnostics
