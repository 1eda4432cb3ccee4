pub mod Words
pub mod Places
pub mod Numbers
pub mod Expected
pub mod Marks
pub mod Examples
