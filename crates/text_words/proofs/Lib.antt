pub mod FirstWord
pub mod Numerals
pub mod NumberWords
pub mod Settings
pub mod WordsMean
