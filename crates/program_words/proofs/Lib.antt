pub mod Complete
pub mod EntryReads
pub mod NumberReads
pub mod Numerals
pub mod Passes
pub mod PlainOnly
pub mod Taken
