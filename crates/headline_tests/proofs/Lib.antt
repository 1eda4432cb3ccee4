pub mod Asked
pub mod OneWord
pub mod Made
pub mod FoundLeft
pub mod Restarted
pub mod Chained
