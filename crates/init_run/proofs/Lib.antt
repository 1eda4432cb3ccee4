pub mod FilesMade
pub mod InitParts
pub mod MadeWell
pub mod Strictly
