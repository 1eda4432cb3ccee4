pub mod FoundPieces
pub mod AskedPieces
pub mod FinishedLines
pub mod QueuedLines
pub mod FlushedLines
pub mod StartedLines
pub mod FinishAt
pub mod Outcomes
