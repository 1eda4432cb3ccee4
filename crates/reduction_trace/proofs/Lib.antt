pub mod EntryAt
pub mod FirstCancel
pub mod ProcessPassed
pub mod PrintedReduces
