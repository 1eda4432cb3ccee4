pub mod ValueConflict
pub mod Ledgers
pub mod Laws
pub mod HistoryValues
pub mod Examples
