pub mod Beside
pub mod InOrder
pub mod InTurn
pub mod Synced
pub mod Taken
