pub mod Calls
pub mod Disk
pub mod Images
pub mod Memory
pub mod MemoryLaws
pub mod MemoryView
pub mod Racks
pub mod Stop
