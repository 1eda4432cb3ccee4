pub mod Marks
mod MemoryWrites
pub mod WholeCalls
