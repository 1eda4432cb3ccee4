pub mod Sets
pub mod Walking
pub mod Undoing
