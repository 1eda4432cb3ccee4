pub mod Gates
pub mod ManyGates
pub mod Running
