mod StepNames
mod Readings
pub mod Soundness
pub mod CopiedPlans
pub mod OwnOrders
pub mod AlikeLogs
