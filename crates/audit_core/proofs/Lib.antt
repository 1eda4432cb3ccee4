pub mod Chains
pub mod Takings
pub mod Layers
pub mod Rounds
pub mod Precede
pub mod PlannedSteps
pub mod SameOrders
pub mod Beginnings
