pub mod TwoSteps
pub mod AroundAPivot
