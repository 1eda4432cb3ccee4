pub mod Standing
pub mod Applying
pub mod Recovering
