pub mod Ends
pub mod Finishing
pub mod Fitting
pub mod Flushing
pub mod Most
pub mod Pieces
pub mod Queueing
pub mod Queues
