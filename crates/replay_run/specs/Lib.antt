pub mod Soundness
pub mod Printed
pub mod Boxes
pub mod Replay
pub mod Examples
