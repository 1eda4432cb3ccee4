pub mod Boxes
pub mod Restart
