pub mod Boxes
pub mod Creating
pub mod Effects
mod Examples
pub mod Groups
pub mod Images
pub mod Laws
pub mod NextGroups
pub mod Sound
pub mod Standing
pub mod Rooms
