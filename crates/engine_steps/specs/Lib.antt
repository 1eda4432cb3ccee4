pub mod Beginning
pub mod Engines
pub mod Groups
pub mod Listing
pub mod Opening
pub mod Pieces
pub mod Rooms
pub mod Targets
