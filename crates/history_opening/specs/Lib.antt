pub mod Comparing
pub mod Images
pub mod Laws
pub mod Opening
pub mod Reading
pub mod Settling
