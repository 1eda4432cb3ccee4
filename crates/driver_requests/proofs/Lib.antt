pub mod Words
pub mod StillActive
