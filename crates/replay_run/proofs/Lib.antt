pub mod SortedPairs
pub mod UsedKeys
pub mod PrintedValues
pub mod SoundCatalogs
mod FirstActive
mod PrintedText
mod Completeness
mod Replaying
