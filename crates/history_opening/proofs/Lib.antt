pub mod Rising
pub mod Differing
pub mod SettledStores
pub mod Opened
pub mod SoundOpened
pub mod FewActs
pub mod ReadStores
pub mod Differences
