pub mod Errors
pub mod Examples
pub mod Laws
pub mod LogFile
pub mod Staging
pub mod Standing
