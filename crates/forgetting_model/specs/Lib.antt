pub mod Remaining
pub mod Laws
pub mod Examples
pub mod Moments
pub mod Replies
pub mod MomentExamples
