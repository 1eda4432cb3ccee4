pub mod Openings
pub mod Sound
pub mod Resumed
pub mod StopLaws
pub mod StopExamples
pub mod MomentLaws
