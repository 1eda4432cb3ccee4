pub mod Dialogue
pub mod DialogueExamples
pub mod Effects
