pub mod Forms
pub mod Sessions
pub mod Answers
pub mod Examples
mod AnswerExamples
