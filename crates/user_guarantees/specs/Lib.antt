pub mod Tables
pub mod TableExamples
pub mod Independence
pub mod IndependenceExamples
pub mod FirstWay
pub mod FirstWayExamples
