mod Wraps
mod Steps
pub mod Pairs
pub mod Once
pub mod Chains
pub mod PlanDeeds
pub mod HistoryOnce
mod Books
pub mod Tells
mod Takes
mod Barred
mod Forward
mod Found
mod ValueLaws
mod RealTime
