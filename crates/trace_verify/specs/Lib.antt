pub mod Lines
pub mod Forms
pub mod Reports
pub mod Names
pub mod Numbered
pub mod Verdicts
pub mod Laws
pub mod Examples
