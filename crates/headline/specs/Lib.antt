pub mod Headline
pub mod Printed
pub mod Chains
pub mod Answered
