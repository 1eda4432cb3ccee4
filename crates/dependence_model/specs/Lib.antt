pub mod Dependence
pub mod SerialOrder
pub mod Audited
pub mod Laws
pub mod Examples
