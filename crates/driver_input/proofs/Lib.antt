pub mod Cuts
pub mod Long
pub mod Marks
pub mod InFront
pub mod Told
pub mod Texts
