pub mod Boxes
pub mod Own
pub mod Bars
pub mod Inputs
pub mod Ends
pub mod SystemEnds
pub mod Words
