pub mod Lines
pub mod ShownWords
pub mod Orders
