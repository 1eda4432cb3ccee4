pub mod Playing
pub mod Pieces
pub mod Answering
pub mod AtHand
