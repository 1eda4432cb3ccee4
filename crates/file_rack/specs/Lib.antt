pub mod NewRack
