pub mod LeastPair
