pub mod Sessions
pub mod RoundAndRound
pub mod PassedOver
pub mod DialogueEnds
pub mod EffectOrder
