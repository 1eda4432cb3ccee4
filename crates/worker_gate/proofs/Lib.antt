pub mod NothingOut
pub mod IdleMoments
pub mod AloneReplies
pub mod AloneTurns
pub mod RanRuns
pub mod ManyCalls
