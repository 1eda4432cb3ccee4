-- What a gate of a pair that meets is seen as.
use Rattle.std.specs.Prelude.{ℕ}

-- how many pieces it was asked to work on and how many it has refused, or the last number of a counter
pub record MeetingState : Type 0 where
  pub calls : ℕ
  pub refusals : ℕ
