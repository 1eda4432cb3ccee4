use Rattle.std.proofs.Common.{◌≡◌, ◌+◌, length, map}
use Rattle.std.specs.Option.{option_map}
use Rattle.session_play.specs.Pieces.{number_of, place_in}
use Rattle.session_play.proofs.pieces.place_of.Given as goal

-- where it stands among those that are left, it stands among all
abbrev pub invariant-loop-rest : goal.invariant-loop-rest
invariant-loop-rest l = record {
  found : option_map (λ k. l.place + k) (place_in l.number (map number_of l.rest)) ≡ place_in l.number (map number_of l.pieces);
  count : l.place + length l.rest ≡ length l.pieces;
}

abbrev pub decreases-loop-rest : goal.decreases-loop-rest
decreases-loop-rest l = length l.rest
