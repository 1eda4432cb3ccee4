-- A flush, as a line of a session.
use Rattle.std.proofs.Common.{◌≡◌, Bool, true, false, cond, List, [], ◌∷◌, map, filter, refl, ap}
use Rattle.machine_model.specs.Moment.{Moment}
use Rattle.machine_model.specs.Pieces.{runs}
use Rattle.machine_model.specs.Replies.{Handed}
use Rattle.process_engine.specs.Pieces.{numbers_of}
use Rattle.process_engine.specs.Queues.{pieces_of}
use Rattle.session_play.specs.Pieces.{number_of}

-- the numbers of those that run
step : (m : Moment) (d : Handed) (group : List Handed) (b : Bool) → numbers_of (filter (λ p. runs m p.number) (pieces_of group)) ≡ filter (runs m) (map number_of group)
    → numbers_of (cond b (d.piece ∷ filter (λ p. runs m p.number) (pieces_of group)) (filter (λ p. runs m p.number) (pieces_of group)))
    ≡ cond b (number_of d ∷ filter (runs m) (map number_of group)) (filter (runs m) (map number_of group))
step m d group true rest = ap (λ ns. number_of d ∷ ns) rest
step m d group false rest = rest

pub running_numbers : (m : Moment) (group : List Handed) → numbers_of (filter (λ p. runs m p.number) (pieces_of group)) ≡ filter (runs m) (map number_of group)
running_numbers m [] = refl
running_numbers m (d ∷ group) = step m d group (runs m d.piece.number) (running_numbers m group)
