-- Pieces: which were handed out, and what became of each.
use Rattle.std.specs.Prelude.{ℕ, Bool, false, ◌&&◌, ◌||◌, List, [], ◌∷◌, filter, find, length, nat_eq, if◌then◌else◌, Option, Some}
use Rattle.std.specs.Prelude.{None}
use Rattle.std.specs.List.{list_any}
use Rattle.machine_model.specs.declared.kept.Work.{Work}
use Rattle.machine_model.specs.declared.kept.Kept.{Kept}
use Rattle.machine_model.specs.declared.kept.Kept.TheVariants.{Start, Hand, Effect, Refuse, Abort, Victim, Restart}
use Rattle.machine_model.specs.declared.replies.PieceState.{PieceState}
use Rattle.machine_model.specs.declared.replies.PieceState.TheVariants.{Out, Dropped, Over}
use Rattle.machine_model.specs.Progress.{same_work}
use Rattle.machine_model.specs.Moment.{Moment, Piece, Lost}

-- the piece that this event hands out, in front of these
abbrev pub handed : Kept → List Piece → List Piece
handed (Hand piece process step work) ps = record { number = piece; process = process; step = step; work = work } ∷ ps
handed (Start i) ps = ps
handed (Effect n) ps = ps
handed (Refuse n) ps = ps
handed (Abort i) ps = ps
handed (Victim i) ps = ps
handed Restart ps = ps

-- the pieces that were handed out, in order
abbrev pub hands : List Kept → List Piece
hands [] = []
hands (k ∷ ks) = handed k (hands ks)

-- the piece of this number
abbrev pub piece_of : List Kept → ℕ → Option Piece
piece_of ks n = find (λ p. nat_eq p.number n) (hands ks)

-- this event is the refusal of piece n
abbrev pub is_refusal : ℕ → Kept → Bool
is_refusal n (Refuse p) = nat_eq n p
is_refusal n (Start i) = false
is_refusal n (Hand piece process step work) = false
is_refusal n (Effect p) = false
is_refusal n (Abort i) = false
is_refusal n (Victim i) = false
is_refusal n Restart = false

-- this event is its effect
abbrev pub is_effect : ℕ → Kept → Bool
is_effect n (Effect p) = nat_eq n p
is_effect n (Start i) = false
is_effect n (Hand piece process step work) = false
is_effect n (Refuse p) = false
is_effect n (Abort i) = false
is_effect n (Victim i) = false
is_effect n Restart = false

-- a piece is finished once it took effect or was refused
abbrev pub is_finished : List Kept → ℕ → Bool
is_finished ks n = list_any (λ k. is_effect n k || is_refusal n k) ks

-- the running piece of process i, if it has one
abbrev pub running_of : Moment → ℕ → Option Piece
running_of m i = find (λ p. nat_eq p.process i) m.out

-- piece n is running
abbrev pub runs : Moment → ℕ → Bool
runs m n = list_any (λ p. nat_eq p.number n) m.out

-- the number of the kept event
abbrev pub event_of_lost : Option Lost → Option ℕ
event_of_lost None = None
event_of_lost (Some l) = Some l.event

-- the kept event at which piece n was dropped: that at which its process began to complete while it was out
abbrev pub dropped_at : Moment → ℕ → Option ℕ
dropped_at m n = event_of_lost (find (λ l. nat_eq l.piece.number n) m.lost)

-- dropped at this kept event, or finished
abbrev pub dropped_or_over : Option ℕ → PieceState
dropped_or_over None = Over
dropped_or_over (Some k) = Dropped k

-- what became of piece n, which was handed out: it is out, was dropped, or is over
abbrev pub state_of : Moment → ℕ → PieceState
state_of m n = if runs m n then Out else dropped_or_over (dropped_at m n)

-- the refused pieces
abbrev pub refused_pieces : List Kept → List Piece
refused_pieces ks = filter (λ p. list_any (is_refusal p.number) ks) (hands ks)

-- the piece is this work on this step of process i
abbrev pub is_try_of : ℕ → ℕ → Work → Piece → Bool
is_try_of i step work p = nat_eq p.process i && nat_eq p.step step && same_work p.work work

-- how often this step of process i was refused, doing this work
abbrev pub refusals : List Kept → ℕ → ℕ → Work → ℕ
refusals ks i step work = length (filter (is_try_of i step work) (refused_pieces ks))
