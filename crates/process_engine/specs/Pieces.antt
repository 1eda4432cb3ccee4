-- Pieces that take effect one after another.
use Rattle.std.specs.Prelude.{ℕ, ◌≡◌, ◌<◌, ◌^◌, false, ⊤, List, [], ◌∷◌, map}
use Rattle.process_tree.specs.declared.play.Outcome.TheVariants.{Done}
use Rattle.schedule_model.specs.declared.event.Event.{Event}
use Rattle.schedule_model.specs.Course.{Course}
use Rattle.schedule_model.specs.Histories.{is_in}
use Rattle.machine_model.specs.declared.replies.PieceState.TheVariants.{Out}
use Rattle.machine_model.specs.Advance.{event_of}
use Rattle.machine_model.specs.Calls.{finish}
use Rattle.machine_model.specs.Moment.{Piece}
use Rattle.machine_model.specs.Pieces.{state_of}
use Rattle.process_core.specs.Answers.{after_call}
use Rattle.core_state.specs.Cores.{CoreState, IsHandedBy, moment_of}

-- the core once the pieces of these numbers have taken effect, one after another
abbrev pub after_effects : CoreState → List ℕ → CoreState
after_effects core [] = core
after_effects core (n ∷ ns) = after_effects (after_call core (finish n Done)) ns

-- their events
abbrev pub events_of : List Course → List Piece → List Event
events_of courses ps = map (event_of courses) ps

-- their numbers
abbrev pub numbers_of : List Piece → List ℕ
numbers_of ps = map (λ p. p.number) ps

-- the core once these pieces have taken effect, one after another
abbrev pub after_all : CoreState → List Piece → CoreState
after_all core ps = after_effects core (numbers_of ps)

-- this core handed the piece out, and it is out
pub record IsOut (core : CoreState) (p : Piece) : Type 0 where
  pub handed : IsHandedBy core p
  pub out : state_of (moment_of core) p.number ≡ Out

-- each number of the list stands in it once
abbrev pub AreDistinct : List ℕ → Type 0
AreDistinct [] = ⊤
AreDistinct (n ∷ ns) = (is_in n ns ≡ false) × AreDistinct ns

-- its numbers fit their bytes, as its types say
abbrev pub FitsItsBytes : Piece → Type 0
FitsItsBytes p = (p.process < 2 ^ 32) × (p.step < 2 ^ 16)
