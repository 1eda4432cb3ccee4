-- What a call of the program brings along: the boxes of the subsystems, and gates.
use Rattle.std.specs.Prelude.{List, [], map, replicate, Some}
use Rattle.resource_box.specs.declared.call.Kind.{Kind}
use Rattle.resource_box.specs.Meaning.{Pairs}
use Rattle.history_files.specs.Sound.{kinds}
use Rattle.worker_gate.specs.Gates.{plain_answer}
use Rattle.process_top.specs.Run.{never_asked}
use Rattle.process_top.specs.Worlds.{BoxState, GatesState}

pub record Own : Type 0 where
  pub boxes : List BoxState
  pub gates : GatesState

-- boxes, seen by their kinds and their values
abbrev pub boxes_of : {B : Type 0} → (B → Kind) → (B → Pairs) → List B → List BoxState
boxes_of sort meaning resources = map (λ b. record { kind = sort b; values = (meaning b).items }) resources

-- an empty box of a kind
abbrev pub empty_box : Kind → BoxState
empty_box k = record { kind = k; values = [] }

-- one for each subsystem
abbrev pub empty_boxes : List BoxState
empty_boxes = map empty_box kinds

-- sixteen plain gates that were never asked
abbrev pub new_gates : GatesState
new_gates = record { answers = λ p. Some (plain_answer p); counts = replicate 16 never_asked }

-- with which a call begins
abbrev pub new_own : Own
new_own = record { boxes = empty_boxes; gates = new_gates }
