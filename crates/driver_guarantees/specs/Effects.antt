-- What the machine of `exactly_once` takes of the program, said of sessions: the names of the effects of a history, and of the work that is out.
use Rattle.std.specs.Prelude.{ℕ, List, [], ◌∷◌, ◌≡◌, Option, Some, None, IfSome, IsTrue, if◌then◌else◌}
use Rattle.process_tree.specs.declared.entry.Entry.{Entry}
use Rattle.process_tree.specs.declared.plan.Plan.{Plan}
use Rattle.schedule_model.specs.declared.event.Event.{Event}
use Rattle.schedule_model.specs.Conflict.{ConflictRelation}
use Rattle.schedule_model.specs.Histories.{acts}
use Rattle.machine_model.specs.declared.kept.Work.{Work}
use Rattle.machine_model.specs.declared.kept.Work.TheVariants.{Forward, Undo, End}
use Rattle.machine_model.specs.Advance.{Machine}
use Rattle.machine_model.specs.Laws.{IsSession}
use Rattle.machine_model.specs.Moment.{Piece}
use Rattle.machine_model.specs.Pieces.{running_of}
use Rattle.machine_model.specs.Runs.{history, now}
use Rattle.exactly_once.specs.Laws.{InOrder}
use Rattle.exactly_once.specs.Machine.{may_follow}
use Rattle.exactly_once.specs.Names as names

-- the name of an effect
abbrev pub name_of : Entry → names.Name
name_of e = if e.undo then names.Undo e.process e.step else names.Do e.process e.step

-- the names of these, the newest first, in front of those before them
abbrev pub names_before : List names.Name → List Entry → List names.Name
names_before ns [] = ns
names_before ns (e ∷ es) = names_before (name_of e ∷ ns) es

abbrev pub names_of : List Event → List names.Name
names_of h = names_before [] (acts h)

-- the name of the work of a piece; an end has none
abbrev pub work_name : ℕ → ℕ → Work → Option names.Name
work_name i b Forward = Some (names.Do i b)
work_name i b Undo = Some (names.Undo i b)
work_name i b End = None

-- In a session each effect may follow those before it, and the work of whatever piece is out may follow the history.
pub record KeepsOrder (table : ConflictRelation) (s : Machine) : Type 0 where
  pub effects : InOrder (names_of (history table s))
  pub out : (i : ℕ) (p : Piece) → running_of (now table s) i ≡ Some p
      → IfSome (work_name p.process p.step p.work) (λ n. IsTrue (may_follow (names_of (history table s)) n))

abbrev pub SessionsKeepOrder : Type 0
SessionsKeepOrder = (table : ConflictRelation) (plans : List Plan) (s : Machine) → IsSession table plans s → KeepsOrder table s
