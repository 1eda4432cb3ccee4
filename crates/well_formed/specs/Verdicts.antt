-- What a verdict says of a process.
use Rattle.process_tree.specs.Shape.{Shape}
use Rattle.std.specs.Prelude.{◌⊎◌}
use Rattle.process_tree.specs.Laws.{IsTreeShape}
use Rattle.process_tree.specs.Termination.{IsWellFormed, Fault, stuck_at, unreachable_at, IsFirstFault}
use Rattle.well_formed.specs.declared.verdict.Verdict.{Verdict}
use Rattle.well_formed.specs.declared.verdict.Verdict.TheVariants.{Good, Stuck, Unreachable, NoMemory}

-- nothing can go wrong; or what it names is the first thing that can
abbrev pub Tells : Shape → Verdict → Type 0
Tells t Good = IsWellFormed t
Tells t (Stuck step outcomes) = IsFirstFault t (stuck_at step outcomes)
Tells t (Unreachable step) = IsFirstFault t (unreachable_at step)
Tells t NoMemory = Unit

-- a tree is well-formed or has a first fault
abbrev pub EachTreeHasAVerdict : Type 0
EachTreeHasAVerdict = (t : Shape) → IsTreeShape t → IsWellFormed t ⊎ ((fault : Fault) × IsFirstFault t fault)
