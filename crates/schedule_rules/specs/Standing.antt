-- What an entry does to those that stand.
use Rattle.std.specs.Prelude.{not, List, [], ◌∷◌, ◌++◌, filter, if◌then◌else◌}
use Rattle.process_tree.specs.declared.entry.Entry.{Entry}
use Rattle.schedule_model.specs.Histories.{same_step}

-- an undo takes its step away, and a step comes last
abbrev pub stands_after : List Entry → Entry → List Entry
stands_after es e = if e.undo then filter (λ f. not (same_step f e)) es else es ++ e ∷ []
