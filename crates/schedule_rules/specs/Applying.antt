-- What is said of a list to which a step is applied.
use Rattle.std.specs.Prelude.{◌≡◌, ◌<◌, List, Option, Some, None, MatchOption}
use Rattle.process_tree.specs.declared.entry.Entry.{Entry}
use Rattle.process_tree.specs.Conflicts.{Table, operations_in}
use Rattle.process_tree.specs.Order.{Each}

-- the table has the operation of each of these entries
abbrev pub AreKnown : Table → List Entry → Type 0
AreKnown table es = Each (λ e. e.op < operations_in table) es

-- None exactly where nothing comes of the step, and the list is then as it was; else it is what comes of it
abbrev pub Answers : Option (List Entry) → List Entry → List Entry → Option Unit → Type 0
Answers comes old new answer = MatchOption answer ((comes ≡ None) × (new ≡ old)) (λ _. comes ≡ Some new)
