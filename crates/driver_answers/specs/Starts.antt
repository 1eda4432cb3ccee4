-- What became of the processes of a name.
use Rattle.std.specs.Prelude.{ℕ, List, [], flat_map, length, if◌then◌else◌}
use Rattle.process_tree.specs.Blocks.{numbers_from}
use Rattle.process_tree.specs.Making.{same_text}
use Rattle.process_text.specs.Canonical.{line_of}
use Rattle.schedule_model.specs.declared.history.History.{History}
use Rattle.process_report.specs.Names.{process_name}
use Rattle.process_report.specs.Report.{end_line}

-- the line that a report's section `ends` has for process i, if it has this name
abbrev pub line_if_named : History → List ℕ → ℕ → List ℕ
line_if_named h name i = if same_text (process_name h.plans i) name then line_of (end_line h i) else []

-- those of all processes of this name, in the order of their starts
abbrev pub started : History → List ℕ → List ℕ
started h name = flat_map (line_if_named h name) (numbers_from 1 (length h.plans))
