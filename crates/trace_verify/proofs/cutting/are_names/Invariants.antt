use Rattle.std.proofs.Common.{◌≡◌, length}
use Rattle.std.specs.List.{list_all}
use Rattle.process_tree.specs.Name.{is_name}
use Rattle.trace_verify.specs.Lines.{parts}
use Rattle.trace_verify.proofs.cutting.are_names.Given as goal

abbrev pub invariant-loop-word : goal.invariant-loop-word
invariant-loop-word l = list_all is_name (parts 32 l.rest) ≡ list_all is_name (parts 32 l.text)

abbrev pub decreases-loop-word : goal.decreases-loop-word
decreases-loop-word l = length l.rest
