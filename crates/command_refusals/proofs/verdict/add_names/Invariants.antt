use Rattle.std.proofs.Common.{◌≡◌, ◌++◌, length, map}
use Rattle.std.specs.List.{join_with_byte}
use Rattle.command_refusals.specs.Verdicts.{step_name}
use Rattle.command_refusals.proofs.verdict.add_names.Given as goal

abbrev pub invariant-loop-rest : goal.invariant-loop-rest
invariant-loop-rest l = l.text.items ++ join_with_byte 47 (map (step_name l.tree) l.rest) ≡ l.fn.text.items ++ join_with_byte 47 (map (step_name l.tree) l.places)

abbrev pub decreases-loop-rest : goal.decreases-loop-rest
decreases-loop-rest l = length l.rest
