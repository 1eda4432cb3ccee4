use Rattle.std.proofs.Common.{take}
use Rattle.command_refusals.specs.Verdicts.{AreLines}
use Rattle.command_refusals.proofs.verdict.verdicts.Given as goal

abbrev pub invariant-loop-process : goal.invariant-loop-process
invariant-loop-process l = AreLines (take l.process-index l.processes) l.any l.text.items
