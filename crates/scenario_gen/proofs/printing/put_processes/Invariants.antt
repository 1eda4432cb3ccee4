use Rattle.std.proofs.Common.{◌-◌, ◌≡◌, ◌++◌, ◌≤◌}
use Rattle.scenario_gen.specs.Generated.{processes_text}
use Rattle.scenario_gen.proofs.Drawing.{HasDrawn}
use Rattle.scenario_gen.proofs.printing.put_processes.Given as goal

-- the processes so far are printed, and the generator has drawn for these
abbrev pub invariant-loop-printed : goal.invariant-loop-printed
invariant-loop-printed l =
    (l.printed ≤ l.count) × (l.out.items ≡ l.fn.out.items ++ processes_text l.number l.printed) × HasDrawn l.number l.printed l.generator.number

abbrev pub decreases-loop-printed : goal.decreases-loop-printed
decreases-loop-printed l = l.count - l.printed
