-- The command `gen`.
use Rattle.std.specs.Prelude.{ℕ}
use Rattle.scenario_gen.specs.Generated.{generated as scenario}
use Rattle.command_refusals.specs.declared.status.Status.{Status}
use Rattle.process_top.specs.Replies.{Reply}
use Rattle.process_top.specs.Printed.{IsTextDue, IsTextComplete}

-- the scenario of these two numbers, or want of memory
abbrev pub IsGenDue : ℕ → ℕ → Reply → Type 0
IsGenDue number count reply = IsTextDue (scenario number count) reply

-- it is printed, or memory is wanting
abbrev pub IsGenComplete : Status → Type 0
IsGenComplete status = IsTextComplete status
