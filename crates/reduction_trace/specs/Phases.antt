-- What the phases of a printed trace give in all, when a part of it is there.
use Rattle.std.specs.Prelude.{ℕ, ◌+◌, List, [], ◌++◌, length}
use Rattle.process_tree.specs.declared.entry.Entry.{Entry}
use Rattle.schedule_model.specs.declared.trace_step.TraceStep.{TraceStep}
use Rattle.schedule_model.specs.PrintedTrace.{Trace, cancel_phase, serial_phase}

-- these steps and these entries first
abbrev pub behind : List TraceStep → List Entry → Trace → Trace
behind steps front t = record { steps = steps ++ t.steps; list = front ++ t.list }

-- these steps, and then the cancel phase of what is left
abbrev pub cancel_phase_behind : List TraceStep → List Entry → Trace
cancel_phase_behind steps left = behind steps [] (cancel_phase (length left) left)

-- these steps and these entries, and then the serial phase of what is left
abbrev pub serial_phase_behind : List ℕ → List TraceStep → List Entry → List Entry → Trace
serial_phase_behind order steps front left = behind steps front (serial_phase (length left) order (length front + 1) left)
