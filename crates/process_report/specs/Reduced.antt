-- The trace in an answered reduction.
use Rattle.schedule_model.specs.PrintedTrace.{Trace}
use Rattle.reduction_trace.specs.declared.reduction.Reduction.{Reduction}

abbrev pub trace_in : Reduction → Trace
trace_in r = record { steps = r.steps; list = r.serial }
