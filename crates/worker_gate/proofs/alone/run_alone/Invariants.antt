use Rattle.std.proofs.Common.{◌-◌, length}
use Rattle.process_core.specs.Cores.{IsCore}
use Rattle.process_core.specs.Room.{room_of}
use Rattle.engine_calls.specs.GateAnswers.{asked}
use Rattle.engine_calls.specs.Runs.{IsReady}
use Rattle.worker_gate.specs.Running.{NothingRuns, RanBy}
use Rattle.worker_gate.proofs.alone.run_alone.Given as goal

-- so far the engine was only run, and no piece is out
abbrev pub invariant-turns : goal.invariant-turns
invariant-turns g l = record {
  ran : RanBy g.R.Rack (asked g.G.Gate l.fn.gate l.gate) l.fn.engine l.engine;
  ready : IsReady g.B.Resource l.engine;
  idle : NothingRuns l.engine.core;
  core : IsCore l.engine.core;
}

-- how many events may still be kept
abbrev pub decreases-turns : goal.decreases-turns
decreases-turns g l = room_of l.engine.core - length l.engine.core.kept
