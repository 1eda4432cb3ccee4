use Rattle.std.proofs.Common.{◌≡◌, ◌≤◌, ◌+◌, ◌++◌, length, vec_capacity}
use Rattle.process_tree.specs.Order.{Each}
use Rattle.process_core.specs.Cores.{courses_in}
use Rattle.process_engine.specs.Pieces.{events_of}
use Rattle.process_engine.specs.Queues.{IsUnfinished, pieces_of, running_of}
use Rattle.process_engine.proofs.flushing.list_events.Given as goal

abbrev pub invariant-loop-rest : goal.invariant-loop-rest
invariant-loop-rest g l = record {
  unfinished : Each (IsUnfinished l.fn.engine.core) (pieces_of l.rest);
  listed : l.events.items ++ events_of (courses_in l.fn.engine.core) (running_of l.fn.engine.core l.rest)
      ≡ l.fn.events.items ++ events_of (courses_in l.fn.engine.core) (running_of l.fn.engine.core l.fn.pieces);
  room : length l.events.items + length l.rest ≤ vec_capacity l.events;
  capacity : vec_capacity l.events ≡ vec_capacity l.fn.events;
}

abbrev pub decreases-loop-rest : goal.decreases-loop-rest
decreases-loop-rest g l = length l.rest
