use Rattle.std.proofs.Common.{◌≡◌, ◌+◌, ◌++◌, ◌<◌, ◌^◌, length, filter}
use Rattle.process_tree.specs.Blocks.{numbers_from}
use Rattle.process_core.specs.Cores.{began_in}
use Rattle.session_play.specs.Playing.{is_at, just_began}
use Rattle.session_play.proofs.beginnings.just_began.Given as goal

-- those so far, and those among the processes that are left
abbrev pub invariant-loop-rest : goal.invariant-loop-rest
invariant-loop-rest g l = record {
  began : l.processes.items ++ filter (λ i. is_at (length l.engine.core.kept) (began_in l.engine.core i)) (numbers_from (l.i + 1) (length l.rest)) ≡ just_began l.engine.core;
  count : l.i + length l.rest < 2 ^ 32;
}

abbrev pub decreases-loop-rest : goal.decreases-loop-rest
decreases-loop-rest g l = length l.rest
