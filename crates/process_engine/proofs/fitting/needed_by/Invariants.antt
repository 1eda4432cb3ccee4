use Rattle.std.proofs.Common.{◌≡◌, ◌≤◌, ◌+◌, ◌*◌, length}
use Rattle.std.specs.List.{sum_by}
use Rattle.process_engine.specs.Fitting.{need_of}
use Rattle.process_engine.proofs.fitting.needed_by.Given as goal

-- what the plans that were passed need, and what is left
abbrev pub invariant-loop-rest : goal.invariant-loop-rest
invariant-loop-rest l = record {
  needed : l.needed + sum_by need_of l.rest ≡ sum_by need_of l.fn.plans;
  few : l.needed + 131071 * length l.rest ≤ 131071 * length l.fn.plans;
}

abbrev pub decreases-loop-rest : goal.decreases-loop-rest
decreases-loop-rest l = length l.rest
