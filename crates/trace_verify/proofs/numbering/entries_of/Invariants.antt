use Rattle.std.proofs.Common.{◌≡◌, ◌++◌, ◌+◌, ◌≤◌, map, length}
use Rattle.trace_verify.specs.Names.{with_names, entry_of, step_names, op_names, schedule}
use Rattle.trace_verify.proofs.numbering.entries_of.Given as goal

abbrev pub invariant-loop-rest : goal.invariant-loop-rest
invariant-loop-rest l = record {
  steps : with_names l.steps (map (λ a. a.step) l.rest) ≡ step_names l.acts;
  ops : with_names l.ops (map (λ a. a.op) l.rest) ≡ op_names l.acts;
  entries : l.entries.items ++ map (entry_of (step_names l.acts) (op_names l.acts)) l.rest ≡ schedule l.acts;
  few_steps : length l.steps + length l.rest ≤ length l.acts;
  few_ops : length l.ops + length l.rest ≤ length l.acts;
}

abbrev pub decreases-loop-rest : goal.decreases-loop-rest
decreases-loop-rest l = length l.rest
