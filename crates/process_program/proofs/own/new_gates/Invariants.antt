use Rattle.std.proofs.Common.{◌≡◌}
use Rattle.std.specs.Prelude.{replicate}
use Rattle.process_program.proofs.own.new_gates.Given as goal

abbrev pub invariant-loop : goal.invariant-loop
invariant-loop l = l.gates.items ≡ replicate l.counter (record { calls = 0; refusals = 0 })
