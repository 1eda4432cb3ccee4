use Rattle.std.proofs.Common.{◌≡◌, ◌+◌, length}
use Rattle.command_tests.proofs.workers.meeting_gates.Given as goal

abbrev pub invariant-loop : goal.invariant-loop
invariant-loop l = length l.gates.items ≡ l.counter + l.counter
