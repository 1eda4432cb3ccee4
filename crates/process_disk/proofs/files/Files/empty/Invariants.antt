use Rattle.std.proofs.Common.{◌≡◌, replicate, []}
use Rattle.process_disk.proofs.files.Files.empty.Given as goal

abbrev pub invariant-loop : goal.invariant-loop
invariant-loop l = l.files.items ≡ replicate l.counter []
