use Rattle.std.proofs.Common.{◌≡◌, ◌+◌, drop, take, reverse}
use Rattle.schedule_model.specs.Reduction.{not_serial, not_serial_from}
use Rattle.schedule_rules.proofs.serial.not_serial.Given as goal

abbrev pub invariant-loop-place : goal.invariant-loop-place
invariant-loop-place l = not_serial_from (l.place + 1) (reverse (take l.place l.list)) (drop l.place l.list) ≡ not_serial l.list
