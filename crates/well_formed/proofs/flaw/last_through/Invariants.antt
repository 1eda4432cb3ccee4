use Rattle.std.proofs.Common.{◌≡◌, [], drop}
use Rattle.well_formed.specs.Spots.{last_through}
use Rattle.well_formed.proofs.flaw.last_through.Given as goal

abbrev pub invariant-loop-path : goal.invariant-loop-path
invariant-loop-path l = last_through l.step l.place (drop l.path-index l.paths) l.found ≡ last_through l.step l.place l.paths []
