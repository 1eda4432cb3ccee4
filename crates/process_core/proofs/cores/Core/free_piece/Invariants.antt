use Rattle.std.proofs.Common.{◌≡◌}
use Rattle.std.specs.Option.{option_map}
use Rattle.machine_model.proofs.Victims.{not_begun}
use Rattle.core_state.specs.Cores.{moment_of}
use Rattle.process_core.specs.Moments.{first_blocked_in, free_piece_in}
use Rattle.process_core.specs.Rotation.{IfWaiting, piece_found, waiting_of}
use Rattle.process_core.proofs.VictimsKept.{with_victims}
use Rattle.process_core.proofs.cores.Core.free_piece.Given as goal

-- with the victims that follow it comes to the same, and this is found in rotation
abbrev pub invariant-stalls : goal.invariant-stalls
invariant-stalls l = record {
  core : with_victims l.self ≡ with_victims l.fn.self;
  piece : piece_found l.found ≡ free_piece_in l.self;
  waiting : IfWaiting l.found (λ w. option_map waiting_of w ≡ first_blocked_in l.self);
}

abbrev pub decreases-stalls : goal.decreases-stalls
decreases-stalls l = not_begun (moment_of l.self)
