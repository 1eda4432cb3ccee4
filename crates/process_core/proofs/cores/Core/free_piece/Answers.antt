use Rattle.std.proofs.Common.{◌∙◌, ◌<◌, is_some, sym, ap, subst, refl}
use Rattle.machine_model.proofs.Victims.{not_begun}
use Rattle.machine_model.specs.Replies.{hand_to}
use Rattle.core_state.specs.Cores.{courses_in, moment_of}
use Rattle.process_core.specs.Moments.{first_free_in}
use Rattle.process_core.specs.Rotation.{piece_found}
use Rattle.process_core.proofs.FoundAfter.{none_is, some_is}
use Rattle.process_core.proofs.VictimsKept.{none_mapped, victim_may, victims_fewer, victims_free, victims_go, victims_over, with_victims}
use Rattle.process_core.proofs.cores.Core.free_piece.Goals as goal

pub stalls-init : goal.stalls-init
stalls-init c = record { core = refl; piece = c.found_in_rotation-found.ensures.piece; waiting = c.found_in_rotation-found.ensures.waiting }

pub blocked_victim-requires : goal.blocked_victim-requires
blocked_victim-requires c =
    let v = c.stalls.self in
    none_mapped (hand_to (courses_in v) (moment_of v)) (first_free_in v)
    (ap is_some (sym c.stalls.invariant.piece ∙ none_is (piece_found c.stalls.found) (sym c.has_none.ensures ∙ c.stalls-test.true)))

pub make_victim-requires : goal.make_victim-requires
make_victim-requires c = victim_may c.stalls.self c.in-Some.i (sym c.in-Some.is ∙ c.blocked_victim.ensures)

pub stalls-smaller : goal.stalls-smaller
stalls-smaller c = subst (λ w. not_begun (moment_of w) < not_begun (moment_of c.stalls.self)) (sym c.make_victim.ensures) (victims_fewer c.stalls.self c.in-Some.i (sym c.in-Some.is ∙ c.blocked_victim.ensures))

pub stalls-preserved : goal.stalls-preserved
stalls-preserved c = record {
  core = ap with_victims c.make_victim.ensures ∙ (victims_go c.stalls.self c.in-Some.i (sym c.in-Some.is ∙ c.blocked_victim.ensures) ∙ c.stalls.invariant.core);
  piece = c.found_in_rotation-found-in-stalls.ensures.piece;
  waiting = c.found_in_rotation-found-in-stalls.ensures.waiting;
}

pub returns-in_default-clause-core : goal.returns-in_default-clause-core
returns-in_default-clause-core c = sym (victims_over c.stalls.self c.blocked_victim.result c.blocked_victim.ensures c.in_default.not-Some) ∙ c.stalls.invariant.core

pub returns-clause-core : goal.returns-clause-core
returns-clause-core c =
    sym (victims_free c.stalls.self (piece_found c.stalls.found) c.stalls.invariant.piece
    (some_is (piece_found c.stalls.found) (sym c.has_none.ensures ∙ c.stalls-test.false))) ∙ c.stalls.invariant.core
