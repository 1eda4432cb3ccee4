-- The standing facts and the admission laws, whole.
use Rattle.machine_model.specs.Laws.{AdmissionLawsHold, StandingFactsHold}
use Rattle.machine_model.specs.Runs.{now}
use Rattle.machine_model.proofs.Clear.{undos_wait_by_a5}
use Rattle.machine_model.proofs.EndedFree.{ended_is_free}
use Rattle.machine_model.proofs.FixedFree.{fixed_is_free}
use Rattle.machine_model.proofs.FixingFree.{fixing_is_free}
use Rattle.machine_model.proofs.FreeEnds.{ends_are_free}
use Rattle.machine_model.proofs.LastPending.{last_pending_is_free}
use Rattle.machine_model.proofs.NoCircle.{no_circle}
use Rattle.machine_model.proofs.OwedSteps.{owed_steps_are_free}
use Rattle.machine_model.proofs.PendingClosed.{pending_is_closed}
use Rattle.machine_model.proofs.PendingFree.{pending_is_free}
use Rattle.machine_model.proofs.ReservedFree.{reserved_is_free}
use Rattle.machine_model.proofs.RunningFree.{running_steps_are_free}
use Rattle.machine_model.proofs.UndoneFree.{undone_is_free}

pub standing_facts_hold : StandingFactsHold
standing_facts_hold table plans s session = record {
  reserved_is_free = reserved_is_free table plans s session;
  fixed_is_free = fixed_is_free table plans s session;
  running_are_free = running_steps_are_free table plans s session;
  pending_is_free = pending_is_free table plans s session;
  fixing_is_free = fixing_is_free table plans s session;
  undone_is_free = undone_is_free table plans s session;
  pending_is_closed = pending_is_closed table plans s session;
  ended_is_free = ended_is_free table plans s session;
}

pub admission_laws_hold : AdmissionLawsHold
admission_laws_hold table plans s session = record {
  no_circle = no_circle table plans s session;
  undo_by_rule = undos_wait_by_a5 table s.courses (now table s);
  owed_is_free = owed_steps_are_free table plans s session;
  end_is_free = ends_are_free table plans s session;
  last_pending_is_free = last_pending_is_free table plans s session;
}
