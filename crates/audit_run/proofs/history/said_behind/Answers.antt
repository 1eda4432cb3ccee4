use Rattle.std.proofs.Common.{length, subst, sym}
use Rattle.audit_text.specs.Copies.{IsSound}
use Rattle.audit_run.proofs.JournalParts.{planned_sound}
use Rattle.audit_run.proofs.history.said_behind.Goals as goal

pub outcome_of-requires-clause-sound : goal.outcome_of-requires-clause-sound
outcome_of-requires-clause-sound c =
    let n = length c.args.c.now.ops in
    subst (IsSound n) (sym c.in_ok-log.ensures) (planned_sound n c.args.h.now c.requires.planned)
