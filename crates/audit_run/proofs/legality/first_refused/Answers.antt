use Rattle.std.proofs.Common.{sym}
use Rattle.process_tree.specs.Conflicts.{do_conflict}
use Rattle.schedule_model.specs.Course.{courses_of}
use Rattle.audit_run.proofs.legality.first_refused.Goals as goal

pub returns-in-Ok : goal.returns-in-Ok
returns-in-Ok c =
    let h = c.args.h.now in
    sym ((c.first_illegal_is_exact.ensures (do_conflict c.args.c.now.conflicts) (courses_of h.plans) h.events).legal c.in-Ok.ensures.legal)
