use Rattle.audit_text.proofs.CopiedPlans.{planned_of, same_courses}
use Rattle.audit_text.proofs.histories.history_of.Goals as goal

pub returns-clause-courses : goal.returns-clause-courses
returns-clause-courses c = same_courses c.in_ok-h.h.plans c.args.log.now.started c.in_ok-h.ensures.plans

pub returns-clause-planned : goal.returns-clause-planned
returns-clause-planned c = λ operations sound. planned_of operations c.in_ok-h.h c.args.log.now c.in_ok-h.ensures sound
