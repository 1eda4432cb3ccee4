use Rattle.std.proofs.Common.{◌≡◌, ◌++◌, List, length}
use Rattle.process_tree.specs.Conflicts.{do_conflict}
use Rattle.schedule_model.specs.declared.event.Event.{Event}
use Rattle.schedule_model.specs.Course.{courses_of}
use Rattle.schedule_model.specs.Laws.{plans_in}
use Rattle.audit_core.specs.Audits.{IsFoundFrom}
use Rattle.audit_core.proofs.auditing.audit.Given as goal

abbrev pub invariant-loop-left : goal.invariant-loop-left
invariant-loop-left l = record {
  rest : List Event;
  split : l.fn.h.events ≡ l.g.events ++ rest;
  plans : l.g.plans ≡ plans_in l.fn.h.plans l.g.events;
  count : length l.g.events ≡ l.left;
  found : IsFoundFrom (do_conflict l.c) (courses_of l.fn.h.plans) l.fn.h.events l.left l.found;
}

abbrev pub decreases-loop-left : goal.decreases-loop-left
decreases-loop-left l = l.left
