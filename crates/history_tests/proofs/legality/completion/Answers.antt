use Rattle.process_tree.specs.Conflicts.{do_conflict, operations_in}
use Rattle.schedule_model.specs.Course.{courses_of}
use Rattle.schedule_model.proofs.NoConflict.{own_order-legal}
use Rattle.history_tests.proofs.legality.completion.Goals as goal

pub completed-requires-clause-planned : goal.completed-requires-clause-planned
completed-requires-clause-planned g c = (operations_in c.args.c.now, c.requires)

pub completed-requires-clause-own_order : goal.completed-requires-clause-own_order
completed-requires-clause-own_order g c = own_order-legal (courses_of c.args.h.now.plans) (do_conflict c.args.c.now) c.args.h.now.events c.in-Ok.ensures.legal
