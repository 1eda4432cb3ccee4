use Rattle.process_tree.specs.Conflicts.{do_conflict}
use Rattle.schedule_model.specs.Course.{courses_of}
use Rattle.schedule_model.proofs.NoConflict.{own_order-legal}
use Rattle.reduction_trace.proofs.PrintedReduces.{steps_apply, chain_leads, list_is_serial, ends_give_order, if_both}
use Rattle.reduction_trace.proofs.reduction.trace.Goals as goal

pub printed-requires-clause-own_order : goal.printed-requires-clause-own_order
printed-requires-clause-own_order c = own_order-legal (courses_of c.args.h.now.plans) (do_conflict c.args.c.now) c.args.h.now.events c.requires.legal

pub returns-clause-applies : goal.returns-clause-applies
returns-clause-applies c =
    if_both _ _ _ c.printed.result c.printed.ensures.list c.printed.ensures.printed
    (λ r list printed. steps_apply c.args.c.now c.args.h.now.plans c.args.h.now.events c.requires.planned.good c.requires.legal r.list r.serial r.steps list.1 printed)

pub returns-clause-chain : goal.returns-clause-chain
returns-clause-chain c =
    if_both _ _ _ c.printed.result c.printed.ensures.list c.printed.ensures.printed
    (λ r list printed. chain_leads c.args.c.now c.args.h.now.plans c.args.h.now.events c.requires.planned.good c.requires.legal r.list r.serial r.steps list.1 printed)

pub returns-clause-serial : goal.returns-clause-serial
returns-clause-serial c =
    if_both _ _ _ c.printed.result c.printed.ensures.list c.printed.ensures.printed
    (λ r list printed. (
      list_is_serial c.args.c.now c.args.h.now.plans c.args.h.now.events c.requires.planned.good c.requires.legal r.list r.serial r.steps list.1 printed,
      ends_give_order c.args.c.now c.args.h.now.plans c.args.h.now.events c.requires.planned.good c.requires.legal r.list r.serial r.steps list.1 printed,
    ))
