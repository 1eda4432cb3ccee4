use Rattle.std.proofs.Common.{length, ap, sym, refl, arith}
use Rattle.machine_model.specs.declared.blocked.Admitted.TheVariants.{Blocked as BlockedBy}
use Rattle.process_core.specs.Rotation.{piece_in}
use Rattle.process_core.proofs.RepliesSeen.{asked_blocked, asked_known, asked_open, asked_plan, asked_within}
use Rattle.process_core.proofs.cores.Core.is_behind.Goals as goal

pub overflow_sub-plan : goal.overflow_sub-plan
overflow_sub-plan c = (asked_plan c.self.view_is c.self.invariant c.args.i c.args.todo c.args.tried c.requires).0

pub bounds-as_slice-i : goal.bounds-as_slice-i
bounds-as_slice-i c =
    let bounds = asked_plan c.self.view_is c.self.invariant c.args.i c.args.todo c.args.tried c.requires in
    let low = bounds.0 in
    let high = bounds.1 in
    let many = ap length c.as_slice.ensures in
    omega arith

pub is_barred-requires-clause-open : goal.is_barred-requires-clause-open
is_barred-requires-clause-open c = asked_open c.self.view_is c.self.invariant c.args.i c.args.todo c.args.tried c.requires

pub is_barred-requires-clause-plan : goal.is_barred-requires-clause-plan
is_barred-requires-clause-plan c = asked_known c.self.view_is c.self.invariant c.args.i c.args.todo c.args.tried c.requires c.as_slice.result.now c.as_slice.ensures c.index-as_slice-i.result c.index-as_slice-i.is

pub is_barred-requires-clause-todo : goal.is_barred-requires-clause-todo
is_barred-requires-clause-todo c = asked_within c.self.view_is c.self.invariant c.args.i c.args.todo c.args.tried c.requires c.as_slice.result.now c.as_slice.ensures c.index-as_slice-i.result c.index-as_slice-i.is

pub returns : goal.returns
returns c is =
    let found = c.is_barred.ensures is in
    ap piece_in (sym (asked_blocked c.self.view_is c.self.invariant c.args.i c.args.todo c.args.tried c.requires c.as_slice.result.now c.as_slice.ensures c.index-as_slice-i.result c.index-as_slice-i.is
    (BlockedBy found.0) (sym found.1) found.0 refl))
