use Rattle.std.proofs.Common.{ℕ, ◌-◌, ◌≤◌, length, sym, subst, arith}
use Rattle.process_tree.specs.Conflicts.{do_conflict}
use Rattle.audit_core.specs.Taking.{AreAllKnown, TookAt}
use Rattle.audit_core.proofs.Takings.{took-all, took-then, took-else, taken_long, taken-at, taken-known}
use Rattle.audit_core.proofs.taking.take_some.Goals as goal

pub loop-at-preserved-then-branch : goal.loop-at-preserved-then-branch
loop-at-preserved-then-branch c =
    let table = do_conflict c.args.c.now in
    let at : ℕ = c.loop-at.at - 1 in
    let xs = c.loop-at.list.items in
    let ys = c.take_at.new.list.items in
    let this = subst (TookAt table at xs ys) c.if-branch.true c.in_ok-take_at.ensures.took in
    record {
      within = taken_long table at xs ys this;
      known = taken-known c.args.c.now table xs ys (taken-at table at xs ys this) c.loop-at.invariant.known;
      took = took-then table c.loop-at.at at c.args.list.now.items xs ys c.loop-at.took c.loop-at.invariant.took this;
    }

pub loop-at-preserved : goal.loop-at-preserved
loop-at-preserved c =
    let table = do_conflict c.args.c.now in
    let at : ℕ = c.loop-at.at - 1 in
    let xs = c.loop-at.list.items in
    let ys = c.take_at.new.list.items in
    let this = subst (TookAt table at xs ys) c.if-branch.false c.in_ok-take_at.ensures.took in
    record {
      within = subst (λ zs. at ≤ length zs) (sym this.0) (omega (arith, c.loop-at.invariant.within));
      known = subst (AreAllKnown c.args.c.now) (sym this.0) c.loop-at.invariant.known;
      took = took-else table c.loop-at.at at c.args.list.now.items xs ys c.loop-at.took (omega (arith, c.loop-at-test.true)) c.loop-at.invariant.took this;
    }

pub returns : goal.returns
returns c = record { took = took-all (do_conflict c.args.c.now) c.args.list.now.items c.loop-at.list.items c.loop-at.took c.loop-at.at (omega (arith, c.loop-at-test.false)) c.loop-at.invariant.took }
