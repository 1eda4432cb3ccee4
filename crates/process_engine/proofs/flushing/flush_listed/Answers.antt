use Rattle.std.proofs.Common.{sym, subst}
use Rattle.history_files.specs.Standing.{EachFits}
use Rattle.process_tree.specs.Order.{Each}
use Rattle.process_core.specs.Cores.{courses_in}
use Rattle.process_engine.specs.Pieces.{FitsItsBytes}
use Rattle.process_engine.specs.Queues.{pieces_of, running_of}
use Rattle.process_engine.proofs.FewQueued.{few_queued}
use Rattle.process_engine.proofs.GroupKept.{found_some, may_together, some_run}
use Rattle.process_engine.proofs.flushing.flush_listed.Goals as goal

pub returns-then-is_empty-clause-fits : goal.returns-then-is_empty-clause-fits
returns-then-is_empty-clause-fits g c = subst (λ x. EachFits g.B.Resource x.files.stores) (sym c.drop_group.ensures.same) c.requires.fits

pub put_group-requires-clause-group : goal.put_group-requires-clause-group
put_group-requires-clause-group g c =
    let e = c.args.engine.now in
    let group = c.args.pieces.now.items in
    let fits = subst (λ ps. Each FitsItsBytes (pieces_of ps)) c.deref.ensures.value c.pieces_fit.ensures in
    (running_of e.core group, may_together e group c.requires.queued fits (some_run (courses_in e.core) (running_of e.core group) c.args.events.now c.requires.events (found_some c.args.events.now c.is_empty.result c.is_empty.ensures c.if-is_empty.false)), c.requires.events)

pub returns-clause-fits : goal.returns-clause-fits
returns-clause-fits g c = subst (λ x. EachFits g.B.Resource x.stores) (sym c.keep_group-group.ensures.same) c.put_group.ensures.fits

pub keep_group-group-requires-clause-few : goal.keep_group-group-requires-clause-few
keep_group-group-requires-clause-few g c = few_queued c.args.engine.now c.invariant_holds.ensures.run c.args.pieces.now.items c.requires.queued
