use Rattle.process_engine.proofs.FewQueued.{few_queued}
use Rattle.process_engine.proofs.flushing.drop_group.Goals as goal

pub keep_each-requires-clause-distinct : goal.keep_each-requires-clause-distinct
keep_each-requires-clause-distinct g c = c.requires.queued.distinct

pub keep_each-requires-clause-few : goal.keep_each-requires-clause-few
keep_each-requires-clause-few g c = few_queued c.args.engine.now c.invariant_holds.ensures.run c.args.pieces.now.items c.requires.queued
