use Rattle.std.proofs.Common.{◌∙◌, sym, arith}
use Rattle.process_core.proofs.Rotations.{few_plans}
use Rattle.process_restart.proofs.NextProcess.{first_asked, undo_asked}
use Rattle.process_restart.proofs.completing.next_process.Goals as goal

pub returns-in-Some : goal.returns-in-Some
returns-in-Some g c = undo_asked c.args.engine.now.core c.invariant_holds.ensures.run c.args.ended c.requires.ended _ (sym c.undo_next.ensures ∙ c.in-Some.is)

pub returns-in-None : goal.returns-in-None
returns-in-None g c = first_asked c.args.engine.now.core c.invariant_holds.ensures.run c.args.ended c.requires.ended (sym c.undo_next.ensures ∙ c.in-None.is)

pub overflow_add-result : goal.overflow_add-result
overflow_add-result g c =
    let few = few_plans c.args.engine.now.core c.invariant_holds.ensures.run in
    let within = c.requires.ended.within in
    omega (arith, few, within)
