use Rattle.process_tree.specs.declared.plan.Plan.{Plan}
use Rattle.process_journal.specs.Plans.{IsPlanOfText}
use Rattle.process_journal.proofs.TextPlans.{found_is}
use Rattle.process_journal.proofs.Taking.{started_so, start_refused_so}
use Rattle.process_journal.proofs.replay.Replay.start.Goals as goal

pub returns-in-Some-clause-history : goal.returns-in-Some-clause-history
returns-in-Some-clause-history c =
    let own = found_is ((p : Plan) → ¬ IsPlanOfText c.args.catalog.now c.args.text.now p) (IsPlanOfText c.args.catalog.now c.args.text.now) c.in_ok-plan.field-0 c.in-Some.plan c.in-Some.is c.in_ok-plan.ensures in
    started_so c.args.catalog.now c.args.self.history c.args.process c.args.text.now c.in-Some.plan c.with_process.result own c.with_process.ensures.history

pub returns-in-Some-clause-refused : goal.returns-in-Some-clause-refused
returns-in-Some-clause-refused c =
    let own = found_is ((p : Plan) → ¬ IsPlanOfText c.args.catalog.now c.args.text.now p) (IsPlanOfText c.args.catalog.now c.args.text.now) c.in_ok-plan.field-0 c.in-Some.plan c.in-Some.is c.in_ok-plan.ensures in
    start_refused_so c.args.catalog.now c.args.self.history c.args.number c.args.process c.args.text.now c.in-Some.plan c.with_process.result own c.with_process.ensures.refused
