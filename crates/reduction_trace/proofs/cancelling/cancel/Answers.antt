use Rattle.std.proofs.Common.{ap, ◌∙◌}
use Rattle.schedule_model.specs.PrintedTrace.{place_taken_back}
use Rattle.reduction_trace.proofs.FirstCancel.{cancel-first}
use Rattle.reduction_trace.proofs.cancelling.cancel.Goals as goal

pub returns-clause-phase : goal.returns-clause-phase
returns-clause-phase c =
    cancel-first c.args.left.now.items c.remove.new.list.items c.remove-2.new.list.items c.args.undo c.place_taken_back-step.result c.args.steps.now.items c.add_move.new.steps.items
    c.push.new.self.items c.requires.first (c.place_taken_back-step.ensures.place ∙ ap (place_taken_back c.args.undo) c.deref.ensures.value) c.remove.ensures c.remove-2.ensures
    c.in_ok-add_move.ensures c.in_ok-push.ensures.items
