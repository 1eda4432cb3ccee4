use Rattle.schedule_model.proofs.CompletionLaws.{own_order-completion}
use Rattle.schedule_model.proofs.laws.own_order_is_completed.Goals as goal

pub returns : goal.returns
returns c = own_order-completion
