use Rattle.std.proofs.Common.{◌∙◌, ap}
use Rattle.schedule_model.specs.Histories.{net}
use Rattle.schedule_rules.proofs.Standing.{stands-net}
use Rattle.schedule_rules.proofs.events.net.Goals as goal

pub loop-rest-init : goal.loop-rest-init
loop-rest-init c = rw (c.new-entries.ensures.items) (stands-net c.as_slice-rest.result.now ∙ ap net c.as_slice-rest.ensures)
