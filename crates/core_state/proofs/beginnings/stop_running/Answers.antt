use Rattle.std.proofs.Common.{◌∙◌, sym}
use Rattle.core_state.proofs.IdleStops.{idle_stops, not_some}
use Rattle.core_state.proofs.beginnings.stop_running.Goals as goal

pub returns-else-is_some : goal.returns-else-is_some
returns-else-is_some c = idle_stops c.args.i c.args.holds.now (sym c.running.ensures ∙ not_some c.running.result (sym c.is_some.ensures ∙ c.if-is_some.false))
