use Rattle.std.proofs.Common.{sym, subst, ◌∙◌}
use Rattle.process_tree.specs.Conflicts.{Table}
use Rattle.hold_tables.specs.Kept.{IsKnown}
use Rattle.admission.proofs.Known.{known_running}
use Rattle.admission.proofs.processes.least_running.Goals as goal

pub least_with-requires-clause-other : goal.least_with-requires-clause-other
least_with-requires-clause-other c =
    let known = known_running c.args.holds.now c.conflicts.ensures.tidy c.args.process c.requires.«open» c.in-Some.e (sym c.running.ensures ∙ c.in-Some.is) in
    subst (λ (x : Table). IsKnown x c.in-Some.e) (sym c.conflicts.ensures.table) known
