use Rattle.std.proofs.Common.{true, sym, subst, ◌∙◌}
use Rattle.std.specs.Prelude.{◌≡◌}
use Rattle.process_tree.specs.Conflicts.{Table, do_conflict}
use Rattle.schedule_model.specs.Conflict.{conflict}
use Rattle.machine_model.specs.declared.blocked.Rule.TheVariants.{A3}
use Rattle.admission.proofs.Barred.{some_on}
use Rattle.admission.proofs.held.is_met.Goals as goal

pub returns-clause-met : goal.returns-clause-met
returns-clause-met c is =
    let t = c.args.holds.now in
    let e = c.net_at-other.result in
    let meets = subst (λ (table : Table). conflict (do_conflict table) c.args.own e ≡ true) c.conflicts.ensures.table (sym c.between.ensures ∙ is) in
    some_on (do_conflict t.conflicts) A3 c.args.own t.net c.args.place e c.requires.place c.net_at-other.ensures.entry meets
