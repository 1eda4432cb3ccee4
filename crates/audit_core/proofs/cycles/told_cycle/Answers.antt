use Rattle.std.proofs.Common.{arith}
use Rattle.process_tree.specs.Conflicts.{do_conflict}
use Rattle.dependence_model.specs.Dependence.{must_precede, processes_of}
use Rattle.audit_core.proofs.Precede.{has_all, processes_count, if_ok}
use Rattle.audit_core.proofs.cycles.told_cycle.Goals as goal

pub returns : goal.returns
returns c =
    let arrow = must_precede (do_conflict c.args.c.now) c.args.left.now in
    let all = processes_of c.args.left.now in
    let count = processes_count c.args.left.now in
    if_ok _ _ c.first_cycle.result c.first_cycle.ensures
    (λ found finds. finds arrow all c.in_ok-rows.ensures (has_all (do_conflict c.args.c.now) c.args.left.now c.requires.few) (omega (arith, count)))
