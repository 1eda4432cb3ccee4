use Rattle.std.proofs.Common.{ap, ◌∙◌}
use Rattle.process_tree.specs.Conflicts.{do_conflict}
use Rattle.machine_model.specs.declared.blocked.Rule.TheVariants.{A4}
use Rattle.admission.specs.Least.{least_on, lesser_of}
use Rattle.admission.specs.Parts.{least_of_all}
use Rattle.admission.specs.declared.processes.Sought.TheVariants.{Owed}
use Rattle.admission.proofs.Order.{first_two}
use Rattle.admission.proofs.owed.least_against_owed.Goals as goal

pub returns : goal.returns
returns c =
    let t = c.args.holds.now in
    let net = least_on (do_conflict t.conflicts) A4 c.args.own t.net in
    c.least_in_net.ensures
    ∙ ap (lesser_of net) (c.lesser_of-held.ensures ∙ ap (lesser_of c.args.found) c.least_of_all.ensures.least)
    ∙ first_two net c.args.found (least_of_all t Owed c.args.own)
