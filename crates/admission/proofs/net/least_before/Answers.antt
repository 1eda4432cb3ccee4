use Rattle.std.proofs.Common.{sym, ap}
use Rattle.std.specs.Prelude.{take}
use Rattle.machine_model.specs.declared.blocked.Rule.TheVariants.{A3}
use Rattle.admission.specs.Least.{lesser_of}
use Rattle.admission.proofs.Clear.{none_before, none_on}
use Rattle.admission.proofs.net.least_before.Goals as goal

pub returns-then-is_clear_of_net : goal.returns-then-is_clear_of_net
returns-then-is_clear_of_net c =
    let t = c.args.holds.now in
    let y = c.args.y in
    sym (ap (λ o. lesser_of o c.args.found) (none_on t.conflicts c.args.y A3 (take c.args.place t.net) (none_before t.conflicts c.args.y c.args.place t.net (c.is_clear_of_net.ensures.clear c.if-is_clear_of_net.true))))
