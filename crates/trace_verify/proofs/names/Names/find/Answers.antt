use Rattle.std.proofs.Common.{◌∙◌, ap}
use Rattle.trace_verify.specs.Names.{found}
use Rattle.trace_verify.proofs.Naming.{some-below}
use Rattle.trace_verify.proofs.names.Names.find.Goals as goal

pub returns-clause-below : goal.returns-clause-below
returns-clause-below c = some-below c.args.self.now c.args.name.now c.copied.result
    (c.copied.ensures ∙ (c.get.ensures.value ∙ (c.self.invariant c.args.name.now ∙ ap (λ ns. found ns c.args.name.now) c.self.view_is)))
