use Rattle.std.proofs.Common.{sym, ◌∙◌, ap, take}
use Rattle.std.specs.List.{list_any}
use Rattle.process_tree.specs.Making.{same_text}
use Rattle.process_tree.proofs.GoodSteps.{name_next, name_here}
use Rattle.process_tree.proofs.good.first_same_name.Goals as goal

pub loop-place-preserved : goal.loop-place-preserved
loop-place-preserved c =
    let asked = c.has_name.ensures ∙ ap (λ name. list_any (λ s. same_text name s.now.name) (take c.loop-place.place c.args.steps.now)) c.bytes.ensures.bytes in
    name_next c.args.steps.now c.loop-place.place c.index-steps-place.result _ c.loop-place-test.true c.index-steps-place.is (sym asked ∙ c.if-has_name.false) c.loop-place.invariant

pub returns-then-has_name-clause-first : goal.returns-then-has_name-clause-first
returns-then-has_name-clause-first c =
    let asked = c.has_name.ensures ∙ ap (λ name. list_any (λ s. same_text name s.now.name) (take c.loop-place.place c.args.steps.now)) c.bytes.ensures.bytes in
    name_here c.args.steps.now c.loop-place.place c.index-steps-place.result _ c.loop-place-test.true c.index-steps-place.is (sym asked ∙ c.if-has_name.true) c.loop-place.invariant
