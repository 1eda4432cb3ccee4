use Rattle.std.proofs.Common.{◌<◌, length, sym, ap, subst, ◌∙◌}
use Rattle.process_tree.specs.Blocks.{outline}
use Rattle.process_tree.specs.Entries.{entry_of}
use Rattle.process_tree.specs.Recovery.{last_place_after}
use Rattle.process_tree.specs.Shape.{shape_of}
use Rattle.process_tree.specs.Stands.{left_from}
use Rattle.process_tree.specs.declared.play.Place.TheVariants.{Step}
use Rattle.admission.specs.Least.{lesser_of}
use Rattle.admission.specs.Parts.{least_against_owed, least_against_steps, steps_from}
use Rattle.admission.proofs.LastWays.{IsOfTree, next_less, next_within, one_owed, owed_from}
use Rattle.admission.proofs.Order.{with_none}
use Rattle.admission.proofs.owed.least_owed.Goals as goal

pub owed-init : goal.owed-init
owed-init c =
    let t = c.args.holds.now in
    let plan = c.args.plan.now in
    let good = c.last_after-place.ensures.good in
    record {
      within = subst (IsOfTree plan.tree) (sym c.last_after-place.ensures.place) (next_within plan.tree c.args.step good);
      least = ap (lesser_of c.args.found) (ap (λ p. least_against_steps t plan c.args.process (steps_from plan p)) c.last_after-place.ensures.place
          ∙ ap (least_against_steps t plan c.args.process) (sym (owed_from plan c.args.step good)));
    }

pub owed-smaller : goal.owed-smaller
owed-smaller c =
    let plan = c.args.plan.now in
    let d = c.in-Step.owed in
    let within : d < length (outline plan.tree).steps = subst (IsOfTree plan.tree) c.in-Step.is c.owed.invariant.within in
    subst (λ p. left_from (length (outline plan.tree).steps) c.last_after-place-in-Step.result < left_from (length (outline plan.tree).steps) p) (sym c.in-Step.is)
    (subst (λ p. left_from (length (outline plan.tree).steps) p < left_from (length (outline plan.tree).steps) (Step d)) (sym c.last_after-place-in-Step.ensures.place)
    (next_less plan.tree d c.last_after-place.ensures.good within))

pub owed-preserved : goal.owed-preserved
owed-preserved c =
    let t = c.args.holds.now in
    let plan = c.args.plan.now in
    let d = c.in-Step.owed in
    let good = c.last_after-place.ensures.good in
    record {
      within = subst (IsOfTree plan.tree) (sym c.last_after-place-in-Step.ensures.place) (next_within plan.tree d good);
      least =
          ap (λ p. lesser_of c.least_against_owed-least.result (least_against_steps t plan c.args.process (steps_from plan p))) c.last_after-place-in-Step.ensures.place
          ∙ ap (λ o. lesser_of o (least_against_steps t plan c.args.process (steps_from plan (last_place_after (shape_of plan.tree) d)))) (c.least_against_owed-least.ensures ∙ ap (λ e. lesser_of c.owed.least (least_against_owed t e)) c.entry_of-own.ensures)
          ∙ one_owed plan (λ s. least_against_owed t (entry_of plan c.args.process s)) d c.owed.least good
          ∙ ap (λ p. lesser_of c.owed.least (least_against_steps t plan c.args.process (steps_from plan p))) (sym c.in-Step.is)
          ∙ c.owed.invariant.least;
    }

pub returns : goal.returns
returns c =
    let t = c.args.holds.now in
    let plan = c.args.plan.now in
    sym (with_none c.owed.least)
    ∙ ap (λ p. lesser_of c.owed.least (least_against_steps t plan c.args.process (steps_from plan p))) (sym c.in_default.is)
    ∙ c.owed.invariant.least
