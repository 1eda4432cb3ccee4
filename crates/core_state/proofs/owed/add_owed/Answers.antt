use Rattle.std.proofs.Common.{◌∙◌, ◌<◌, ◌++◌, ◌∷◌, [], length, map, ap, sym, subst, append_assoc, length-append, arith}
use Rattle.process_tree.specs.Blocks.{outline}
use Rattle.process_tree.specs.Stands.{left_from}
use Rattle.process_tree.specs.declared.play.Place.TheVariants.{Step}
use Rattle.admission.specs.Admission.{steps_owed_after}
use Rattle.admission.specs.Parts.{steps_from}
use Rattle.admission.proofs.LastWays.{IsOfTree, next_less, next_within, owed_from}
use Rattle.core_state.specs.OpenTables.{planned_behind, planned_step}
use Rattle.core_state.proofs.owed.add_owed.Goals as goal

pub owed-init : goal.owed-init
owed-init c =
    let p = c.args.plan.now in
    let good = c.last_after-place.ensures.good in
    record {
      within = subst (IsOfTree p.tree) (sym c.last_after-place.ensures.place) (next_within p.tree c.args.step good);
      planned = ap (λ ps. c.args.planned.now.items ++ map (planned_step p) ps) (ap (steps_from p) c.last_after-place.ensures.place ∙ sym (owed_from p c.args.step good));
    }

pub push-requires : goal.push-requires
push-requires c =
    let p = c.args.plan.now in
    let d = c.in-Step.owed in
    let all = ap length (sym (ap (λ q. c.owed.planned.items ++ map (planned_step p) (steps_from p q)) c.in-Step.is) ∙ c.owed.invariant.planned) in
    let a = length-append c.owed.planned.items (planned_step p d ∷ map (planned_step p) (steps_owed_after p d)) in
    let b = length-append c.args.planned.now.items (planned_behind p c.args.step) in
    let few = c.requires.few in
    (omega arith, omega arith)

pub owed-smaller : goal.owed-smaller
owed-smaller c =
    let p = c.args.plan.now in
    let d = c.in-Step.owed in
    let within : d < length (outline p.tree).steps = subst (IsOfTree p.tree) c.in-Step.is c.owed.invariant.within in
    subst (λ q. left_from (length (outline p.tree).steps) c.last_after-place-in-Step.result < left_from (length (outline p.tree).steps) q) (sym c.in-Step.is)
    (subst (λ q. left_from (length (outline p.tree).steps) q < left_from (length (outline p.tree).steps) (Step d)) (sym c.last_after-place-in-Step.ensures.place)
    (next_less p.tree d c.last_after-place.ensures.good within))

pub owed-preserved : goal.owed-preserved
owed-preserved c =
    let p = c.args.plan.now in
    let d = c.in-Step.owed in
    let good = c.last_after-place.ensures.good in
    record {
      within = subst (IsOfTree p.tree) (sym c.last_after-place-in-Step.ensures.place) (next_within p.tree d good);
      planned =
          ap (λ xs. xs ++ map (planned_step p) (steps_from p c.last_after-place-in-Step.result)) (c.push.ensures.items ∙ ap (λ step. c.owed.planned.items ++ step ∷ []) c.planned_step.ensures)
          ∙ (append_assoc c.owed.planned.items (planned_step p d ∷ []) (map (planned_step p) (steps_from p c.last_after-place-in-Step.result))
          ∙ (ap (λ ds. c.owed.planned.items ++ planned_step p d ∷ map (planned_step p) ds) (ap (steps_from p) c.last_after-place-in-Step.ensures.place ∙ sym (owed_from p d good))
          ∙ (ap (λ q. c.owed.planned.items ++ map (planned_step p) (steps_from p q)) (sym c.in-Step.is) ∙ c.owed.invariant.planned)));
    }
