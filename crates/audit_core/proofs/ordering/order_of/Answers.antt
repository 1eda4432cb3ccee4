use Rattle.std.proofs.Common.{◌∙◌, List, [], ◌∷◌, length, sym, ap, subst}
use Rattle.process_tree.specs.Conflicts.{do_conflict}
use Rattle.dependence_model.specs.declared.placed.Placed.{Placed}
use Rattle.dependence_model.specs.Dependence.{must_precede, processes_of}
use Rattle.dependence_model.specs.SerialOrder.{ordered}
use Rattle.audit_core.specs.Arrows.{AreBelow, AreFew, arrow_in}
use Rattle.audit_core.proofs.Precede.{if_ok}
use Rattle.audit_core.proofs.SameOrders.{ordered-same}
use Rattle.audit_core.proofs.ordering.order_of.Goals as goal

below-few : (xs : List Placed) → AreFew xs → AreBelow (processes_of xs)
below-few [] few = tt
below-few (x ∷ xs) few = (few.0, below-few xs few.1)

pub ordered-requires-clause-all : goal.ordered-requires-clause-all
ordered-requires-clause-all c = subst AreBelow (sym c.in_ok-all.ensures) (below-few c.args.left.now c.requires.few)

pub returns : goal.returns
returns c =
    let left = c.args.left.now in
    let arrow = must_precede (do_conflict c.args.c.now) left in
    if_ok _ _ c.ordered.result c.ordered.ensures
    (λ order is. is ∙ (ap (λ all. ordered (length left) (arrow_in c.in_ok-rows.rows) all) c.in_ok-all.ensures
    ∙ ordered-same (arrow_in c.in_ok-rows.rows) arrow (λ i j. c.in_ok-rows.ensures.at i j) (length left) (processes_of left)))
