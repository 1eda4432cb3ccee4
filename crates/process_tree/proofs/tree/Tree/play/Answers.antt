use Rattle.std.proofs.Common.{[], sym, subst}
use Rattle.process_tree.specs.Shape.{shape_of}
use Rattle.process_tree.specs.Stands.{IsNext}
use Rattle.process_tree.proofs.InTurn.{least_next}
use Rattle.process_tree.proofs.tree.Tree.play.Goals as goal

pub come_to-requires-clause-next : goal.come_to-requires-clause-next
come_to-requires-clause-next c =
    let t = shape_of c.args.self.now in
    let first = subst (IsNext t []) (sym c.first.ensures.place) (least_next t []) in
    subst (λ v. IsNext t v c.first.result) (sym c.new-done.ensures.items) first
