use Rattle.std.proofs.Common.{rules, ◌≡◌, None, ap, ◌∙◌}
use Rattle.process_tree.specs.Form.{form_of}
use Rattle.process_tree.specs.Making.{tree_fault}
use Rattle.process_tree.proofs.Forms.{same_fault}
use Rattle.process_tree.proofs.plan.copy_tree.Goals as goal

pub unreachable-requires : goal.unreachable-requires
unreachable-requires c =
    let none : tree_fault c.in_ok-root.root ≡ None = same_fault c.in_ok-root.root c.args.tree.now (c.in_ok-root.ensures ∙ ap form_of c.root.ensures.root) c.root.ensures.good in
    search rules
