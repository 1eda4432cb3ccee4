use Rattle.std.proofs.Common.{◌≡◌, ◌++◌, Some, None, List, refl, subst}
use Rattle.process_tree.specs.declared.play.Outcome.{Outcome}
use Rattle.process_tree.specs.Termination.{stuck_at, unreachable_at}
use Rattle.command_refusals.specs.Verdicts.{fault_text}
use Rattle.command_refusals.proofs.verdict.add_fault.Goals as goal

pub returns-in_ok-extend_from_slice-in-Good : goal.returns-in_ok-extend_from_slice-in-Good
returns-in_ok-extend_from_slice-in-Good c = (None, c.in-Good.ensures.told, c.in_ok-extend_from_slice-in-Good.ensures.items, refl)

pub returns-in_ok-add_stuck-in-Stuck : goal.returns-in_ok-add_stuck-in-Stuck
returns-in_ok-add_stuck-in-Stuck c = (
  Some (stuck_at c.in-Stuck.step c.in-Stuck.outcomes),
  c.in-Stuck.ensures.told,
  subst (λ (os : List Outcome). c.add_stuck.new.text.items ≡ c.args.text.now.items ++ fault_text c.args.tree.now (Some (stuck_at c.in-Stuck.step os))) c.as_slice.ensures c.in_ok-add_stuck-in-Stuck.ensures,
  refl,
)

pub returns-in_ok-add_unreachable-in-Unreachable : goal.returns-in_ok-add_unreachable-in-Unreachable
returns-in_ok-add_unreachable-in-Unreachable c =
    (Some (unreachable_at c.in-Unreachable.step), c.in-Unreachable.ensures.told, c.in_ok-add_unreachable-in-Unreachable.ensures, refl)
