use Rattle.std.proofs.Common.{◌≡◌, length}
use Rattle.std.specs.Prelude.{nat_lt, IsTrue}
use Rattle.std.specs.List.{list_all}
use Rattle.process_tree.specs.declared.plan.Plan.{Plan}
use Rattle.process_tree.specs.Order.{Each}
use Rattle.schedule_model.specs.Laws.{IsGoodPlan}
use Rattle.history_tests.proofs.undoable_until_owed.plans.Given as goal

abbrev pub invariant-loop-place : goal.invariant-loop-place
invariant-loop-place g l =
    (length l.plans.items ≡ l.place) × Each IsGoodPlan l.plans.items × Each (λ (p : Plan). IsTrue (list_all (λ a. nat_lt a 5) p.ops)) l.plans.items
