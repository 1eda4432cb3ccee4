-- What every call asks of a history, of the purchase and the sale of the worked examples: their plans.
use Rattle.std.specs.Prelude.{ℕ, List, [], ◌∷◌, codes, pos}
use Rattle.process_tree.specs.declared.step.Step.{Step}
use Rattle.process_tree.specs.declared.step.StepKind.{StepKind}
use Rattle.process_tree.specs.declared.step.StepKind.TheVariants.{C, P}
use Rattle.process_tree.specs.declared.block.Block.{Block}
use Rattle.process_tree.specs.declared.block.Tail.{End}
use Rattle.process_tree.specs.declared.plan.Plan.{Plan}
use Rattle.schedule_model.specs.Samples.{add, take, pay}
use Rattle.schedule_model.specs.Examples.{paid_in_time}
use Rattle.schedule_model.specs.Laws.{IsPlanned}

-- a step without a choice of options
abbrev pub plain_step : StepKind → List ℕ → List ℕ → Step
plain_step kind name op = record {
  kind = kind;
  name = name;
  op = op;
  key = 1;
  amount = pos 5;
  tries = 3;
  undo_tries = 3;
  refuse = 0;
  undo_refuse = 0;
}

-- a compensatable step and a pivot
abbrev pub two_steps : Step → Step → Block
two_steps first second = record { steps = first ∷ second ∷ []; tail = End }

abbrev pub purchase_plan : Plan
purchase_plan = record {
  name = codes "purchase";
  tree = two_steps (plain_step C (codes "fetch") (codes "add")) (plain_step P (codes "settle") (codes "pay"));
  ops = add ∷ pay ∷ [];
}

abbrev pub sale_plan : Plan
sale_plan = record {
  name = codes "sale";
  tree = two_steps (plain_step C (codes "deliver") (codes "take")) (plain_step P (codes "settle") (codes "pay"));
  ops = take ∷ pay ∷ [];
}

-- Over a table of five operations, the purchase and the sale that were paid in time have all that a call asks.
abbrev pub ShopIsPlanned : Type 0
ShopIsPlanned = IsPlanned 5 (purchase_plan ∷ sale_plan ∷ []) paid_in_time
