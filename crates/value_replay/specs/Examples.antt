-- Worked examples, computed.
use Rattle.std.specs.Prelude.{◌≡◌, ℕ, ℤ, pos, false, List, [], ◌∷◌, codes, refl}
use Rattle.process_tree.specs.declared.entry.Entry.{Entry}
use Rattle.process_tree.specs.declared.step.Step.{Step}
use Rattle.process_tree.specs.declared.step.StepKind.{StepKind}
use Rattle.process_tree.specs.declared.step.StepKind.TheVariants.{C, P, R}
use Rattle.process_tree.specs.declared.block.Tail.{End as no_choice}
use Rattle.process_tree.specs.declared.plan.Plan.{Plan}
use Rattle.commute_table.specs.declared.op.Op.{Op}
use Rattle.commute_table.specs.declared.op.Verb.TheVariants.{Add}
use Rattle.value_replay.specs.declared.line.Line.{Line}
use Rattle.value_replay.specs.Replays.{lines_behind}

abbrev op : List ℕ → ℕ → Op
op name subsystem = record { name = name; subsystem = subsystem; verb = Add }

abbrev ops : List Op
ops = op (codes "add") 0 ∷ op (codes "pay") 1 ∷ op (codes "ship") 2 ∷ []

abbrev step : StepKind → ℤ → Step
step kind amount = record {
  kind = kind;
  name = codes "x";
  op = codes "add";
  key = 1;
  amount = amount;
  tries = 3;
  undo_tries = 3;
  refuse = 0;
  undo_refuse = 0;
}

abbrev plan : ℤ → StepKind → ℤ → ℕ → Plan
plan amount kind last op = record {
  name = codes "a";
  tree = record { steps = step C amount ∷ step kind last ∷ []; tail = no_choice };
  ops = 0 ∷ op ∷ [];
}

-- two deliveries: the first pays 5, the second ships 1
abbrev plans : List Plan
plans = plan (pos 5) P (pos 5) 1 ∷ plan (pos 7) R (pos 1) 2 ∷ []

abbrev did : ℕ → ℕ → ℕ → Entry
did i b n = record { process = i; step = b; op = n; key = 1; undo = false }

abbrev told : Entry → ℤ → Line
told e before = record { entry = e; before = before }

-- the second is done first, and the first then finds its 7
second_first : lines_behind ops plans [] (did 2 0 0 ∷ did 2 1 2 ∷ did 1 0 0 ∷ did 1 1 1 ∷ [])
    ≡ told (did 2 0 0) (pos 0) ∷ told (did 2 1 2) (pos 0) ∷ told (did 1 0 0) (pos 7) ∷ told (did 1 1 1) (pos 0) ∷ []
second_first = refl

-- in the order in which they took effect it was the other way round
as_it_was : lines_behind ops plans [] (did 1 0 0 ∷ did 2 0 0 ∷ did 2 1 2 ∷ did 1 1 1 ∷ [])
    ≡ told (did 1 0 0) (pos 0) ∷ told (did 2 0 0) (pos 5) ∷ told (did 2 1 2) (pos 0) ∷ told (did 1 1 1) (pos 0) ∷ []
as_it_was = refl
