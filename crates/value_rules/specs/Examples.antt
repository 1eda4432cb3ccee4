-- Worked examples, computed.
use Rattle.std.specs.Prelude.{◌≡◌, ℕ, ℤ, pos, negsuc, true, false, List, [], ◌∷◌, codes, refl}
use Rattle.process_tree.specs.declared.entry.Entry.{Entry}
use Rattle.process_tree.specs.declared.step.Step.{Step}
use Rattle.process_tree.specs.declared.step.StepKind.{StepKind}
use Rattle.process_tree.specs.declared.step.StepKind.TheVariants.{C, P, R}
use Rattle.process_tree.specs.declared.block.Tail.{End as no_choice}
use Rattle.process_tree.specs.declared.plan.Plan.{Plan}
use Rattle.schedule_model.specs.PrintedTrace.{trace_of}
use Rattle.commute_table.specs.declared.op.Op.{Op}
use Rattle.commute_table.specs.declared.op.Verb.{Verb}
use Rattle.commute_table.specs.declared.op.Verb.TheVariants.{Add, Take, Put}
use Rattle.value_rules.specs.HistoryValues.{is_barred_in, value_after, value_found}

abbrev op : List ℕ → ℕ → Verb → Op
op name subsystem verb = record { name = name; subsystem = subsystem; verb = verb }

abbrev ops : List Op
ops = op (codes "add") 0 Add ∷ op (codes "take") 0 Take ∷ op (codes "pay") 1 Add ∷ op (codes "ship") 2 Add ∷ op (codes "note") 4 Put ∷ []

abbrev step : StepKind → ℤ → Step
step kind amount = record {
  kind = kind;
  name = codes "x";
  op = codes "add";
  key = 1;
  amount = amount;
  tries = 3;
  undo_tries = 3;
  refuse = 0;
  undo_refuse = 0;
}

abbrev plan : ℤ → StepKind → ℕ → Plan
plan amount kind last = record {
  name = codes "a";
  tree = record { steps = step C amount ∷ step kind (pos 1) ∷ []; tail = no_choice };
  ops = 0 ∷ last ∷ [];
}

-- two deliveries: the first pays, the second ships
abbrev plans : List Plan
plans = plan (pos 5) P 2 ∷ plan (pos 7) R 3 ∷ []

abbrev did : ℕ → ℕ → ℕ → Entry
did i b n = record { process = i; step = b; op = n; key = 1; undo = false }

-- both add, the second ships, then the first pays
abbrev delivered : List Entry
delivered = did 1 0 0 ∷ did 2 0 0 ∷ did 2 1 3 ∷ did 1 1 2 ∷ []

-- the second ends first, so it comes first in the serial list
abbrev one_at_a_time : List Entry
one_at_a_time = did 2 0 0 ∷ did 2 1 3 ∷ did 1 0 0 ∷ did 1 1 2 ∷ []

serial : (trace_of (2 ∷ 1 ∷ []) delivered).list ≡ one_at_a_time
serial = refl

-- which leaves the same stock
one_way : value_after ops plans delivered 0 1 ≡ pos 12
one_way = refl

other_way : value_after ops plans one_at_a_time 0 1 ≡ pos 12
other_way = refl

-- an add finds 0 in the one, and 7 in the other
found_one : value_found ops plans delivered (did 1 0 0) ≡ pos 0
found_one = refl

found_other : value_found ops plans one_at_a_time (did 1 0 0) ≡ pos 7
found_other = refl

-- a take of a negative amount behind one of nothing isn't barred; in front of it, it bars that one: so the law speaks of no such takes
abbrev taking : List Plan
taking = plan (pos 5) P 2 ∷ plan (negsuc 4) P 2 ∷ []

abbrev took : ℕ → Entry
took i = record { process = i; step = 0; op = 1; key = 1; undo = false }

barred_in_front : is_barred_in ops taking (took 1 ∷ took 2 ∷ []) (took 1) ≡ true
barred_in_front = refl

free_behind : is_barred_in ops taking (took 2 ∷ took 1 ∷ []) (took 1) ≡ false
free_behind = refl
