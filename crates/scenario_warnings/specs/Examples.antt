-- Worked examples, computed.
use Rattle.std.specs.Prelude.{◌≡◌, ℕ, ℤ, pos, negsuc, List, [], ◌∷◌, codes, refl}
use Rattle.std.specs.Fmt.{digits}
use Rattle.process_tree.specs.declared.conflicts.Mode.TheVariants.{Key}
use Rattle.process_tree.specs.Conflicts.{Table, no_conflicts, with_mode}
use Rattle.process_tree.specs.declared.step.Step.{Step}
use Rattle.process_tree.specs.declared.step.StepKind.TheVariants.{C}
use Rattle.process_tree.specs.declared.block.Tail.{End as no_choice}
use Rattle.process_tree.specs.declared.plan.Plan.{Plan}
use Rattle.commute_table.specs.declared.op.Op.{Op}
use Rattle.commute_table.specs.declared.op.Verb.{Verb}
use Rattle.commute_table.specs.declared.op.Verb.TheVariants.{Add, Take, Hold}
use Rattle.commute_table.specs.declared.catalog.Catalog.{Catalog}
use Rattle.scenario_warnings.specs.declared.warning.Warning.TheVariants.{Unused, Commuting, SameProcess, HoldOfNothing, NegativeTake}
use Rattle.scenario_warnings.specs.Warnings.{warnings}
use Rattle.scenario_warnings.specs.Lines.{more}

abbrev op : List ℕ → ℕ → Verb → Op
op name subsystem verb = record { name = name; subsystem = subsystem; verb = verb }

-- a stock that is filled and sold from, and seats
abbrev ops : List Op
ops = op (codes "fill") 0 Add ∷ op (codes "sell") 0 Take ∷ op (codes "seat") 6 Hold ∷ []

abbrev catalog : Table → Catalog
catalog table = record { version = 2; ops = ops; conflicts = table }

-- each conflict in value is named
abbrev named : Catalog
named = catalog (with_mode (with_mode (no_conflicts 3) 0 1 Key) 2 2 Key)

-- a process of one step
abbrev plan : List ℕ → ℕ → ℤ → Plan
plan name o amount =
    let s : Step =
    record {
      kind = C;
      name = codes "x";
      op = codes "op";
      key = 1;
      amount = amount;
      tries = 3;
      undo_tries = 3;
      refuse = 0;
      undo_refuse = 0;
    } in
    record { name = name; tree = record { steps = s ∷ []; tail = no_choice }; ops = o ∷ [] }

abbrev a : List ℕ
a = codes "a"

abbrev b : List ℕ
b = codes "b"

-- nothing to warn of
pub nothing : warnings named (plan a 0 (pos 5) ∷ plan b 1 (pos 5) ∷ plan (codes "c") 2 (pos 7) ∷ []) ≡ []
nothing = refl

-- a scenario without processes
pub no_processes : warnings named [] ≡ []
no_processes = refl

-- selling in another order than filling may be barred, and two holds of one seat are never alike
pub conflicts_left_out : warnings (catalog (no_conflicts 3)) (plan a 0 (pos 5) ∷ plan b 1 (pos 5) ∷ plan (codes "c") 2 (pos 7) ∷ [])
    ≡ Commuting 0 1 ∷ Commuting 2 2 ∷ []
conflicts_left_out = refl

-- a take of -5 adds 5, and a hold of 0 holds nothing; a take of 0 and an add of -5 are what they say
pub odd_amounts : warnings named (plan a 0 (negsuc 4) ∷ plan b 1 (negsuc 4) ∷ plan (codes "c") 2 (pos 0) ∷ plan (codes "d") 1 (pos 0) ∷ [])
    ≡ NegativeTake 1 0 ∷ HoldOfNothing 2 0 ∷ []
odd_amounts = refl

-- a name that stands twice; and operations come before processes
pub same_names : warnings named (plan a 0 (pos 5) ∷ plan a 1 (pos 5) ∷ []) ≡ Unused 2 ∷ SameProcess 1 ∷ []
same_names = refl

pub three_more : more 3 ≡ codes "warning: 3 more\n"
unfolding digits
three_more = refl
