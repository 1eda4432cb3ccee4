-- Worked examples, computed: two processes of two steps each, and what the tables hold of them.
use Rattle.std.specs.Prelude.{◌≡◌, ℕ, true, false, [], ◌∷◌, codes, refl, Some}
use Rattle.process_tree.specs.declared.plan.Plan.{Plan}
use Rattle.process_tree.specs.declared.step.StepKind.{StepKind}
use Rattle.process_tree.specs.declared.step.StepKind.TheVariants.{C, P, R}
use Rattle.process_tree.specs.Conflicts.{no_conflicts, with_mode}
use Rattle.process_tree.specs.declared.conflicts.Mode.{Mode}
use Rattle.process_tree.specs.declared.conflicts.Mode.TheVariants.{Key, Always}
use Rattle.schedule_model.specs.PlannedExample.{plain_step, purchase_plan, sale_plan, two_steps}
use Rattle.schedule_model.specs.Samples.{add, note, pay, take}
use Rattle.machine_model.specs.declared.blocked.Admitted.{Admitted}
use Rattle.machine_model.specs.declared.blocked.Admitted.TheVariants.{Free, Blocked as BlockedBy}
use Rattle.machine_model.specs.declared.blocked.Rule.{Rule}
use Rattle.machine_model.specs.declared.blocked.Rule.TheVariants.{A0, A1, A2, A3, A4, A5}
use Rattle.machine_model.specs.declared.replies.Todo.TheVariants.{Forward, Undo, End}
use Rattle.hold_tables.specs.Changes.{changed, none_open, opened, run, took_effect, with_reserved}
use Rattle.hold_tables.specs.Tables.{Tables}
use Rattle.admission.specs.Admission.{admission, victim}

-- a process of two steps of these kinds and operations
abbrev pub plan_of : StepKind → ℕ → StepKind → ℕ → Plan
plan_of first op second other = record {
  name = codes "process";
  tree = two_steps (plain_step first (codes "first") (codes "op")) (plain_step second (codes "second") (codes "op"));
  ops = op ∷ other ∷ [];
}

-- adding conflicts with taking in this mode, and a note with a note
abbrev pub open_in : Mode → Tables
open_in mode = opened 2 2 (opened 1 2 (none_open (with_mode (with_mode (no_conflicts 5) add take mode) note note mode)))

-- whatever the keys are
abbrev pub both_open : Tables
both_open = open_in Always

-- a step of a process is under way, on this key
abbrev pub under_way_on : ℕ → ℕ → ℕ → ℕ → Tables → Tables
under_way_on key i step op t = run (record { process = i; step = step; op = op; key = key; undo = false }) t

-- on the key of the plans here
abbrev pub under_way : ℕ → ℕ → ℕ → Tables → Tables
under_way = under_way_on 1

-- its first step is done
abbrev pub first_done : ℕ → ℕ → Tables → Tables
first_done i op t = took_effect i (under_way i 0 op t)

abbrev pub blocked : ℕ → ℕ → ℕ → Rule → Admitted
blocked on other own rule = BlockedBy (record { on = on; other = other; own = own; rule = rule })

-- the purchase has added, and the sale has taken
abbrev pub shop : Tables
shop = first_done 2 take (first_done 1 add both_open)

-- the purchase pays; the sale can't pay before it, nor end, and the adding can't be undone under the sale
pub paid_in_time : admission shop purchase_plan 1 (Forward 1) ≡ Free
paid_in_time = refl

pub paid_too_early : admission shop sale_plan 2 (Forward 1) ≡ blocked 1 0 0 A3
paid_too_early = refl

pub ended_too_early : admission shop sale_plan 2 End ≡ blocked 1 0 0 A3
ended_too_early = refl

pub undone_too_early : admission shop purchase_plan 1 (Undo 0) ≡ blocked 2 0 0 A5
undone_too_early = refl

-- while something is being added, nothing is taken
pub taken_while_added : admission (under_way 1 0 add both_open) sale_plan 2 (Forward 0) ≡ blocked 1 0 0 A0
taken_while_added = refl

-- whatever is being added, unless they conflict by key: then what is added on another key lets it be taken
pub taken_while_another_is_added : admission (under_way_on 2 1 0 add both_open) sale_plan 2 (Forward 0) ≡ blocked 1 0 0 A0
taken_while_another_is_added = refl

pub taken_on_one_key : admission (under_way_on 1 1 0 add (open_in Key)) sale_plan 2 (Forward 0) ≡ blocked 1 0 0 A0
taken_on_one_key = refl

pub taken_on_another_key : admission (under_way_on 2 1 0 add (open_in Key)) sale_plan 2 (Forward 0) ≡ Free
taken_on_another_key = refl

-- a payment that will owe a taking is under way, and nothing is added
pub added_before_owed : admission (changed (with_reserved ((1, take, 1) ∷ [])) 1 (under_way 1 0 pay both_open))
    (plan_of C add C pay) 2 (Forward 0) ≡ blocked 1 1 0 A1
added_before_owed = refl

-- such a payment isn't begun while what was added may be taken back
pub owed_after_added : admission (first_done 2 add both_open) (plan_of P pay R take) 1 (Forward 0) ≡ blocked 2 0 1 A4
owed_after_added = refl

-- the taking that is owed then isn't held back by its class
pub owed_goes_on : admission (changed (with_reserved ((1, take, 1) ∷ [])) 1 (first_done 1 pay both_open)) (plan_of P pay R take) 1
    (Forward 1) ≡ Free
owed_goes_on = refl

-- one has added, and would end with a note; the other began with a note, and is taking
abbrev pub tied : Tables
tied = under_way 2 1 take (first_done 2 note (first_done 1 add both_open))

-- a note that can be undone would close a circle; one for good would rest on what may be taken back
pub circle : admission tied (plan_of C add C note) 1 (Forward 1) ≡ blocked 2 0 1 A2
circle = refl

pub noted_for_good : admission tied (plan_of C add P note) 1 (Forward 1) ≡ blocked 2 0 1 A3
noted_for_good = refl

-- of the blocked processes 4, 7 and 9, the last has begun to complete
pub victim_of_three : victim ((4, true) ∷ (7, true) ∷ (9, false) ∷ []) ≡ Some 7
victim_of_three = refl
