-- The verdict on a text.
use Rattle.std.specs.Prelude.{ℕ, ◌+◌, List, [], ◌∷◌, Bool, true, false, ◌&&◌, not, nat_eq, if◌then◌else◌, Option, Some, None}
use Rattle.process_tree.specs.declared.entry.Entry.{Entry}
use Rattle.schedule_model.specs.declared.trace_step.TraceStep.{TraceStep}
use Rattle.schedule_model.specs.Conflict.{ConflictRelation}
use Rattle.schedule_model.specs.Reduction.{applied, not_serial}
use Rattle.trace_verify.specs.declared.verdict.Verified.{Verified}
use Rattle.trace_verify.specs.declared.verdict.Verified.TheVariants.{Accepted, BadText, StepRefused, NotSerial, SerialDiffers}
use Rattle.trace_verify.specs.Forms.{NamedAct}
use Rattle.trace_verify.specs.Reports.{Report, Reading, whole, bad_line, reading}
use Rattle.trace_verify.specs.Names.{step_names, op_names, is_named, schedule, conflicts_of}

-- what comes of a list by steps: the last list, or the number of the first step that doesn't apply to what the steps before it
-- leave
pub data Outcome : Type 0 where
  last_list : List Entry → Outcome
  refused : ℕ → Outcome

-- step n doesn't apply, or the others go on
abbrev pub goes_on : ℕ → (List Entry → Outcome) → Option (List Entry) → Outcome
goes_on n on None = refused n
goes_on n on (Some list) = on list

-- what comes of a list by these steps, of which the first has number n
abbrev pub outcome_from : ConflictRelation → ℕ → List TraceStep → List Entry → Outcome
outcome_from table n [] list = last_list list
outcome_from table n (s ∷ steps) list = goes_on n (outcome_from table (n + 1) steps) (applied table s list)

-- what comes of the schedule of a report by its steps
abbrev pub outcome : Report → Outcome
outcome r = outcome_from (conflicts_of r) 1 r.steps (schedule r.acts)

-- both are undos, or neither is
abbrev pub same_way : Bool → Bool → Bool
same_way true b = b
same_way false b = not b

-- the entry is printed so: by its process, its step's name, its operation's name and its key
abbrev pub is_printed : List (List ℕ) → List (List ℕ) → Entry → NamedAct → Bool
is_printed steps ops e a =
    nat_eq e.process a.process && is_named steps e.step a.step && is_named ops e.op a.op && nat_eq e.key a.key
    && same_way e.undo a.undo

-- the first place at which a list isn't printed so, the first having place n; where one ends early, that is the place behind its
-- end
abbrev pub differs_from : List (List ℕ) → List (List ℕ) → ℕ → List Entry → List NamedAct → Option ℕ
differs_from steps ops n [] [] = None
differs_from steps ops n [] (a ∷ acts) = Some n
differs_from steps ops n (e ∷ es) [] = Some n
differs_from steps ops n (e ∷ es) (a ∷ acts) = if is_printed steps ops e a then differs_from steps ops (n + 1) es acts else Some n

-- where the last list differs from the printed one
abbrev pub difference : Report → List Entry → Option ℕ
difference r list = differs_from (step_names r.acts) (op_names r.acts) 1 list r.serial

-- what is said of the last list, by where it differs from the printed one
abbrev pub compared : Option ℕ → Verified
compared None = Accepted
compared (Some n) = SerialDiffers n

-- and first by where it isn't serial
abbrev pub of_last : Option ℕ → Option ℕ → Verified
of_last (Some n) differs = NotSerial n
of_last None differs = compared differs

-- and first by the step that doesn't apply
abbrev pub of_outcome : Report → Outcome → Verified
of_outcome r (refused k) = StepRefused k
of_outcome r (last_list list) = of_last (not_serial list) (difference r list)

-- and first by the line that isn't what its place wants
abbrev pub of_reading : Reading → Verified
of_reading (whole r) = of_outcome r (outcome r)
of_reading (bad_line n) = BadText n

-- the verdict on a text
abbrev pub verdict : List ℕ → Verified
verdict text = of_reading (reading text)
