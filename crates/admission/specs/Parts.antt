-- Parts: what stands against a step, process by process and place by place.
use Rattle.std.specs.Prelude.{ℕ, ◌+◌, List, [], ◌∷◌, ◌++◌, nat_eq, if◌then◌else◌, Option, Some, None}
use Rattle.process_tree.specs.declared.entry.Entry.{Entry}
use Rattle.process_tree.specs.declared.plan.Plan.{Plan}
use Rattle.process_tree.specs.declared.play.Place.{Place}
use Rattle.process_tree.specs.declared.play.Place.TheVariants.{Step, End}
use Rattle.process_tree.specs.Conflicts.{do_conflict}
use Rattle.process_tree.specs.Entries.{entry_of}
use Rattle.schedule_model.specs.Conflict.{ConflictRelation}
use Rattle.schedule_model.specs.Histories.{of_process}
use Rattle.schedule_model.specs.Holdings.{reaches}
use Rattle.machine_model.specs.declared.blocked.Blocked.{Blocked}
use Rattle.machine_model.specs.declared.blocked.Rule.TheVariants.{A0, A1, A2, A3, A4}
use Rattle.hold_tables.specs.Tables.{OpenProcess, Tables, holdings_of, lasts, reserved_of, running_of}
use Rattle.admission.specs.declared.processes.Sought.{Sought}
use Rattle.admission.specs.declared.processes.Sought.TheVariants.{Next, Owed}
use Rattle.admission.specs.Admission.{is_of_step, steps_owed_after}
use Rattle.admission.specs.Least.{least_on, least_over, least_with, lesser_of}

-- the entries that a process has to undo
abbrev pub pending_of : List Entry → OpenProcess → List Entry
pending_of net r = lasts r.pending (of_process r.process net)

-- what one process has against an entry: against the next step what is under way, reserved or to be undone; against a step that
-- would be owed what is under way or reserved
abbrev pub least_of_process : Tables → Sought → Entry → OpenProcess → Option Blocked
least_of_process t Next b r =
    let table = do_conflict t.conflicts in
    lesser_of (least_on table A0 b (running_of r))
    (lesser_of (least_on table A1 b (reserved_of r)) (least_on table A1 b (pending_of t.net r)))
least_of_process t Owed s r =
    let table = do_conflict t.conflicts in lesser_of (least_on table A4 s (running_of r)) (least_on table A4 s (reserved_of r))

-- what all of them have
abbrev pub least_of_all : Tables → Sought → Entry → Option Blocked
least_of_all t sought e = least_over (least_of_process t sought e) t.processes

-- an entry of process i against what stands in front of it
abbrev pub least_front : ConflictRelation → ℕ → List Entry → Entry → Option Blocked
least_front table i front y = if nat_eq y.process i then least_on table A3 y front else None

-- each of these against what stands in front of it
abbrev pub least_fronts : ConflictRelation → ℕ → List Entry → List Entry → Option Blocked
least_fronts table i front [] = None
least_fronts table i front (y ∷ es) = lesser_of (least_front table i front y) (least_fronts table i (front ++ y ∷ []) es)

-- what is against one step that would be owed
abbrev pub least_against_owed : Tables → Entry → Option Blocked
least_against_owed t s = lesser_of (least_on (do_conflict t.conflicts) A4 s t.net) (least_of_all t Owed s)

-- the step at a place, and those that follow it through last alternatives
abbrev pub steps_from : Plan → Place → List ℕ
steps_from plan End = []
steps_from plan (Step d) = d ∷ steps_owed_after plan d

-- what is against any of these steps of process i
abbrev pub least_against_steps : Tables → Plan → ℕ → List ℕ → Option Blocked
least_against_steps t plan i steps = least_over (λ s. least_against_owed t (entry_of plan i s)) steps

-- the least of an entry that a walk of the conflict graph leads to, where it conflicts with b, and of another block
abbrev pub with_circle : Tables → Entry → Entry → Option Blocked → Option Blocked
with_circle t b e least = let table = do_conflict t.conflicts in
    if reaches table (holdings_of t) b.process e.process then least_with table A2 b e least else least

-- so many further on
abbrev pub further : ℕ → Option ℕ → Option ℕ
further n None = None
further n (Some place) = Some (n + place)

-- where the first entry of step b of process i stands, counted from 0
abbrev pub place_of_step : ℕ → ℕ → List Entry → Option ℕ
place_of_step i b [] = None
place_of_step i b (e ∷ es) = if is_of_step i b e then Some 0 else further 1 (place_of_step i b es)
