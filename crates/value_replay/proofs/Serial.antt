-- The printed serial list of a history in which all have ended.
use Rattle.std.proofs.Common.{◌≡◌, ℕ, false, List, [], ◌++◌, ap, ◌∙◌, append-nil}
use Rattle.std.specs.List.{Contains, flat_map}
use Rattle.process_tree.specs.declared.entry.Entry.{Entry}
use Rattle.schedule_model.specs.declared.event.Event.{Event}
use Rattle.schedule_model.specs.Completion.{completed}
use Rattle.schedule_model.specs.Conflict.{no_conflict}
use Rattle.schedule_model.specs.Course.{Course}
use Rattle.schedule_model.specs.Histories.{active, net_of}
use Rattle.schedule_model.proofs.Active.{completion-none}
use Rattle.schedule_model.proofs.CancelPhase.{net-steps_only}
use Rattle.schedule_model.proofs.Members.{among-flat_map, among-from_contains}
use Rattle.schedule_model.proofs.Started.{among_net_of}

-- the nets of processes have no undo
pub nets-are_steps : (courses : List Course) (h : List Event) (order : List ℕ) (e : Entry) → Contains (flat_map (net_of h) order) e → e.undo ≡ false
nets-are_steps courses h order e is =
    let found = among-flat_map (net_of h) e order (among-from_contains e (flat_map (net_of h) order) is) in
    net-steps_only no_conflict courses h e (among_net_of h found.0 e found.2).0

-- a history in which nobody is active is completed
pub completed-already : (courses : List Course) (h : List Event) → active h ≡ [] → completed courses h ≡ h
completed-already courses h none = ap (λ more. h ++ more) (completion-none courses h none) ∙ append-nil h
