-- Holdings: what the active processes hold against each other, and the conflict graph.
use Rattle.std.specs.Prelude.{ℕ, Bool, not, ◌&&◌, List, [], ◌∷◌, ◌++◌, filter, map, flat_map, nat_eq, if◌then◌else◌, Option, None}
use Rattle.std.specs.List.{list_any}
use Rattle.std.specs.Option.{option_to_list}
use Rattle.process_tree.specs.declared.entry.Entry.{Entry}
use Rattle.schedule_model.specs.declared.event.Event.{Event}
use Rattle.schedule_model.specs.Course.{Course}
use Rattle.schedule_model.specs.Conflict.{ConflictRelation, conflict}
use Rattle.schedule_model.specs.Histories.{active, is_in, net, same_step}
use Rattle.schedule_model.specs.Recovery.{backward_entries, owed}
use Rattle.schedule_model.specs.Graph.{leads}

-- what one active process holds
pub record Hold : Type 0 where
  pub process : ℕ
  -- the step or undo that is under way
  pub running : Option Entry
  -- the steps that it owes, or will owe once the running one took effect
  pub reserved : List Entry
  -- the entries that it has to undo, in joint order
  pub pending : List Entry
  -- its backward recovery: the entries that can still be undone, in joint order
  pub backward_entries : List Entry

-- the net in joint order, and what each active process holds, by number
pub record Holdings : Type 0 where
  pub net : List Entry
  pub holds : List Hold

-- the active processes
abbrev pub holders : Holdings → List ℕ
holders g = map (λ o. o.process) g.holds

-- the net entries of the active processes, in joint order
abbrev pub active_net : Holdings → List Entry
active_net g = filter (λ e. is_in e.process (holders g)) g.net

-- all entries that are under way
abbrev pub all_running : Holdings → List Entry
all_running g = flat_map (λ o. option_to_list o.running) g.holds

-- the steps that are under way, without the undos
abbrev pub running_steps : Holdings → List Entry
running_steps g = filter (λ e. not e.undo) (all_running g)

-- all steps that are reserved
abbrev pub all_reserved : Holdings → List Entry
all_reserved g = flat_map (λ o. o.reserved) g.holds

-- all entries that are to be undone
abbrev pub all_pending : Holdings → List Entry
all_pending g = flat_map (λ o. o.pending) g.holds

-- the entries that stand after that of this step
abbrev pub behind : Entry → List Entry → List Entry
behind x [] = []
behind x (e ∷ es) = if same_step x e then es else behind x es

-- the conflict graph: an arrow leads from k to i where a net entry of k conflicts with a later one of i, or with the step of
-- i that is under way
abbrev pub arrow : ConflictRelation → Holdings → ℕ → ℕ → Bool
arrow table g k i =
    let es = active_net g in
    list_any (λ x. nat_eq x.process k
    && list_any (λ y. nat_eq y.process i && conflict table x y) (behind x es ++ running_steps g)) es

-- a walk of one or more arrows leads from k to i
abbrev pub reaches : ConflictRelation → Holdings → ℕ → ℕ → Bool
reaches table g k i = leads (arrow table g) (holders g) k i

-- what process i holds while nothing is under way and nothing pending
abbrev pub hold_at_rest : List Course → List Event → ℕ → Hold
hold_at_rest courses h i =
    record {
      process = i;
      running = None;
      reserved = owed courses h i;
      pending = [];
      backward_entries = backward_entries courses h i;
    }

-- what all active processes hold then
abbrev pub at_rest : List Course → List Event → Holdings
at_rest courses h = record { net = net h; holds = map (hold_at_rest courses h) (active h) }

-- the same without the entries of those that have ended
abbrev pub of_active : Holdings → Holdings
of_active g = record { net = active_net g; holds = g.holds }
