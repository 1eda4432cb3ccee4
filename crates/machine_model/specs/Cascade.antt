-- Cascades: who has to go back with a process that takes entries back.
use Rattle.std.specs.Prelude.{ℕ, Bool, ◌&&◌, List, [], ◌∷◌, ◌++◌, flat_map, nat_eq, if◌then◌else◌}
use Rattle.std.specs.List.{list_any}
use Rattle.process_tree.specs.declared.entry.Entry.{Entry}
use Rattle.schedule_model.specs.Conflict.{ConflictRelation, conflict}
use Rattle.schedule_model.specs.Graph.{IsLeast, reached}
use Rattle.schedule_model.specs.Holdings.{Holdings, holders, behind, running_steps}

-- the backward recovery of process k
abbrev pub backward_of : Holdings → ℕ → List Entry
backward_of g k = flat_map (λ o. if nat_eq o.process k then o.backward_entries else []) g.holds

-- what process j takes back: the root these entries, and another its whole backward recovery
abbrev pub takes_back_all : Holdings → ℕ → List Entry → ℕ → List Entry
takes_back_all g root entries j = if nat_eq j root then entries else backward_of g j

-- process k has built on one of these: an entry of it stands behind and conflicts, or its step that is under way does
abbrev pub builds_on : ConflictRelation → Holdings → List Entry → ℕ → Bool
builds_on table g entries k =
    list_any (λ x. list_any (λ y. nat_eq y.process k && conflict table x y) (behind x g.net ++ running_steps g)) entries

-- process j drags k along
abbrev pub drags : ConflictRelation → Holdings → ℕ → List Entry → ℕ → ℕ → Bool
drags table g root entries j k = builds_on table g (takes_back_all g root entries j) k

-- the cascade of a root that takes these entries back: the least set of active processes that has the root, and with each
-- process every one that it drags along
abbrev pub IsCascade : ConflictRelation → Holdings → ℕ → List Entry → List ℕ → Type 0
IsCascade table g root entries set = IsLeast (drags table g root entries) (holders g) (root ∷ []) set

-- the same, computed
abbrev pub cascade : ConflictRelation → Holdings → ℕ → List Entry → List ℕ
cascade table g root entries = reached (drags table g root entries) (holders g) (root ∷ [])
