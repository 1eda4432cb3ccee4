-- What stands against a piece of work, by the rules A0 to A5.
use Rattle.std.specs.Prelude.{ℕ, List, [], ◌∷◌, ◌++◌, filter, map, flat_map, nat_eq, if◌then◌else◌}
use Rattle.process_tree.specs.declared.entry.Entry.{Entry}
use Rattle.process_tree.specs.Recovery.{StepClass, reserved, committing, undoable}
use Rattle.schedule_model.specs.Conflict.{ConflictRelation, conflict}
use Rattle.schedule_model.specs.Holdings.{Holdings, active_net, all_running, all_reserved, all_pending, behind, reaches}

-- an entry of one's own, and an entry of another process that it conflicts with
pub record Clash : Type 0 where
  pub own : Entry
  pub other : Entry

-- an entry of one's own against these
abbrev pub against : ConflictRelation → Entry → List Entry → List Clash
against table own others = map (λ x. record { own = own; other = x }) (filter (conflict table own) others)

-- what stands against a piece, by rule
pub record Clashes : Type 0 where
  -- the step conflicts with one that is under way
  pub a0 : List Clash
  -- the step conflicts with one that another process has reserved, or has to undo
  pub a1 : List Clash
  -- the step could be undone, and would close a circle: it conflicts with what stands of a process to which a walk leads
  pub a2 : List Clash
  -- the piece would fix what its process has done, and what stands of an active process is in the way
  pub a3 : List Clash
  -- the step would reserve others, and what another process holds conflicts with one of them
  pub a4 : List Clash
  -- what is to be undone conflicts with a later entry of another process
  pub a5 : List Clash

-- what stands of active processes before an entry of process i, against that entry
abbrev pub in_front : ConflictRelation → Holdings → ℕ → List Clash
in_front table g i =
    let es = active_net g in
    flat_map (λ x. flat_map (λ y. if nat_eq y.process i then against table y (x ∷ []) else []) (behind x es)) es

-- A0: what is under way elsewhere and conflicts with b
abbrev pub with_running : ConflictRelation → Holdings → Entry → List Clash
with_running table g b = against table b (all_running g)

-- A1: what another process has reserved, or has to undo, and conflicts with b
abbrev pub with_reserved : ConflictRelation → Holdings → Entry → List Clash
with_reserved table g b = against table b (all_reserved g ++ all_pending g)

-- A2: what conflicts with b and stands of an active process to which a walk leads from that of b
abbrev pub in_a_circle : ConflictRelation → Holdings → Entry → List Clash
in_a_circle table g b = filter (λ c. reaches table g b.process c.other.process) (against table b (active_net g))

-- A3, of a step: what stands of an active process and conflicts with b, or stands in front of an entry of its process and
-- conflicts with that
abbrev pub with_active : ConflictRelation → Holdings → Entry → List Clash
with_active table g b = against table b (active_net g) ++ in_front table g b.process

-- A4: what stands, is under way or is reserved elsewhere and conflicts with one of the steps that would be owed
abbrev pub with_owed : ConflictRelation → Holdings → List Entry → List Clash
with_owed table g owed = flat_map (λ s. against table s (active_net g ++ all_running g ++ all_reserved g)) owed

-- A5: what stands behind x and conflicts with it
abbrev pub with_later : ConflictRelation → Holdings → Entry → List Clash
with_later table g x = against table x (behind x g.net)

-- against a step b of this class, after which its process would owe these
abbrev pub against_step : ConflictRelation → Holdings → StepClass → Entry → List Entry → Clashes
against_step table g reserved b owed =
    record { a0 = with_running table g b; a1 = with_reserved table g b; a2 = []; a3 = []; a4 = []; a5 = [] }
against_step table g undoable b owed =
    record { a0 = with_running table g b; a1 = with_reserved table g b; a2 = in_a_circle table g b; a3 = []; a4 = []; a5 = [] }
against_step table g committing b owed = record {
  a0 = with_running table g b;
  a1 = with_reserved table g b;
  a2 = [];
  a3 = with_active table g b;
  a4 = with_owed table g owed;
  a5 = [];
}

-- against the undo of x
abbrev pub against_undo : ConflictRelation → Holdings → Entry → Clashes
against_undo table g x = record { a0 = []; a1 = []; a2 = []; a3 = []; a4 = []; a5 = with_later table g x }

-- against the end of process i
abbrev pub against_end : ConflictRelation → Holdings → ℕ → Clashes
against_end table g i = record { a0 = []; a1 = []; a2 = []; a3 = in_front table g i; a4 = []; a5 = [] }

-- all of them
abbrev pub all_clashes : Clashes → List Clash
all_clashes c = c.a0 ++ c.a1 ++ c.a2 ++ c.a3 ++ c.a4 ++ c.a5
