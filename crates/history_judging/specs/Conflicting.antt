-- Conflicts among entries that stand, by where they stand.
use Rattle.std.specs.Prelude.{◌≡◌, ◌<◌, ◌≤◌, ℕ, Bool, true, false, not, ◌&&◌, ◌||◌, List, [], ◌∷◌, filter, length, map, nat_eq}
use Rattle.std.specs.Prelude.{slice_index_or}
use Rattle.std.specs.List.{list_any}
use Rattle.process_tree.specs.declared.entry.Entry.{Entry}
use Rattle.process_tree.specs.declared.conflicts.Mode.{Mode}
use Rattle.process_tree.specs.declared.conflicts.Mode.TheVariants.{Never, Key, Always}
use Rattle.process_tree.specs.Conflicts.{Access}
use Rattle.schedule_model.specs.Conflict.{ConflictRelation, conflict}
use Rattle.schedule_model.specs.Graph.{Arrow, leads}

-- one of these conflicts with b
abbrev pub conflicts_with_any : ConflictRelation → Entry → List Entry → Bool
conflicts_with_any table b es = list_any (conflict table b) es

-- one of these conflicts with one of those
abbrev pub any_conflicts : ConflictRelation → List Entry → List Entry → Bool
any_conflicts table bs es = list_any (λ b. conflicts_with_any table b es) bs

-- of these entries, one and a later one are so
abbrev pub in_turn : (Entry → Entry → Bool) → List Entry → Bool
in_turn p [] = false
in_turn p (x ∷ es) = list_any (p x) es || in_turn p es

-- an entry of process i conflicts with one in front of it
abbrev pub conflicts_in_front : ConflictRelation → ℕ → List Entry → Bool
conflicts_in_front table i es = in_turn (λ x y. nat_eq y.process i && conflict table y x) es

-- an arrow leads from k to i: an entry of k conflicts with a later one of i
abbrev pub arrow_among : ConflictRelation → List Entry → Arrow
arrow_among table es k i = in_turn (λ x y. nat_eq x.process k && (nat_eq y.process i && conflict table x y)) es

-- a walk of such arrows leads from k to i
abbrev pub leads_among : ConflictRelation → List Entry → ℕ → ℕ → Bool
leads_among table es k i = leads (arrow_among table es) (map (λ e. e.process) es) k i

-- b conflicts with an entry of a process to which a walk leads from its own
abbrev pub closes_circle : ConflictRelation → List Entry → Entry → Bool
closes_circle table es b = list_any (λ x. conflict table b x && leads_among table es b.process x.process) es

-- one of these accesses conflicts with a
abbrev pub access_conflicts : ConflictRelation → List Access → Access → Bool
access_conflicts table accesses a = list_any (λ x. table x a) accesses

-- whether a pair of operations conflicts on all keys, or on none
abbrev pub is_always : Mode → Bool
is_always Never = false
is_always Key = false
is_always Always = true

abbrev pub is_never : Mode → Bool
is_never Never = true
is_never Key = false
is_never Always = false

-- these are the operations of these accesses
abbrev pub AreOperationsOf : List ℕ → List Access → Type 0
AreOperationsOf ops accesses = (p : ℕ → Bool) → list_any p ops ≡ list_any (λ a. p a.op) accesses

-- Sets of processes, by marks.

-- process k is marked
abbrev pub is_marked : List Bool → ℕ → Bool
is_marked marks k = slice_index_or marks k false

-- no arrow leads out of a set of processes
abbrev pub is_closed : ConflictRelation → (ℕ → Bool) → List Entry → Bool
is_closed table p es = not (in_turn (λ x y. p x.process && (not (p y.process) && conflict table x y)) es)

-- how many processes are not marked
abbrev pub unmarked : List Bool → ℕ
unmarked marks = length (filter not marks)

-- what one pass makes of the marks: they stay, and further ones are of processes to which arrows lead from marked ones; where
-- there is none, no arrow leads out of the set
pub record Spreads (table : ConflictRelation) (es : List Entry) (old new : List Bool) (grew : Bool) : Type 0 where
  pub stay : (k : ℕ) → is_marked old k ≡ true → is_marked new k ≡ true
  pub only : (p : ℕ → Bool) → ((k : ℕ) → is_marked old k ≡ true → p k ≡ true) → is_closed table p es ≡ true → (k : ℕ)
      → is_marked new k ≡ true → p k ≡ true
  pub still : grew ≡ false → is_closed table (is_marked new) es ≡ true
  pub fewer : unmarked new ≤ unmarked old
  pub more : grew ≡ true → unmarked new < unmarked old
