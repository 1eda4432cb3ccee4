-- Dependence: which steps of a list can be taken away with their undos, and what is left.
use Rattle.std.specs.Prelude.{◌≡◌, ℕ, zero, suc, ◌+◌, Bool, false, not, ◌&&◌, ◌||◌, List, [], ◌∷◌, ◌++◌, length, map, nat_eq, if◌then◌else◌}
use Rattle.std.specs.Prelude.{Option, Some, None, IsTrue}
use Rattle.std.specs.List.{list_any}
use Rattle.std.specs.Option.{option_map}
use Rattle.process_tree.specs.declared.entry.Entry.{Entry}
use Rattle.schedule_model.specs.Conflict.{ConflictRelation, conflict}
use Rattle.schedule_model.specs.Reduction.{is_pair}
use Rattle.schedule_model.specs.Graph.{Arrow, leads}
use Rattle.dependence_model.specs.declared.placed.Placed.{Placed}

-- a later entry depends on an earlier one where both are of one process, or conflict
abbrev pub depends : ConflictRelation → Entry → Entry → Bool
depends table earlier later = nat_eq earlier.process later.process || conflict table earlier later

-- an entry depends on one of these
abbrev pub depends_on_any : ConflictRelation → List Entry → Entry → Bool
depends_on_any table earlier later = list_any (λ x. depends table x later) earlier

-- Those entries behind f to which a chain leads from it: each depends on f, or on one before it in the chain. Found are
-- those before.
abbrev pub chained : ConflictRelation → Entry → List Entry → List Entry → List Entry
chained table f found [] = found
chained table f found (x ∷ xs) = chained table f (if depends_on_any table (f ∷ found) x then found ++ x ∷ [] else found) xs

-- no chain leads from the step f to its undo u through these entries, which stand between them
abbrev pub can_go : ConflictRelation → Entry → List Entry → Entry → Bool
can_go table f between u = not (depends_on_any table (chained table f [] between) u)

-- the entries of a list with their places, the first of which is n
abbrev pub placed_from : ℕ → List Entry → List Placed
placed_from n [] = []
placed_from n (e ∷ es) = record { place = n; entry = e } ∷ placed_from (n + 1) es

-- the same, counted from 1
abbrev pub placed : List Entry → List Placed
placed es = placed_from 1 es

-- the entries without their places
abbrev pub entries_of : List Placed → List Entry
entries_of xs = map (λ x. x.entry) xs

-- a step and its undo are taken away, between which no chain leads
abbrev pub IsTaken : ConflictRelation → List Placed → List Placed → Type 0
IsTaken table xs ys = (before between after : List Placed) × (f u : Placed)
    × (xs ≡ before ++ f ∷ (between ++ u ∷ after)) × (ys ≡ before ++ (between ++ after))
    × IsTrue (is_pair f.entry u.entry) × IsTrue (can_go table f.entry (entries_of between) u.entry)

-- one pair after another
pub data AreTaken (table : ConflictRelation) : List Placed → List Placed → Type 0 where
  none_taken : {xs : List Placed} → AreTaken table xs xs
  taken_first : {xs ys zs : List Placed} → IsTaken table xs ys → AreTaken table ys zs → AreTaken table xs zs

-- this is left once no more pair can be taken away
pub record IsLeft (table : ConflictRelation) (xs left : List Placed) : Type 0 where
  pub taken : AreTaken table xs left
  pub no_more : (ys : List Placed) → IsTaken table left ys → ⊥

-- The same, computed.

-- the list behind a step without its undo, where they can go; between are those that were passed on the way to it
abbrev pub without_undo : ConflictRelation → Placed → List Placed → List Placed → Option (List Placed)
without_undo table f between [] = None
without_undo table f between (u ∷ rest) =
    if is_pair f.entry u.entry then (if can_go table f.entry (entries_of between) u.entry then Some (between ++ rest) else None)
    else without_undo table f (between ++ u ∷ []) rest

-- the first list, or else the other
abbrev pub or_else : Option (List Placed) → Option (List Placed) → Option (List Placed)
or_else None other = other
or_else (Some ys) other = Some ys

-- the list without the first pair that can go, if there is one
abbrev pub one_taken : ConflictRelation → List Placed → Option (List Placed)
one_taken table [] = None
one_taken table (f ∷ rest) = or_else (without_undo table f [] rest) (option_map (λ ys. f ∷ ys) (one_taken table rest))

-- what further taking makes of a list, where a pair went
abbrev pub left_by : (List Placed → List Placed) → List Placed → Option (List Placed) → List Placed
left_by more xs None = xs
left_by more xs (Some ys) = more ys

-- what is left after at most n pairs
abbrev pub left_after : ℕ → ConflictRelation → List Placed → List Placed
left_after zero table xs = xs
left_after (suc n) table xs = left_by (left_after n table) xs (one_taken table xs)

-- what is left of a list: it has fewer pairs than entries
abbrev pub left_of : ConflictRelation → List Entry → List Placed
left_of table es = left_after (length es) table (placed es)

-- an entry of process i stands before one of process j that conflicts with it: i has to come first
abbrev pub must_precede : ConflictRelation → List Placed → Arrow
must_precede table [] i j = false
must_precede table (x ∷ xs) i j =
    (nat_eq x.entry.process i && list_any (λ y. nat_eq y.entry.process j && conflict table x.entry y.entry) xs)
    || must_precede table xs i j

-- the process of each of these entries
abbrev pub processes_of : List Placed → List ℕ
processes_of xs = map (λ x. x.entry.process) xs

-- a list is barred where an undo is left: its step can't be brought to it
abbrev pub is_barred : ConflictRelation → List Entry → Bool
is_barred table es = list_any (λ x. x.entry.undo) (left_of table es)

-- some of these processes would have to come before itself
abbrev pub goes_round : Arrow → List ℕ → Bool
goes_round arrow all = list_any (λ i. leads arrow all i i) all

-- a list is cyclic where that is so of what is left; it says something where nothing is barred
abbrev pub is_cyclic : ConflictRelation → List Entry → Bool
is_cyclic table es = let left = left_of table es in goes_round (must_precede table left) (processes_of left)
