-- Walks: what is kept of where walks of the conflict graph lead.
use Rattle.std.specs.Prelude.{◌≡◌, ◌⊎◌, ◌≤◌, ℕ, Bool, true, false, not, ◌&&◌, ◌||◌, List, [], ◌∷◌, ◌++◌, length}
use Rattle.std.specs.Prelude.{filter, flat_map, nat_eq, IfSome, Option}
use Rattle.std.specs.List.{list_any}
use Rattle.std.specs.Option.{option_to_list}
use Rattle.process_tree.specs.declared.entry.Entry.{Entry}
use Rattle.process_tree.specs.Conflicts.{Table, do_conflict}
use Rattle.schedule_model.specs.Conflict.{ConflictRelation, conflict}
use Rattle.schedule_model.specs.Graph.{Arrow}
use Rattle.schedule_model.specs.Holdings.{reaches}
use Rattle.hold_tables.specs.Tables.{Tables, OpenProcess, has_number, holdings_of, is_open, running_of}
use Rattle.bit_rows.specs.Cells.{cell}
use Rattle.hold_tables.specs.Kept.{IsKnown, are_numbered}
use Rattle.hold_tables.specs.Places.{place_of}

-- no walk leads from place p, or none to it
abbrev pub IsAtEnd : List (List Bool) → ℕ → Type 0
IsAtEnd walks p = ((b : ℕ) → cell walks p b ≡ false) ⊎ ((a : ℕ) → cell walks a p ≡ false)

-- whether the bits say that a walk leads from one open process to another
abbrev pub told : List OpenProcess → List (List Bool) → Arrow
told rows marks i k = cell marks (place_of i rows) (place_of k rows)

-- of two of these processes, what has the one arrow has the other
abbrev pub Implies : List OpenProcess → Arrow → Arrow → Type 0
Implies rows p q = (i k : ℕ) → has_number i rows ≡ true → has_number k rows ≡ true → p i k ≡ true → q i k ≡ true

-- among these processes, arrows one after another are an arrow
abbrev pub IsTransitive : List OpenProcess → Arrow → Type 0
IsTransitive rows p = (i j k : ℕ) → has_number i rows ≡ true → has_number j rows ≡ true → has_number k rows ≡ true → p i j ≡ true
    → p j k ≡ true → p i k ≡ true

-- arrows are added to what the marks tell, and each walk over them, and nothing else
pub record IsExtended (rows : List OpenProcess) (added : Arrow) (old new : List (List Bool)) : Type 0 where
  pub count : length new ≡ length old
  pub more : Implies rows (told rows old) (told rows new)
  pub has : Implies rows added (told rows new)
  pub transitive : IsTransitive rows (told rows old) → IsTransitive rows (told rows new)
  pub least : (led : Arrow) → IsTransitive rows led → Implies rows (told rows old) led → Implies rows added led
      → Implies rows (told rows new) led

-- the arrows that an entry makes, with these behind it
abbrev pub arrows_by : ConflictRelation → Entry → List Entry → Arrow
arrows_by table x ys i k = nat_eq x.process i && list_any (λ y. nat_eq y.process k && conflict table x y) ys

-- the arrows that these entries make to one behind them
abbrev pub arrows_to : ConflictRelation → List Entry → Entry → Arrow
arrows_to table es e i k = list_any (λ x. arrows_by table x (e ∷ []) i k) es

-- the arrows that entries in joint order make, with these under way
abbrev pub arrows_from : ConflictRelation → List Entry → List Entry → Arrow
arrows_from table running [] i k = false
arrows_from table running (x ∷ es) i k = arrows_by table x (es ++ running) i k || arrows_from table running es i k

-- the steps that are under way, without the undos
abbrev pub steps_under_way : List OpenProcess → List Entry
steps_under_way rows = filter (λ e. not e.undo) (flat_map running_of rows)

-- the step that is under way, if one is and it is no undo
abbrev pub step_of : Option Entry → List Entry
step_of running = filter (λ e. not e.undo) (option_to_list running)

-- whether an entry conflicts with one of these
abbrev pub conflicts_with : ConflictRelation → List Entry → Entry → Bool
conflicts_with table es e = list_any (conflict table e) es

-- whether the step, if there is one, conflicts with a net entry: then it makes an arrow while it is under way
abbrev pub step_has_arrows : ConflictRelation → List Entry → Option Entry → Bool
step_has_arrows table net running = list_any (conflicts_with table net) (step_of running)

-- an entry of one of these processes, and of an operation of the table
abbrev pub IsPlaced : Table → List OpenProcess → Entry → Type 0
IsPlaced table rows e = IsKnown table e × (has_number e.process rows ≡ true)

-- the same of what is under way, if something is
abbrev pub IsPlacedIf : Table → List OpenProcess → Option Entry → Type 0
IsPlacedIf table rows running = IfSome running (IsPlaced table rows)

-- there is a row for each of these processes, of which there are few enough
abbrev pub AreRows : {A : Type 0} → List OpenProcess → List A → Type 0
AreRows rows marks = (length marks ≡ length rows) × (length rows ≤ 256)

-- and no number stands twice
abbrev pub AreDistinctRows : {A : Type 0} → List OpenProcess → List A → Type 0
AreDistinctRows rows marks = (length marks ≡ length rows) × (length rows ≤ 256) × (are_numbered rows ≡ true)

-- the marks tell where walks of the conflict graph lead
pub record TellWalks (t : Tables) (marks : List (List Bool)) : Type 0 where
  pub rows : AreRows t.processes marks
  pub tell : (i k : ℕ) → is_open t i ≡ true → is_open t k ≡ true
      → told t.processes marks i k ≡ reaches (do_conflict t.conflicts) (holdings_of t) i k

-- the marks tell where walks lead once these arrows are added to them
abbrev pub TellWalksBut : Tables → Arrow → List (List Bool) → Type 0
TellWalksBut t added marks = (new : List (List Bool)) → IsExtended t.processes added marks new → TellWalks t new
