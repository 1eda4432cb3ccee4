-- Walking: who is dragged along, entry by entry in joint order.
use Rattle.std.specs.Prelude.{◌≡◌, ◌<◌, true, ℕ, ◌-◌, Bool, false, not, ◌&&◌, ◌||◌, List, [], ◌∷◌, ◌++◌, filter, length, nat_eq}
use Rattle.std.specs.Prelude.{if◌then◌else◌, IsTrue, Option}
use Rattle.std.specs.List.{list_any}
use Rattle.std.specs.Option.{option_to_list}
use Rattle.process_tree.specs.declared.entry.Entry.{Entry}
use Rattle.process_tree.specs.Conflicts.{Table, do_conflict}
use Rattle.schedule_model.specs.Conflict.{ConflictRelation, conflict}
use Rattle.schedule_model.specs.Histories.{is_in, of_process}
use Rattle.schedule_model.specs.Holdings.{holders}
use Rattle.machine_model.specs.Cascade.{drags}
use Rattle.hold_tables.specs.Tables.{Tables, holdings_of, is_open, kept_of, lasts}
use Rattle.hold_tables.specs.Kept.{IsKnown}
use Rattle.cascade.specs.declared.marks.Mark.{Mark}
use Rattle.cascade.specs.Sets.{done, marked}

-- one of these is of process k and conflicts with x
abbrev pub has_hit : ConflictRelation → Entry → List Entry → ℕ → Bool
has_hit table x ys k = list_any (λ y. nat_eq y.process k && conflict table x y) ys

-- process j drags k along by these entries, of which the first so many of j stay, with these steps under way
abbrev pub drags_from : ConflictRelation → List Entry → ℕ → ℕ → List Entry → ℕ → Bool
drags_from table running j stay [] k = false
drags_from table running j stay (x ∷ es) k =
    if nat_eq x.process j then
    (if nat_eq stay 0 then has_hit table x (es ++ running) k || drags_from table running j 0 es k
    else drags_from table running j (stay - 1) es k)
    else drags_from table running j stay es k

-- the table has the operation of the entry, and its process may be marked
abbrev pub IsWithin : Table → ℕ → Entry → Type 0
IsWithin table count e = IsKnown table e × (e.process < count)

-- the steps of these entries that are no undos
abbrev pub steps_among : Option Entry → List Entry
steps_among running = filter (λ e. not e.undo) (option_to_list running)

-- the last so many net entries of a process
abbrev pub last_entries : Tables → ℕ → ℕ → List Entry
last_entries t i count = lasts count (of_process i t.net)

-- how many of the first net entries of process j stay when the root takes its last count entries back
abbrev pub staying : Tables → ℕ → ℕ → ℕ → ℕ
staying t root count j = if nat_eq j root then length (of_process root t.net) - count else (kept_of t j).fixed

-- a set on the way to the cascade of the root
pub record IsOnTheWay (t : Tables) (root count : ℕ) (marks : List Mark) : Type 0 where
  pub begins : marked marks root ≡ true
  pub opened : (k : ℕ) → marked marks k ≡ true → is_open t k ≡ true
  -- whoever was looked at has dragged along all that it does
  pub closed : (j k : ℕ) → done marks j ≡ true → is_open t k ≡ true
      → drags (do_conflict t.conflicts) (holdings_of t) root (last_entries t root count) j k ≡ true → marked marks k ≡ true
  -- no closed set could do without one that is in
  pub least : (other : List ℕ) → IsTrue (is_in root other)
      → ((j k : ℕ) → IsTrue (is_in j other) → IsTrue (is_in k (holders (holdings_of t)))
      → IsTrue (drags (do_conflict t.conflicts) (holdings_of t) root (last_entries t root count) j k) → IsTrue (is_in k other))
      → (k : ℕ) → marked marks k ≡ true → IsTrue (is_in k other)
