-- Sound files: what nine files must be to be the journal and the books of one history.
use Rattle.std.specs.Prelude.{◌≡◌, ◌⊎◌, ◌<◌, ◌+◌, ◌&&◌, ◌==◌, ℕ, Bool, true, false, List, [], ◌∷◌, ◌++◌, nat_lt}
use Rattle.std.specs.Prelude.{if◌then◌else◌}
use Rattle.std.specs.List.{list_all, list_any}
use Rattle.process_disk.specs.Disk.{FileSet}
use Rattle.schedule_model.specs.declared.history.History.{History}
use Rattle.commute_table.specs.declared.catalog.Catalog.{Catalog}
use Rattle.resource_box.specs.declared.call.Kind.{Kind}
use Rattle.resource_box.specs.declared.call.Kind.TheVariants.{Counters, Cells, Seats}
use Rattle.subsystem_store.specs.declared.effect.Effect.{Effect}
use Rattle.resource_box.specs.Meaning.{value_at}
use Rattle.resource_box.specs.Table.{bars}
use Rattle.subsystem_store.specs.Values.{same_call, values}
use Rattle.subsystem_store.specs.Laws.{IsGoodBook}
use Rattle.subsystem_store.specs.Opened.{IsStoreOf}
use Rattle.process_journal.specs.Journals.{IsHistoryUnder}
use Rattle.process_journal.specs.Opened.{IsJournalOf}
use Rattle.history_files.specs.Effects.{effects}

-- the kind of subsystem q: 0 to 3 are counters, 4 and 5 cells, 6 and 7 seats
abbrev pub kind_of : ℕ → Kind
kind_of q = if nat_lt q 4 then Counters else (if nat_lt q 6 then Cells else Seats)

-- the kinds of all eight
abbrev pub kinds : List Kind
kinds = Counters ∷ Counters ∷ Counters ∷ Counters ∷ Cells ∷ Cells ∷ Seats ∷ Seats ∷ []

-- two effects have the same numbers and the same call
abbrev pub same_effect : Effect → Effect → Bool
same_effect a b =
    (a.number == b.number) && (a.process == b.process) && (a.step == b.step) && same_bool a.undo b.undo && same_call a.call b.call
  where
    same_bool : Bool → Bool → Bool
    same_bool true y = y
    same_bool false true = false
    same_bool false false = true

-- an effect stands among these
abbrev pub is_among : Effect → List Effect → Bool
is_among e es = list_any (same_effect e) es

-- each of some effects stands among these
abbrev pub are_among : List Effect → List Effect → Bool
are_among some es = list_all (λ e. is_among e es) some

-- what a book comes to beside these effects: the committed ones, and those in doubt where each of them stands among the effects
abbrev pub counted : List Effect → List Effect → List Effect → List Effect
counted es book [] = book
counted es book (e ∷ doubt) = if are_among (e ∷ doubt) es then book ++ e ∷ doubt else book

-- the values of a book bar an effect: it is forward, and the value at its key bars its call
abbrev pub is_barred : Kind → List Effect → Effect → Bool
is_barred kind book e = if e.undo then false else bars kind e.call (value_at (values kind book) e.call.key)

-- File q + 1 of the set is the store of a book that a store of this kind may have, and the book comes to these effects.
pub record IsBookOf (es : List Effect) (q : ℕ) (files : FileSet) : Type 0 where
  pub book : List Effect
  pub doubt : List Effect
  pub store : IsStoreOf (q + 1) book doubt files
  pub good : IsGoodBook (kind_of q) book doubt
  pub counts : counted es book doubt ≡ es

-- The files are sound for a history: file 0 is the journal of it, and each book comes to its effects on that subsystem.
pub record IsSound (c : Catalog) (h : History) (files : FileSet) : Type 0 where
  pub history : IsHistoryUnder c h
  pub journal : IsJournalOf c h files
  pub books : (q : ℕ) → q < 8 → IsBookOf (effects c.ops h q) q files

-- or for one of two histories
abbrev pub IsSoundForEither : Catalog → History → History → FileSet → Type 0
IsSoundForEither c one two files = IsSound c one files ⊎ IsSound c two files
