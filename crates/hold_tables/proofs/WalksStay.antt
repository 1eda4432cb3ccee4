-- The marks go on telling where walks lead while no net entry, no number and nothing under way changes.
use Rattle.std.proofs.Common.{◌≡◌, ◌≤◌, ℕ, suc, Bool, true, false, not, ◌&&◌, List, [], ◌∷◌, ◌++◌, length, filter, map, flat_map, sym, refl, ap, ◌∙◌, subst, Option}
use Rattle.std.specs.Prelude.{nat_eq, slice_index_or, slice_set}
use Rattle.std.specs.List.{list_any}
use Rattle.std.specs.Option.{option_to_list}
use Rattle.process_tree.specs.declared.entry.Entry.{Entry}
use Rattle.process_tree.specs.Conflicts.{Table, do_conflict}
use Rattle.schedule_model.specs.Histories.{is_in}
use Rattle.schedule_model.specs.Conflict.{ConflictRelation, conflict}
use Rattle.schedule_model.specs.Graph.{leads}
use Rattle.schedule_model.specs.Holdings.{behind, reaches}
use Rattle.hold_tables.specs.Tables.{OpenProcess, Tables, has_number, hold_in, holdings_of, is_open, running_of}
use Rattle.hold_tables.specs.Changes.{change_numbered}
use Rattle.hold_tables.specs.Places.{place_of}
use Rattle.hold_tables.specs.Walks.{TellWalks}
use Rattle.bit_rows.specs.Cells.{cell}
use Rattle.hold_tables.proofs.Least.{all_running-is}
use Rattle.hold_tables.proofs.Tidy.{row_changed, tables}

-- a change leaves the number and what is under way
abbrev pub KeepsRunning : (OpenProcess → OpenProcess) → Type 0
KeepsRunning f = (r : OpenProcess) → ((f r).process ≡ r.process) × ((f r).running ≡ r.running)

module _ (f : OpenProcess → OpenProcess) (keeps : KeepsRunning f) (i : ℕ) where
  pub numbers : (rows : List OpenProcess) → map (λ (r : OpenProcess). r.process) (change_numbered f i rows) ≡ map (λ (r : OpenProcess). r.process) rows
  numbers [] = refl
  numbers (r ∷ rows) = by (nat_eq r.process i) refl (numbers rows)
    where
      by : (b : Bool) → nat_eq r.process i ≡ b → map (λ (r : OpenProcess). r.process) (change_numbered f i rows) ≡ map (λ (r : OpenProcess). r.process) rows
          → map (λ (r : OpenProcess). r.process) (change_numbered f i (r ∷ rows)) ≡ map (λ (r : OpenProcess). r.process) (r ∷ rows)
      by true is rest = rw is (ap (λ k. k ∷ map (λ (r : OpenProcess). r.process) rows) (keeps r).0)
      by false is rest = rw is (ap (r.process ∷◌) rest)

  pub under_way : (rows : List OpenProcess) → flat_map running_of (change_numbered f i rows) ≡ flat_map running_of rows
  under_way [] = refl
  under_way (r ∷ rows) = by (nat_eq r.process i) refl (under_way rows)
    where
      by : (b : Bool) → nat_eq r.process i ≡ b → flat_map running_of (change_numbered f i rows) ≡ flat_map running_of rows → flat_map running_of (change_numbered f i (r ∷ rows)) ≡ flat_map running_of (r ∷ rows)
      by true is rest = rw is (ap (λ (o : Option Entry). option_to_list o ++ flat_map running_of rows) (keeps r).1)
      by false is rest = rw is (ap (running_of r ++◌) rest)

-- where processes have the same numbers they have the same places
pub same_places : (rows others : List OpenProcess) → map (λ (r : OpenProcess). r.process) rows ≡ map (λ (r : OpenProcess). r.process) others → (k : ℕ) → place_of k rows ≡ place_of k others
same_places [] [] same k = refl
same_places [] (r ∷ others) same k = absurd cc
same_places (r ∷ rows) [] same k = absurd cc
same_places (r ∷ rows) (s ∷ others) same k =
    let head : r.process ≡ s.process = cc in
    let tail : map (λ (r : OpenProcess). r.process) rows ≡ map (λ (r : OpenProcess). r.process) others = cc in
    rw (head, same_places rows others tail k) refl

pub same_open : (rows others : List OpenProcess) → map (λ (r : OpenProcess). r.process) rows ≡ map (λ (r : OpenProcess). r.process) others → (k : ℕ) → has_number k rows ≡ has_number k others
same_open [] [] same k = refl
same_open [] (r ∷ others) same k = absurd cc
same_open (r ∷ rows) [] same k = absurd cc
same_open (r ∷ rows) (s ∷ others) same k =
    let head : r.process ≡ s.process = cc in
    let tail : map (λ (r : OpenProcess). r.process) rows ≡ map (λ (r : OpenProcess). r.process) others = cc in
    rw (head, same_open rows others tail k) refl

pub same_count : (rows others : List OpenProcess) → map (λ (r : OpenProcess). r.process) rows ≡ map (λ (r : OpenProcess). r.process) others → length rows ≡ length others
same_count [] [] same = refl
same_count [] (r ∷ others) same = absurd cc
same_count (r ∷ rows) [] same = absurd cc
same_count (r ∷ rows) (s ∷ others) same = ap suc (same_count rows others cc)

pub holders-are : (net : List Entry) (rows : List OpenProcess) → map (λ o. o.process) (map (hold_in net) rows) ≡ map (λ (r : OpenProcess). r.process) rows
holders-are net [] = refl
holders-are net (r ∷ rows) = ap (r.process ∷◌) (holders-are net rows)

-- where walks lead, by the net, the numbers of the processes and all that is under way
abbrev reach_by : ConflictRelation → List Entry → List ℕ → List Entry → ℕ → ℕ → Bool
reach_by table net all running k i =
    let es = filter (λ e. is_in e.process all) net in
    leads (λ k i. list_any (λ x. nat_eq x.process k && list_any (λ y. nat_eq y.process i && conflict table x y) (behind x es ++ filter (λ e. not e.undo) running)) es) all k i

reaches-by : (table : Table) (net : List Entry) (rows : List OpenProcess) (k i : ℕ)
    → reaches (do_conflict table) (holdings_of (tables table net rows)) k i ≡ reach_by (do_conflict table) net (map (λ (r : OpenProcess). r.process) rows) (flat_map running_of rows) k i
reaches-by table net rows k i =
    ap (λ ns. reach_by (do_conflict table) net ns (flat_map (λ o. option_to_list o.running) (map (hold_in net) rows)) k i) (holders-are net rows)
    ∙ ap (λ es. reach_by (do_conflict table) net (map (λ (r : OpenProcess). r.process) rows) es k i) (all_running-is net rows)

-- so the marks tell it after such a change
pub walks_stay : (f : OpenProcess → OpenProcess) (i : ℕ) (table : Table) (net : List Entry) (rows : List OpenProcess) (marks : List (List Bool)) → KeepsRunning f
    → TellWalks (tables table net rows) marks → TellWalks (tables table net (change_numbered f i rows)) marks
walks_stay f i table net rows marks keeps tells =
    let after = change_numbered f i rows in
    let same = numbers f keeps i rows in
    let count = same_count after rows same in
    record {
      rows = (tells.rows.0 ∙ sym count, subst (λ n. n ≤ 256) (sym count) tells.rows.1);
      tell = λ j k here there.
          ap (λ a. cell marks a (place_of k after)) (same_places after rows same j) ∙ ap (cell marks (place_of j rows)) (same_places after rows same k)
          ∙ tells.tell j k (sym (same_open after rows same j) ∙ here) (sym (same_open after rows same k) ∙ there)
          ∙ reaches-by table net rows j k
          ∙ ap (λ ns. reach_by (do_conflict table) net ns (flat_map running_of rows) j k) (sym same)
          ∙ ap (λ es. reach_by (do_conflict table) net (map (λ (r : OpenProcess). r.process) after) es j k) (sym (under_way f keeps i rows))
          ∙ sym (reaches-by table net after j k);
    }

-- the same at the row's place
pub walks_stood : (f : OpenProcess → OpenProcess) (i : ℕ) (table : Table) (net : List Entry) (rows : List OpenProcess) (marks : List (List Bool)) (at : ℕ) (before after : OpenProcess) (t : Tables)
    → tables table net rows ≡ t → is_open t i ≡ true → at ≡ place_of i rows → before ≡ slice_index_or rows at before → after ≡ f before
    → KeepsRunning f → TellWalks (tables table net rows) marks → TellWalks (tables table net (slice_set rows at after)) marks
walks_stood f i table net rows marks at before after t view opened at_is before_is after_is keeps tells =
    let has : has_number i rows ≡ true = subst (λ t. is_open t i ≡ true) (sym view) opened in
    subst (λ rows. TellWalks (tables table net rows) marks) (sym (row_changed f i rows at before after has at_is before_is after_is)) (walks_stay f i table net rows marks keeps tells)
