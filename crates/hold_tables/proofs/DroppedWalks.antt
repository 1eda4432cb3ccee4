-- A process that no walk leads through is dropped: the walks among the others stay.
use Rattle.std.proofs.Common.{◌≡◌, ◌+◌, ℕ, suc, Bool, true, false, not, ◌||◌, List, [], ◌∷◌, ◌++◌, length, Option, Some, None, inl, inr, sym, refl, ap, ◌∙◌, subst, arith}
use Rattle.std.specs.Prelude.{IsTrue, nat_eq, nat_lt, IfSome, if◌then◌else◌}
use Rattle.std.proofs.lemmas.Bool.{eqb-true, false≢true, ltb-false, ltb-true, ne_eqb, eqb-false, not-true}
use Rattle.std.proofs.lemmas.List.Elements.{filter-append}
use Rattle.process_tree.specs.declared.entry.Entry.{Entry}
use Rattle.process_tree.specs.Conflicts.{Table, do_conflict}
use Rattle.process_tree.specs.Order.{Each}
use Rattle.schedule_model.specs.Conflict.{ConflictRelation}
use Rattle.schedule_model.specs.Histories.{is_in, of_process}
use Rattle.schedule_model.specs.Graph.{Walk, and_then, one_arrow}
use Rattle.schedule_model.specs.Holdings.{holders, reaches}
use Rattle.schedule_model.proofs.Legal.{both-left, both-right}
use Rattle.schedule_model.proofs.Walks.{leads-from_walk, walk-from_leads}
use Rattle.hold_tables.specs.Tables.{OpenProcess, Tables, has_number, holdings_of}
use Rattle.hold_tables.specs.Changes.{can_come}
use Rattle.hold_tables.specs.Kept.{AreTidy, IsKnown, are_numbered}
use Rattle.hold_tables.specs.Arrows.{arrows_in}
use Rattle.bit_rows.specs.Cells.{IsPlaceTaken, place_before}
use Rattle.hold_tables.specs.Counts.{TellCounts, count_at, pair, pairs_by, pairs_from, pairs_in}
use Rattle.hold_tables.specs.Places.{place_of}
use Rattle.hold_tables.specs.Walks.{AreRows, TellWalks, IsAtEnd, step_of, steps_under_way, told}
use Rattle.bit_rows.specs.Cells.{cell}
use Rattle.hold_tables.proofs.Arrows.{steps_first}
use Rattle.bit_rows.proofs.Cells.{before_above, before_below}
use Rattle.hold_tables.proofs.Marks.{neither_of}
use Rattle.hold_tables.proofs.Opening.{number_of_others, other_processes, others}
use Rattle.hold_tables.proofs.Pairs.{arrow_counted, other_by, other_last}
use Rattle.hold_tables.proofs.Reaching.{graph-is, holder-number, number-holder, same_truth}
use Rattle.hold_tables.proofs.SameGraph.{graph_of, reach_over}
use Rattle.hold_tables.proofs.Tidy.{each_entry, tables}
use Rattle.hold_tables.proofs.WalkEnds.{open_ends, walk_ends}

-- an entry of process i is dropped, and another stays
drop_head : (i : ℕ) (e : Entry) (es : List Entry) → nat_eq e.process i ≡ true → others i (e ∷ es) ≡ others i es
drop_head i e es is = ap (λ b. if not b then e ∷ others i es else others i es) is

keep_head : (i : ℕ) (e : Entry) (es : List Entry) → nat_eq e.process i ≡ false → others i (e ∷ es) ≡ e ∷ others i es
keep_head i e es is = ap (λ b. if not b then e ∷ others i es else others i es) is

-- of one that is process i, nothing is another process
apart : (n i k : ℕ) → nat_eq n i ≡ true → nat_eq k i ≡ false → nat_eq n k ≡ false
apart n i k is other = ne_eqb n k (λ same. eqb-false k i other (sym same ∙ eqb-true n i is))

module _ (table : ConflictRelation) (i j k : ℕ) (to : nat_eq k i ≡ false) where
  -- the entries of process i make no difference to pairs with another
  pairs_by_others : (x : Entry) (ys : List Entry) → pairs_by table x (others i ys) j k ≡ pairs_by table x ys j k
  pairs_by_others x [] = refl
  pairs_by_others x (y ∷ ys) = by (nat_eq y.process i) refl (pairs_by_others x ys)
    where
      by : (b : Bool) → nat_eq y.process i ≡ b → pairs_by table x (others i ys) j k ≡ pairs_by table x ys j k → pairs_by table x (others i (y ∷ ys)) j k ≡ pairs_by table x (y ∷ ys) j k
      by true is rest = let none = other_last table j k x y (apart y.process i k is to) in ap (λ es. pairs_by table x es j k) (drop_head i y ys is) ∙ (omega (arith, none, rest))
      by false is rest = ap (λ es. pairs_by table x es j k) (keep_head i y ys is) ∙ ap (pair table x y j k +◌) rest

  -- nor do they to pairs of others
  pairs_others : nat_eq j i ≡ false → (running es : List Entry) → pairs_from table (others i running) (others i es) j k ≡ pairs_from table running es j k
  pairs_others from running [] = refl
  pairs_others from running (x ∷ es) = by (nat_eq x.process i) refl (pairs_others from running es)
    where
      by : (b : Bool) → nat_eq x.process i ≡ b → pairs_from table (others i running) (others i es) j k ≡ pairs_from table running es j k
          → pairs_from table (others i running) (others i (x ∷ es)) j k ≡ pairs_from table running (x ∷ es) j k
      by true is rest =
          let none = other_by table j k x (es ++ running) (apart x.process i j is from) in
          ap (λ ys. pairs_from table (others i running) ys j k) (drop_head i x es is) ∙ (omega (arith, none, rest))
      by false is rest =
          let head : pairs_by table x (others i es ++ others i running) j k ≡ pairs_by table x (es ++ running) j k =
          ap (λ ys. pairs_by table x ys j k) (sym (filter-append (λ (e : Entry). not (nat_eq e.process i)) es running)) ∙ pairs_by_others x (es ++ running) in
          ap (λ ys. pairs_from table (others i running) ys j k) (keep_head i x es is) ∙ (omega (arith, head, rest))

-- what is under way in a process is its own
abbrev pub IsOwn : OpenProcess → Type 0
IsOwn r = IfSome r.running (λ e. e.process ≡ r.process)

own_step : (i : ℕ) (n : ℕ) (o : Option Entry) → IfSome o (λ e. e.process ≡ n) → nat_eq n i ≡ true → others i (step_of o) ≡ []
own_step i n None own is = refl
own_step i n (Some e) own is = by e.undo
  where
    by : (b : Bool) → others i (if not b then e ∷ [] else []) ≡ []
    by true = refl
    by false = drop_head i e [] (ap (λ m. nat_eq m i) own ∙ is)

other_step : (i : ℕ) (n : ℕ) (o : Option Entry) → IfSome o (λ e. e.process ≡ n) → nat_eq n i ≡ false → others i (step_of o) ≡ step_of o
other_step i n None own is = refl
other_step i n (Some e) own is = by e.undo
  where
    by : (b : Bool) → others i (if not b then e ∷ [] else []) ≡ (if not b then e ∷ [] else [])
    by true = refl
    by false = keep_head i e [] (ap (λ m. nat_eq m i) own ∙ is)

-- the steps that are under way in the others
steps_others : (i : ℕ) (rows : List OpenProcess) → Each IsOwn rows → steps_under_way (other_processes i rows) ≡ others i (steps_under_way rows)
steps_others i [] each = refl
steps_others i (r ∷ rows) each = by (nat_eq r.process i) refl (steps_others i rows each.1)
  where
    whole : others i (steps_under_way (r ∷ rows)) ≡ others i (step_of r.running) ++ others i (steps_under_way rows)
    whole = ap (others i) (steps_first r rows) ∙ filter-append (λ (e : Entry). not (nat_eq e.process i)) (step_of r.running) (steps_under_way rows)

    by : (b : Bool) → nat_eq r.process i ≡ b → steps_under_way (other_processes i rows) ≡ others i (steps_under_way rows) → steps_under_way (other_processes i (r ∷ rows)) ≡ others i (steps_under_way (r ∷ rows))
    by true is rest =
        ap (λ b. steps_under_way (if not b then r ∷ other_processes i rows else other_processes i rows)) is ∙ rest
        ∙ sym (whole ∙ ap (λ es. es ++ others i (steps_under_way rows)) (own_step i r.process r.running each.0 is))
    by false is rest =
        ap (λ b. steps_under_way (if not b then r ∷ other_processes i rows else other_processes i rows)) is
        ∙ steps_first r (other_processes i rows) ∙ ap (step_of r.running ++◌) rest
        ∙ sym (whole ∙ ap (λ es. es ++ others i (steps_under_way rows)) (other_step i r.process r.running each.0 is))

own_running : (table : Table) (es : List Entry) (r : OpenProcess) (o : Option Entry) → IfSome o (λ e. (e.process ≡ r.process) × (can_come es r e ≡ true) × IsKnown table e) → IfSome o (λ e. e.process ≡ r.process)
own_running table es r None is = tt
own_running table es r (Some e) is = is.0

pub all_own : (t : Tables) → AreTidy t → Each IsOwn t.processes
all_own t tidy = each_entry t.processes (λ (r : OpenProcess) is. own_running t.conflicts (of_process r.process t.net) r r.running is.running) tidy.tidy

-- a process that isn't there is not dropped
pub none_dropped : (i : ℕ) (rows : List OpenProcess) → has_number i rows ≡ false → other_processes i rows ≡ rows
none_dropped i [] none = refl
none_dropped i (r ∷ rows) none =
    let parts = neither_of (nat_eq r.process i) (has_number i rows) none in
    ap (λ b. if not b then r ∷ other_processes i rows else other_processes i rows) parts.0 ∙ ap (r ∷◌) (none_dropped i rows parts.1)

-- none of the others is the one
not_among : (i : ℕ) (rows : List OpenProcess) → has_number i (other_processes i rows) ≡ false
not_among i [] = refl
not_among i (r ∷ rows) = by (nat_eq r.process i) refl (not_among i rows)
  where
    by : (b : Bool) → nat_eq r.process i ≡ b → has_number i (other_processes i rows) ≡ false → has_number i (other_processes i (r ∷ rows)) ≡ false
    by true is rest = ap (λ b. has_number i (if not b then r ∷ other_processes i rows else other_processes i rows)) is ∙ rest
    by false is rest = ap (λ b. has_number i (if not b then r ∷ other_processes i rows else other_processes i rows)) is ∙ ap (λ b. b || has_number i (other_processes i rows)) is ∙ rest

pub none_behind : (i : ℕ) (r : OpenProcess) (rows : List OpenProcess) → are_numbered (r ∷ rows) ≡ true → nat_eq r.process i ≡ true → has_number i rows ≡ false
none_behind i r rows once is =
    subst (λ k. has_number k rows ≡ false) (eqb-true r.process i is) (not-true (has_number r.process rows) (both-left (not (has_number r.process rows)) (are_numbered rows) once))

-- there is one process less
one_less_row : (i : ℕ) (rows : List OpenProcess) → are_numbered rows ≡ true → has_number i rows ≡ true → length (other_processes i rows) + 1 ≡ length rows
one_less_row i [] once has = absurd (false≢true has)
one_less_row i (r ∷ rows) once has = by (nat_eq r.process i) refl (one_less_row i rows (both-right (not (has_number r.process rows)) (are_numbered rows) once))
  where
    by : (b : Bool) → nat_eq r.process i ≡ b → (has_number i rows ≡ true → length (other_processes i rows) + 1 ≡ length rows) → length (other_processes i (r ∷ rows)) + 1 ≡ length (r ∷ rows)
    by true is rest =
        let gone : length (other_processes i (r ∷ rows)) ≡ length rows = ap (λ b. length (if not b then r ∷ other_processes i rows else other_processes i rows)) is ∙ ap length (none_dropped i rows (none_behind i r rows once is)) in
        omega (arith, gone)
    by false is rest =
        let kept : length (other_processes i (r ∷ rows)) ≡ length (r ∷ other_processes i rows) = ap (λ b. length (if not b then r ∷ other_processes i rows else other_processes i rows)) is in
        let less = rest (subst (λ b. (b || has_number i rows) ≡ true) is has) in
        omega (arith, kept, less)

pub before_suc : (p b : ℕ) → place_before (suc p) (suc b) ≡ suc (place_before p b)
before_suc p b = by (nat_lt b p) refl
  where
    by : (t : Bool) → nat_lt b p ≡ t → place_before (suc p) (suc b) ≡ suc (place_before p b)
    by true is = let less = ltb-true b p is in before_below (suc p) (suc b) (omega (arith, less)) ∙ ap suc (sym (before_below p b less))
    by false is = let past = ltb-false b p is in before_above (suc p) (suc b) (omega (arith, past)) ∙ (let same : suc b + 1 ≡ suc (b + 1) = omega arith in same) ∙ ap suc (sym (before_above p b past))

-- where another stood before
place_was : (i j : ℕ) (rows : List OpenProcess) → are_numbered rows ≡ true → has_number i rows ≡ true → nat_eq j i ≡ false
    → place_before (place_of i rows) (place_of j (other_processes i rows)) ≡ place_of j rows
place_was i j [] once has other = absurd (false≢true has)
place_was i j (r ∷ rows) once has other = by (nat_eq r.process i) refl (place_was i j rows (both-right (not (has_number r.process rows)) (are_numbered rows) once))
  where
    kept : (t : Bool) → nat_eq r.process j ≡ t → (place_before (place_of i rows) (place_of j (other_processes i rows)) ≡ place_of j rows)
        → place_before (suc (place_of i rows)) (place_of j (r ∷ other_processes i rows)) ≡ place_of j (r ∷ rows)
    kept true is rest = rw is (before_below (suc (place_of i rows)) 0 (omega arith))
    kept false is rest = rw is (before_suc (place_of i rows) (place_of j (other_processes i rows)) ∙ ap suc rest)

    by : (b : Bool) → nat_eq r.process i ≡ b → (has_number i rows ≡ true → nat_eq j i ≡ false → place_before (place_of i rows) (place_of j (other_processes i rows)) ≡ place_of j rows)
        → place_before (place_of i (r ∷ rows)) (place_of j (other_processes i (r ∷ rows))) ≡ place_of j (r ∷ rows)
    by true is rest =
        ap (λ b. place_before (if b then 0 else suc (place_of i rows)) (place_of j (if not b then r ∷ other_processes i rows else other_processes i rows))) is
        ∙ ap (λ rs. place_before 0 (place_of j rs)) (none_dropped i rows (none_behind i r rows once is))
        ∙ before_above 0 (place_of j rows) (omega arith) ∙ (let same : place_of j rows + 1 ≡ suc (place_of j rows) = omega arith in same)
        ∙ sym (ap (λ b. if b then 0 else suc (place_of j rows)) (apart r.process i j is other))
    by false is rest =
        ap (λ b. place_before (if b then 0 else suc (place_of i rows)) (place_of j (if not b then r ∷ other_processes i rows else other_processes i rows))) is
        ∙ kept (nat_eq r.process j) refl (rest (subst (λ b. (b || has_number i rows) ≡ true) is has) other)

-- and a row of marks less for it
pub rows_left : {A : Type 0} (i : ℕ) (rows : List OpenProcess) (old new : List A) → are_numbered rows ≡ true → has_number i rows ≡ true → AreRows rows old → length new + 1 ≡ length old
    → AreRows (other_processes i rows) new
rows_left i rows old new once has were count =
    let less = one_less_row i rows once has in
    let same = were.0 in
    let few = were.1 in
    (omega (arith, less, same, count), omega (arith, less, few))

-- the pairs among the others stay
pub pairs_left : (i : ℕ) (table : Table) (net : List Entry) (rows : List OpenProcess) → AreTidy (tables table net rows) → (j k : ℕ) → nat_eq j i ≡ false → nat_eq k i ≡ false
    → pairs_in (tables table (others i net) (other_processes i rows)) j k ≡ pairs_in (tables table net rows) j k
pairs_left i table net rows tidy j k from to =
    ap (λ es. pairs_from (do_conflict table) es (others i net) j k) (steps_others i rows (all_own (tables table net rows) tidy)) ∙ pairs_others (do_conflict table) i j k to from (steps_under_way rows) net

-- and so do the arrows
pub arrows_left : (i : ℕ) (table : Table) (net : List Entry) (rows : List OpenProcess) → AreTidy (tables table net rows) → (j k : ℕ) → nat_eq j i ≡ false → nat_eq k i ≡ false
    → arrows_in (tables table (others i net) (other_processes i rows)) j k ≡ arrows_in (tables table net rows) j k
arrows_left i table net rows tidy j k from to =
    sym (arrow_counted (tables table (others i net) (other_processes i rows)) j k) ∙ ap (nat_lt 0) (pairs_left i table net rows tidy j k from to) ∙ arrow_counted (tables table net rows) j k

-- process i is none of the others
pub is_other : (i k : ℕ) (rows : List OpenProcess) → has_number k (other_processes i rows) ≡ true → nat_eq k i ≡ false
is_other i k rows there = by (nat_eq k i) refl
  where
    by : (b : Bool) → nat_eq k i ≡ b → nat_eq k i ≡ false
    by true is = absurd (false≢true (sym (not_among i rows) ∙ ap (λ n. has_number n (other_processes i rows)) (sym (eqb-true k i is)) ∙ there))
    by false is = is

-- so counts of all pairs, without the place of process i, tell those among the others
pub dropped_counts : (i : ℕ) (table : Table) (net : List Entry) (rows : List OpenProcess) (old new : List (List ℕ)) → AreTidy (tables table net rows) → has_number i rows ≡ true
    → TellCounts (tables table net rows) old → IsPlaceTaken 0 (place_of i rows) old new → length new + 1 ≡ length old → TellCounts (tables table (others i net) (other_processes i rows)) new
dropped_counts i table net rows old new tidy has tells taken count = record {
  rows = rows_left i rows old new tidy.numbered has tells.rows count;
  tell = λ j k here there.
      let from = is_other i j rows here in
      let to = is_other i k rows there in
      taken (place_of j (other_processes i rows)) (place_of k (other_processes i rows))
      ∙ ap (λ a. count_at old a (place_before (place_of i rows) (place_of k (other_processes i rows)))) (place_was i j rows tidy.numbered has from)
      ∙ ap (count_at old (place_of j rows)) (place_was i k rows tidy.numbered has to)
      ∙ tells.tell j k (sym (number_of_others i j rows from) ∙ here) (sym (number_of_others i k rows to) ∙ there)
      ∙ sym (pairs_left i table net rows tidy j k from to);
}

module _ (i : ℕ) (table : Table) (net : List Entry) (rows : List OpenProcess) (old new : List (List Bool)) (tidy_was : AreTidy (tables table net rows))
    (tidy_now : AreTidy (tables table (others i net) (other_processes i rows))) (has : has_number i rows ≡ true) (tells : TellWalks (tables table net rows) old)
    (taken : IsPlaceTaken false (place_of i rows) old new) (none : IsAtEnd old (place_of i rows)) where
  abbrev was : Tables
  was = tables table net rows

  abbrev now : Tables
  now = tables table (others i net) (other_processes i rows)

  -- an arrow is told of
  arrow_told : (j k : ℕ) → arrows_in was j k ≡ true → told rows old j k ≡ true
  arrow_told j k a =
      let ends = open_ends was tidy_was j k a in
      tells.tell j k ends.0 ends.1 ∙ leads-from_walk (graph_of was) (holders (holdings_of was)) (one_arrow (holder-number k net rows ends.1) (graph-is was tidy_was j k ∙ a))

  -- so a walk has no process between its ends that none leads from or none leads to
  between : (j m k : ℕ) → Walk (graph_of was) (holders (holdings_of was)) j m → arrows_in was m k ≡ true → (b : Bool) → nat_eq m i ≡ b → nat_eq m i ≡ false
  between j m k walk a false is = is
  between j m k walk a true is = by none
    where
      same : m ≡ i
      same = eqb-true m i is

      by : IsAtEnd old (place_of i rows) → nat_eq m i ≡ false
      by (inl from) = absurd (false≢true (sym (from (place_of k rows)) ∙ ap (λ n. told rows old n k) (sym same) ∙ arrow_told m k a))
      by (inr to) =
          let ends = walk_ends was tidy_was walk in
          let led = tells.tell j m ends.0 ends.1 ∙ leads-from_walk (graph_of was) (holders (holdings_of was)) walk in
          absurd (false≢true (sym (to (place_of j rows)) ∙ ap (λ n. told rows old j n) (sym same) ∙ led))

  arrow_left : (j k : ℕ) → nat_eq j i ≡ false → nat_eq k i ≡ false → IsTrue (is_in k (holders (holdings_of was))) → IsTrue (graph_of was j k)
      → IsTrue (is_in k (holders (holdings_of now))) × IsTrue (graph_of now j k)
  arrow_left j k from to among a = (
    holder-number k (others i net) (other_processes i rows) (number_of_others i k rows to ∙ number-holder k net rows among),
    graph-is now tidy_now j k ∙ arrows_left i table net rows tidy_was j k from to ∙ sym (graph-is was tidy_was j k) ∙ a,
  )

  walk_left : {j k : ℕ} → nat_eq j i ≡ false → nat_eq k i ≡ false → Walk (graph_of was) (holders (holdings_of was)) j k → Walk (graph_of now) (holders (holdings_of now)) j k
  walk_left {j} {k} from to (one_arrow among a) = let found = arrow_left j k from to among a in one_arrow found.0 found.1
  walk_left {j} {k} from to (and_then {j = m} walk among a) =
      let mid = between j m k walk (sym (graph-is was tidy_was m k) ∙ a) (nat_eq m i) refl in
      let found = arrow_left m k mid to among a in
      and_then (walk_left from mid walk) found.0 found.1

  reach_stays : (j k : ℕ) → nat_eq j i ≡ false → nat_eq k i ≡ false → reaches (do_conflict table) (holdings_of now) j k ≡ reaches (do_conflict table) (holdings_of was) j k
  reach_stays j k from to =
      same_truth (reaches (do_conflict table) (holdings_of now) j k) (reaches (do_conflict table) (holdings_of was) j k)
      (reach_over now was tidy_now tidy_was (λ j k there a.
      let ends = open_ends now tidy_now j k a in
      let from = is_other i j rows ends.0 in
      let to = is_other i k rows there in
      (sym (number_of_others i k rows to) ∙ there, sym (arrows_left i table net rows tidy_was j k from to) ∙ a)) j k)
      (λ is. leads-from_walk (graph_of now) (holders (holdings_of now)) (walk_left from to (walk-from_leads (graph_of was) (holders (holdings_of was)) j k is)))

  -- the marks tell where walks lead, with a process less
  pub dropped_tells : length new + 1 ≡ length old → TellWalks now new
  dropped_tells count =
      record {
        rows = rows_left i rows old new tidy_was.numbered has tells.rows count;
        tell = λ j k here there.
            let from = is_other i j rows here in
            let to = is_other i k rows there in
            taken (place_of j now.processes) (place_of k now.processes)
            ∙ ap (λ a. cell old a (place_before (place_of i rows) (place_of k now.processes))) (place_was i j rows tidy_was.numbered has from)
            ∙ ap (cell old (place_of j rows)) (place_was i k rows tidy_was.numbered has to)
            ∙ tells.tell j k (sym (number_of_others i j rows from) ∙ here) (sym (number_of_others i k rows to) ∙ there)
            ∙ sym (reach_stays j k from to);
      }
