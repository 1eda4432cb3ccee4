-- What is kept of the conflict graph as entries come and go.
use Rattle.std.proofs.Common.{◌≡◌, ◌<◌, ◌≤◌, ◌+◌, ℕ, Bool, true, false, not, List, [], ◌∷◌, ◌++◌, filter, Option, Some, None, sym, refl, ap, ◌∙◌, subst, arith}
use Rattle.std.specs.Prelude.{if◌then◌else◌, nat_lt, slice_index_or, slice_set}
use Rattle.std.specs.List.{list_any}
use Rattle.std.proofs.lemmas.Bool.{false≢true, lt-ltb, ltb-true}
use Rattle.process_tree.specs.declared.entry.Entry.{Entry}
use Rattle.process_tree.specs.Conflicts.{Table, do_conflict}
use Rattle.process_tree.proofs.Tables.{do_conflict-symmetric}
use Rattle.schedule_model.specs.Graph.{Arrow}
use Rattle.hold_tables.specs.Arrows.{arrows_in}
use Rattle.hold_tables.specs.Changes.{change_numbered, net_after, undoes, with_running, without_last}
use Rattle.hold_tables.specs.Counts.{AreCounted, IsUncounted, Pairs, TellCounts, TellCountsBut, count_at, counted, pairs_by, pairs_from, pairs_in, pairs_of_last, pairs_to, pairs_to_step}
use Rattle.hold_tables.specs.Kept.{AreTidy}
use Rattle.hold_tables.specs.Places.{place_of}
use Rattle.hold_tables.specs.Tables.{OpenProcess, Tables, has_number, is_open, numbered}
use Rattle.hold_tables.specs.Walks.{AreRows, TellWalks, TellWalksBut, arrows_by, arrows_to, conflicts_with, step_has_arrows, step_of, steps_under_way}
use Rattle.hold_tables.proofs.LastPairs.{with_last}
use Rattle.hold_tables.proofs.Marks.{neither_of}
use Rattle.hold_tables.proofs.MoreWalks.{effect_more, more_tells, run_more}
use Rattle.hold_tables.proofs.Pairs.{arrow_counted, none_to, settled_more, under_more}
use Rattle.hold_tables.proofs.SameGraph.{Follows, numbers_of, same_numbers, same_walks, split_steps, step_is, steps_left, undo_no_step}
use Rattle.hold_tables.proofs.Tidy.{row_changed, tables}
use Rattle.hold_tables.proofs.WalkEnds.{open_ends}
use Rattle.hold_tables.proofs.WalksStay.{KeepsRunning, numbers, same_count, same_open, same_places, under_way, walks_stood}

-- the counts tell the pairs, and the marks where walks lead
abbrev pub TellBoth : Tables → List (List ℕ) → List (List Bool) → Type 0
TellBoth t counts walks = TellCounts t counts × TellWalks t walks

-- the same once these are added
abbrev pub TellBothBut : Tables → Pairs → Arrow → List (List ℕ) → List (List Bool) → Type 0
TellBothBut t pairs arrows counts walks = TellCountsBut t pairs counts × TellWalksBut t arrows walks

module _ (t u : Tables) (same : numbers_of u.processes ≡ numbers_of t.processes) where
  rows_stay : {A : Type 0} (rows : List A) → AreRows t.processes rows → AreRows u.processes rows
  rows_stay rows are = let count = same_count u.processes t.processes same in (are.0 ∙ sym count, subst (λ n. n ≤ 256) (sym count) are.1)

  was_open : (j : ℕ) → is_open u j ≡ true → is_open t j ≡ true
  was_open j here = sym (same_open u.processes t.processes same j) ∙ here

  counted_stays : (counts : List (List ℕ)) (j k : ℕ) → counted u.processes counts j k ≡ counted t.processes counts j k
  counted_stays counts j k =
      ap (λ a. count_at counts a (place_of k u.processes)) (same_places u.processes t.processes same j) ∙ ap (count_at counts (place_of j t.processes)) (same_places u.processes t.processes same k)

  module _ (counts : List (List ℕ)) (tells : TellCounts t counts) where
    -- the pairs are the same
    pub same_counts : ((j k : ℕ) → pairs_in u j k ≡ pairs_in t j k) → TellCounts u counts
    same_counts pairs = record {
      rows = rows_stay counts tells.rows;
      tell = λ j k here there. counted_stays counts j k ∙ tells.tell j k (was_open j here) (was_open k there) ∙ sym (pairs j k);
    }

    -- pairs came
    pub more_counts : (added : Pairs) → ((j k : ℕ) → pairs_in u j k ≡ pairs_in t j k + added j k) → TellCountsBut u added counts
    more_counts added pairs = record {
      rows = rows_stay counts tells.rows;
      tell = λ j k here there. pairs j k ∙ ap (λ n. n + added j k) (sym (counted_stays counts j k ∙ tells.tell j k (was_open j here) (was_open k there)));
    }

  -- where pairs are the same, so are arrows
  same_arrows : AreTidy t → ((j k : ℕ) → pairs_in u j k ≡ pairs_in t j k) → Follows t u
  same_arrows tidy pairs j k there a = (same_open u.processes t.processes same k ∙ there, sym (arrow_counted u j k) ∙ ap (nat_lt 0) (pairs j k) ∙ arrow_counted t j k ∙ a)

  same_arrows_back : ((j k : ℕ) → pairs_in u j k ≡ pairs_in t j k) → Follows u t
  same_arrows_back pairs j k there a = (was_open k there, sym (arrow_counted t j k) ∙ ap (nat_lt 0) (sym (pairs j k)) ∙ arrow_counted u j k ∙ a)

  -- and what is kept goes on telling
  pub same_both : AreTidy t → AreTidy u → ((j k : ℕ) → pairs_in u j k ≡ pairs_in t j k) → (counts : List (List ℕ)) (walks : List (List Bool)) → TellBoth t counts walks → TellBoth u counts walks
  same_both tidy_t tidy_u pairs counts walks tells =
      (same_counts counts tells.0 pairs, same_walks t u walks tidy_t tidy_u same (same_arrows tidy_t pairs) (same_arrows_back pairs) tells.1)

  module _ (taken : Pairs) (gone : Bool) (old new : List (List ℕ)) (less : (j k : ℕ) → pairs_in t j k ≡ pairs_in u j k + taken j k) (tells : TellCounts t old)
      (off : IsUncounted t.processes taken gone old new) where
    new_is : (j k : ℕ) → is_open t j ≡ true → is_open t k ≡ true → counted t.processes new j k ≡ pairs_in u j k
    new_is j k here there = let was = tells.tell j k here there in let is = off.tell j k here there in let both = less j k in omega (arith, was, is, both)

    -- pairs went
    pub less_counts : TellCounts u new
    less_counts = record {
      rows = rows_stay new (off.count ∙ tells.rows.0, tells.rows.1);
      tell = λ j k here there. counted_stays new j k ∙ new_is j k (was_open j here) (was_open k there);
    }

    some_left : gone ≡ false → (j k : ℕ) → is_open t j ≡ true → is_open t k ≡ true → arrows_in t j k ≡ true → arrows_in u j k ≡ true
    some_left kept j k here there a =
        let some : 0 < counted t.processes old j k = subst (λ n. 0 < n) (sym (tells.tell j k here there)) (ltb-true 0 (pairs_in t j k) (arrow_counted t j k ∙ a)) in
        sym (arrow_counted u j k) ∙ lt-ltb 0 (pairs_in u j k) (subst (λ n. 0 < n) (new_is j k here there) (off.stays kept j k here there some))

    some_were : (j k : ℕ) → arrows_in u j k ≡ true → arrows_in t j k ≡ true
    some_were j k a =
        let some = ltb-true 0 (pairs_in u j k) (arrow_counted u j k ∙ a) in
        let both = less j k in
        sym (arrow_counted t j k) ∙ lt-ltb 0 (pairs_in t j k) (omega (arith, some, both))

    -- but no arrow did, so walks lead where they led
    pub less_walks : AreTidy t → AreTidy u → gone ≡ false → (walks : List (List Bool)) → TellWalks t walks → TellWalks u walks
    less_walks tidy_t tidy_u kept walks =
        same_walks t u walks tidy_t tidy_u same
        (λ j k there a. (same_open u.processes t.processes same k ∙ there, some_left kept j k (open_ends t tidy_t j k a).0 there a))
        (λ j k there a. (was_open k there, some_were j k a))

-- a step that makes an arrow is no undo
pub arrow_of_step : (table : Table) (net : List Entry) (e : Entry) → step_has_arrows (do_conflict table) net (Some e) ≡ true → e.undo ≡ false
arrow_of_step table net e has = by e.undo refl
  where
    by : (b : Bool) → e.undo ≡ b → e.undo ≡ false
    by true is = absurd (let none : false ≡ true = sym (ap (λ es. list_any (conflicts_with (do_conflict table) net) es) (undo_no_step e is)) ∙ has in cc)
    by false is = is

module _ (i : ℕ) (table : Table) (net : List Entry) (rows : List OpenProcess) (has : has_number i rows ≡ true) where
  abbrev was : Tables
  was = tables table net rows

  abbrev running : Option Entry → List OpenProcess
  running o = change_numbered (with_running o) i rows

  -- the pairs once something came under way where nothing was
  run_pairs : (e : Entry) → (numbered i rows).running ≡ None → e.undo ≡ false → (j k : ℕ) → pairs_in (tables table net (running (Some e))) j k ≡ pairs_in was j k + pairs_to (do_conflict table) net e j k
  run_pairs e idle forward j k =
      let split = split_steps i rows has in
      ap (λ es. pairs_from (do_conflict table) es net j k) (split.now (Some e) ∙ ap (λ es. split.front ++ (es ++ split.back)) (step_is e forward))
      ∙ under_more (do_conflict table) j k split.front e split.back net
      ∙ ap (λ es. pairs_from (do_conflict table) es net j k + pairs_to (do_conflict table) net e j k) (sym (split.was ∙ ap (λ o. split.front ++ (step_of o ++ split.back)) idle))

  -- an undo, or a step without arrows, makes none
  quiet_pairs : (e : Entry) → (numbered i rows).running ≡ None → step_has_arrows (do_conflict table) net (Some e) ≡ false → (j k : ℕ) → pairs_in (tables table net (running (Some e))) j k ≡ pairs_in was j k
  quiet_pairs e idle none j k = by e.undo refl
    where
      by : (b : Bool) → e.undo ≡ b → pairs_in (tables table net (running (Some e))) j k ≡ pairs_in was j k
      by true is =
          ap (λ es. pairs_from (do_conflict table) es net j k) ((split_steps i rows has).now (Some e) ∙ ap (λ es. (split_steps i rows has).front ++ (es ++ (split_steps i rows has).back)) (undo_no_step e is)
          ∙ sym ((split_steps i rows has).was ∙ ap (λ o. (split_steps i rows has).front ++ (step_of o ++ (split_steps i rows has).back)) idle))
      by false is =
          let alone = neither_of (conflicts_with (do_conflict table) net e) false (sym (ap (λ es. list_any (conflicts_with (do_conflict table) net) es) (step_is e is)) ∙ none) in
          let zero = none_to (do_conflict table) j k (do_conflict-symmetric table) net e alone.0 in
          let more = run_pairs e idle is j k in
          omega (arith, zero, more)

  -- the pairs once nothing is under way
  stop_pairs : (o : Option Entry) → (numbered i rows).running ≡ o → (j k : ℕ) → pairs_in was j k ≡ pairs_in (tables table net (running None)) j k + pairs_to_step (do_conflict table) net o j k
  stop_pairs None idle j k =
      let split = split_steps i rows has in
      let same : pairs_in was j k ≡ pairs_in (tables table net (running None)) j k =
      ap (λ es. pairs_from (do_conflict table) es net j k) (split.was ∙ ap (λ o. split.front ++ (step_of o ++ split.back)) idle ∙ sym (split.now None)) in
      omega (arith, same)
  stop_pairs (Some e) under j k = by e.undo refl
    where
      by : (b : Bool) → e.undo ≡ b → pairs_in was j k ≡ pairs_in (tables table net (running None)) j k + (if e.undo then 0 else pairs_to (do_conflict table) net e j k)
      by true is =
          let same : pairs_in was j k ≡ pairs_in (tables table net (running None)) j k = ap (λ es. pairs_from (do_conflict table) es net j k) (sym (steps_left i rows e has under is)) in
          rw is (omega (arith, same))
      by false is =
          let split = split_steps i rows has in
          let more = under_more (do_conflict table) j k split.front e split.back net in
          let before : pairs_in was j k ≡ pairs_from (do_conflict table) (split.front ++ e ∷ split.back) net j k =
          ap (λ es. pairs_from (do_conflict table) es net j k) (split.was ∙ ap (λ o. split.front ++ (step_of o ++ split.back)) under ∙ ap (λ es. split.front ++ (es ++ split.back)) (step_is e is)) in
          let after : pairs_in (tables table net (running None)) j k ≡ pairs_from (do_conflict table) (split.front ++ split.back) net j k = ap (λ es. pairs_from (do_conflict table) es net j k) (split.now None) in
          let step : (if e.undo then 0 else pairs_to (do_conflict table) net e j k) ≡ pairs_to (do_conflict table) net e j k = ap (λ b. if b then 0 else pairs_to (do_conflict table) net e j k) is in
          omega (arith, more, before, after, step)

  -- and once a step took effect
  done_pairs : (e : Entry) → (numbered i rows).running ≡ Some e → e.undo ≡ false → (j k : ℕ)
      → pairs_in (tables table (net_after i (Some e) net) (running None)) j k ≡ pairs_in was j k + pairs_by (do_conflict table) e (steps_under_way (running None)) j k
  done_pairs e under forward j k =
      let split = split_steps i rows has in
      let now : steps_under_way (running None) ≡ split.front ++ split.back = split.now None in
      let before : steps_under_way rows ≡ split.front ++ e ∷ split.back = split.was ∙ ap (λ o. split.front ++ (step_of o ++ split.back)) under ∙ ap (λ es. split.front ++ (es ++ split.back)) (step_is e forward) in
      let settled : net_after i (Some e) net ≡ net ++ e ∷ [] = rw forward refl in
      ap (λ es. pairs_from (do_conflict table) (steps_under_way (running None)) es j k) settled
      ∙ ap (λ es. pairs_from (do_conflict table) es (net ++ e ∷ []) j k) now
      ∙ settled_more (do_conflict table) j k split.front e split.back net
      ∙ ap (λ es. pairs_from (do_conflict table) es net j k + pairs_by (do_conflict table) e (split.front ++ split.back) j k) (sym before)
      ∙ ap (λ es. pairs_from (do_conflict table) (steps_under_way rows) net j k + pairs_by (do_conflict table) e es j k) (sym now)

  module _ (counts : List (List ℕ)) (walks : List (List Bool)) (tidy_was : AreTidy was) (tells : TellBoth was counts walks) where
    -- what came under way makes no arrow
    pub run_same : (e : Entry) → (numbered i rows).running ≡ None → AreTidy (tables table net (running (Some e))) → step_has_arrows (do_conflict table) net (Some e) ≡ false
        → TellBoth (tables table net (running (Some e))) counts walks
    run_same e idle tidy_now none = same_both was (tables table net (running (Some e))) (same_numbers (Some e) i rows) tidy_was tidy_now (quiet_pairs e idle none) counts walks tells

    -- a step comes under way where nothing was
    pub run_both : (e : Entry) → (numbered i rows).running ≡ None → AreTidy (tables table net (running (Some e))) → e.undo ≡ false
        → TellBothBut (tables table net (running (Some e))) (pairs_to (do_conflict table) net e) (arrows_to (do_conflict table) net e) counts walks
    run_both e idle tidy_now forward = (
      more_counts was (tables table net (running (Some e))) (same_numbers (Some e) i rows) counts tells.0 (pairs_to (do_conflict table) net e) (run_pairs e idle forward),
      λ new extended. more_tells was (tables table net (running (Some e))) tidy_was tidy_now (arrows_to (do_conflict table) net e) (same_numbers (Some e) i rows)
          (run_more i table net rows e has idle forward) walks new tells.1 extended,
    )

    -- a step took effect
    pub done_both : (e : Entry) → (numbered i rows).running ≡ Some e → AreTidy (tables table (net_after i (Some e) net) (running None)) → e.undo ≡ false
        → TellBothBut (tables table (net_after i (Some e) net) (running None)) (pairs_by (do_conflict table) e (steps_under_way (running None))) (arrows_by (do_conflict table) e (steps_under_way (running None))) counts walks
    done_both e under tidy_now forward = (
      more_counts was (tables table (net_after i (Some e) net) (running None)) (same_numbers None i rows) counts tells.0
          (pairs_by (do_conflict table) e (steps_under_way (running None))) (done_pairs e under forward),
      λ new extended. more_tells was (tables table (net_after i (Some e) net) (running None)) tidy_was tidy_now
          (arrows_by (do_conflict table) e (steps_under_way (running None))) (same_numbers None i rows) (effect_more i table net rows e has under forward) walks new tells.1 extended,
    )

    -- what is under way makes pairs that are counted
    pub stop_among : AreCounted rows (pairs_to_step (do_conflict table) net (numbered i rows).running) counts
    stop_among j k here there = let all = stop_pairs (numbered i rows).running refl j k in let told = tells.0.tell j k here there in omega (arith, all, told)

    -- nothing is under way any more
    pub stop_counts : (gone : Bool) (new : List (List ℕ)) → IsUncounted rows (pairs_to_step (do_conflict table) net (numbered i rows).running) gone counts new → TellCounts (tables table net (running None)) new
    stop_counts gone new = less_counts was (tables table net (running None)) (same_numbers None i rows) (pairs_to_step (do_conflict table) net (numbered i rows).running) gone counts new
        (stop_pairs (numbered i rows).running refl) tells.0

    pub stop_walks : (gone : Bool) (new : List (List ℕ)) → IsUncounted rows (pairs_to_step (do_conflict table) net (numbered i rows).running) gone counts new
        → AreTidy (tables table net (running None)) → gone ≡ false → TellWalks (tables table net (running None)) walks
    stop_walks gone new off tidy_now kept = less_walks was (tables table net (running None)) (same_numbers None i rows) (pairs_to_step (do_conflict table) net (numbered i rows).running) gone counts new
        (stop_pairs (numbered i rows).running refl) tells.0 off tidy_was tidy_now kept walks tells.1

    -- the last entry went, as its undo took effect
    undone_pairs : (e : Entry) → (numbered i rows).running ≡ Some e → e.undo ≡ true → (j k : ℕ)
        → pairs_in was j k ≡ pairs_in (tables table (without_last i net) (running None)) j k + pairs_of_last (do_conflict table) (steps_under_way rows) i net j k
    undone_pairs e under undo j k =
        let same = ap (λ es. pairs_from (do_conflict table) es (without_last i net) j k) (steps_left i rows e has under undo) in
        let all = with_last (do_conflict table) (steps_under_way rows) i j k net in
        omega (arith, same, all)

    module _ (e : Entry) (under : (numbered i rows).running ≡ Some e) (undo : e.undo ≡ true) (gone : Bool) (new : List (List ℕ))
        (off : IsUncounted rows (pairs_of_last (do_conflict table) (steps_under_way rows) i net) gone counts new) where
      pub undone_counts : TellCounts (tables table (without_last i net) (running None)) new
      undone_counts = less_counts was (tables table (without_last i net) (running None)) (same_numbers None i rows) (pairs_of_last (do_conflict table) (steps_under_way rows) i net) gone counts new
          (undone_pairs e under undo) tells.0 off

      pub undone_walks : AreTidy (tables table (without_last i net) (running None)) → gone ≡ false → TellWalks (tables table (without_last i net) (running None)) walks
      undone_walks tidy_now kept = less_walks was (tables table (without_last i net) (running None)) (same_numbers None i rows) (pairs_of_last (do_conflict table) (steps_under_way rows) i net) gone counts new
          (undone_pairs e under undo) tells.0 off tidy_was tidy_now kept walks tells.1

-- a change that leaves the net, the numbers and what is under way
pub graph_stood : (f : OpenProcess → OpenProcess) (i : ℕ) (table : Table) (net : List Entry) (rows : List OpenProcess) (counts : List (List ℕ)) (walks : List (List Bool)) (at : ℕ) (before after : OpenProcess) (t : Tables)
    → tables table net rows ≡ t → is_open t i ≡ true → at ≡ place_of i rows → before ≡ slice_index_or rows at before → after ≡ f before
    → KeepsRunning f → TellBoth (tables table net rows) counts walks → TellBoth (tables table net (slice_set rows at after)) counts walks
graph_stood f i table net rows counts walks at before after t view opened at_is before_is after_is keeps tells =
    let has : has_number i rows ≡ true = subst (λ t. is_open t i ≡ true) (sym view) opened in (
      subst (λ rows. TellCounts (tables table net rows) counts) (sym (row_changed f i rows at before after has at_is before_is after_is))
          (same_counts (tables table net rows) (tables table net (change_numbered f i rows)) (numbers f keeps i rows) counts tells.0
          (λ j k. ap (λ es. pairs_from (do_conflict table) (filter (λ (e : Entry). not e.undo) es) net j k) (under_way f keeps i rows))),
      walks_stood f i table net rows walks at before after t view opened at_is before_is after_is keeps tells.1,
    )

-- what is said of the lists that a slice lends is said of the lists
pub graph_lent : (table : Table) (net lent_net : List Entry) (rows lent_rows : List OpenProcess) (counts : List (List ℕ)) (walks : List (List Bool)) → lent_rows ≡ rows → lent_net ≡ net
    → TellBoth (tables table lent_net lent_rows) counts walks → TellBoth (tables table net rows) counts walks
graph_lent table net lent_net rows lent_rows counts walks same_rows same_net tells =
    subst (λ rs. TellBoth (tables table net rs) counts walks) same_rows (subst (λ es. TellBoth (tables table es lent_rows) counts walks) same_net tells)

-- and so is what was taken off the counts
pub uncounted_lent : (rows lent_rows : List OpenProcess) (taken lent_taken : Pairs) (gone : Bool) (old new : List (List ℕ)) → lent_rows ≡ rows → lent_taken ≡ taken
    → IsUncounted lent_rows lent_taken gone old new → IsUncounted rows taken gone old new
uncounted_lent rows lent_rows taken lent_taken gone old new same_rows same_taken off =
    subst (λ rs. IsUncounted rs taken gone old new) same_rows (subst (λ ps. IsUncounted lent_rows ps gone old new) same_taken off)

-- an undo is one of an entry
pub undo_of : (o : Option Entry) → undoes o ≡ true → (e : Entry) × (o ≡ Some e) × (e.undo ≡ true)
undo_of None is = absurd (false≢true is)
undo_of (Some e) is = (e, refl, is)
