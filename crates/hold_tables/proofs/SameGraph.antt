-- Tables of the same processes: where the arrows are the same, the walks are, and what a change of what is under way does to the steps.
use Rattle.std.proofs.Common.{◌≡◌, ◌≤◌, ℕ, Bool, true, false, not, ◌||◌, List, [], ◌∷◌, ◌++◌, map, Option, Some, None, sym, refl, ap, ◌∙◌, subst, append_assoc}
use Rattle.std.specs.Prelude.{IsTrue, nat_eq, if◌then◌else◌}
use Rattle.std.proofs.lemmas.Bool.{false≢true}
use Rattle.process_tree.specs.declared.entry.Entry.{Entry}
use Rattle.process_tree.specs.Conflicts.{do_conflict}
use Rattle.schedule_model.specs.Graph.{Arrow, Walk, one_arrow, and_then}
use Rattle.schedule_model.specs.Histories.{is_in}
use Rattle.schedule_model.specs.Holdings.{arrow, holders, reaches}
use Rattle.schedule_model.proofs.Walks.{leads-from_walk, walk-from_leads}
use Rattle.hold_tables.specs.Tables.{OpenProcess, Tables, has_number, holdings_of, is_open, numbered}
use Rattle.hold_tables.specs.Changes.{change_numbered, with_running}
use Rattle.hold_tables.specs.Kept.{AreTidy}
use Rattle.hold_tables.specs.Arrows.{arrows_in}
use Rattle.hold_tables.specs.Places.{place_of}
use Rattle.hold_tables.specs.Walks.{TellWalks, step_of, steps_under_way}
use Rattle.bit_rows.specs.Cells.{cell}
use Rattle.hold_tables.proofs.Arrows.{steps_first}
use Rattle.hold_tables.proofs.Reaching.{graph-is, holder-number, number-holder, same_truth}
use Rattle.hold_tables.proofs.WalksStay.{same_count, same_open, same_places}

-- an undo is no step, and what isn't an undo is
pub undo_no_step : (e : Entry) → e.undo ≡ true → step_of (Some e) ≡ []
undo_no_step e is = ap (λ b. if not b then e ∷ [] else []) is

pub step_is : (e : Entry) → e.undo ≡ false → step_of (Some e) ≡ e ∷ []
step_is e is = ap (λ b. if not b then e ∷ [] else []) is

-- the steps under way before and behind that of process i
pub record IsStepSplit (i : ℕ) (rows : List OpenProcess) : Type 0 where
  pub front : List Entry
  pub back : List Entry
  pub was : steps_under_way rows ≡ front ++ (step_of (numbered i rows).running ++ back)
  pub now : (o : Option Entry) → steps_under_way (change_numbered (with_running o) i rows) ≡ front ++ (step_of o ++ back)

split_later : (i : ℕ) (r : OpenProcess) (rows : List OpenProcess) → nat_eq r.process i ≡ false → IsStepSplit i rows → IsStepSplit i (r ∷ rows)
split_later i r rows is found = record {
  front = step_of r.running ++ found.front;
  back = found.back;
  was = rw is (steps_first r rows ∙ ap (step_of r.running ++◌) found.was ∙ sym (append_assoc (step_of r.running) found.front (step_of (numbered i rows).running ++ found.back)));
  now = λ o. rw is (steps_first r (change_numbered (with_running o) i rows) ∙ ap (step_of r.running ++◌) (found.now o) ∙ sym (append_assoc (step_of r.running) found.front (step_of o ++ found.back)));
}

pub split_steps : (i : ℕ) (rows : List OpenProcess) → has_number i rows ≡ true → IsStepSplit i rows
split_steps i [] has = absurd (false≢true has)
split_steps i (r ∷ rows) has = by (nat_eq r.process i) refl (split_steps i rows)
  where
    by : (b : Bool) → nat_eq r.process i ≡ b → (has_number i rows ≡ true → IsStepSplit i rows) → IsStepSplit i (r ∷ rows)
    by true is rest = record {
      front = [];
      back = steps_under_way rows;
      was = rw is (steps_first r rows);
      now = λ o. rw is (steps_first (with_running o r) rows);
    }
    by false is rest = split_later i r rows is (rest (subst (λ b. (b || has_number i rows) ≡ true) is has))

-- each arrow of the one tables is one of the others
abbrev pub Follows : Tables → Tables → Type 0
Follows t u = (j k : ℕ) → is_open t k ≡ true → arrows_in t j k ≡ true → (is_open u k ≡ true) × (arrows_in u j k ≡ true)

abbrev pub graph_of : Tables → Arrow
graph_of t = arrow (do_conflict t.conflicts) (holdings_of t)

module _ (t u : Tables) (tidy_t : AreTidy t) (tidy_u : AreTidy u) (follows : Follows t u) where
  one_on : (j k : ℕ) → IsTrue (is_in k (holders (holdings_of t))) → IsTrue (graph_of t j k) → IsTrue (is_in k (holders (holdings_of u))) × IsTrue (graph_of u j k)
  one_on j k among a =
      let found = follows j k (number-holder k t.net t.processes among) (sym (graph-is t tidy_t j k) ∙ a) in
      (holder-number k u.net u.processes found.0, graph-is u tidy_u j k ∙ found.1)

  walk_over : {i k : ℕ} → Walk (graph_of t) (holders (holdings_of t)) i k → Walk (graph_of u) (holders (holdings_of u)) i k
  walk_over {i} {k} (one_arrow among a) = let found = one_on i k among a in one_arrow found.0 found.1
  walk_over {i} {k} (and_then {j = j} walk among a) = let found = one_on j k among a in and_then (walk_over walk) found.0 found.1

  -- then a walk of the one is a walk of the others
  pub reach_over : (i k : ℕ) → reaches (do_conflict t.conflicts) (holdings_of t) i k ≡ true → reaches (do_conflict u.conflicts) (holdings_of u) i k ≡ true
  reach_over i k is = leads-from_walk (graph_of u) (holders (holdings_of u)) (walk_over (walk-from_leads (graph_of t) (holders (holdings_of t)) i k is))

-- where the arrows of each are arrows of the other, walks lead to the same
pub same_reach : (t u : Tables) → AreTidy t → AreTidy u → Follows t u → Follows u t → (i k : ℕ)
    → reaches (do_conflict t.conflicts) (holdings_of t) i k ≡ reaches (do_conflict u.conflicts) (holdings_of u) i k
same_reach t u tidy_t tidy_u there back i k =
    same_truth (reaches (do_conflict t.conflicts) (holdings_of t) i k) (reaches (do_conflict u.conflicts) (holdings_of u) i k) (reach_over t u tidy_t tidy_u there i k) (reach_over u t tidy_u tidy_t back i k)

-- the numbers of the processes
abbrev pub numbers_of : List OpenProcess → List ℕ
numbers_of rows = map (λ (r : OpenProcess). r.process) rows

-- tables of the same processes and the same arrows have the same walks
pub same_walks : (t u : Tables) (marks : List (List Bool)) → AreTidy t → AreTidy u → numbers_of u.processes ≡ numbers_of t.processes
    → Follows t u → Follows u t → TellWalks t marks → TellWalks u marks
same_walks t u marks tidy_t tidy_u same there back tells =
    let count = same_count u.processes t.processes same in
    let same_number = same_open u.processes t.processes same in
    record {
      rows = (tells.rows.0 ∙ sym count, subst (λ n. n ≤ 256) (sym count) tells.rows.1);
      tell = λ j k from to.
          ap (λ a. cell marks a (place_of k u.processes)) (same_places u.processes t.processes same j) ∙ ap (cell marks (place_of j t.processes)) (same_places u.processes t.processes same k)
          ∙ tells.tell j k (sym (same_number j) ∙ from) (sym (same_number k) ∙ to)
          ∙ same_reach t u tidy_t tidy_u there back j k;
    }

pub same_numbers : (o : Option Entry) (i : ℕ) (rows : List OpenProcess) → numbers_of (change_numbered (with_running o) i rows) ≡ numbers_of rows
same_numbers o i [] = refl
same_numbers o i (r ∷ rows) = by (nat_eq r.process i) refl (same_numbers o i rows)
  where
    by : (b : Bool) → nat_eq r.process i ≡ b → numbers_of (change_numbered (with_running o) i rows) ≡ numbers_of rows → numbers_of (change_numbered (with_running o) i (r ∷ rows)) ≡ numbers_of (r ∷ rows)
    by true is rest = rw is refl
    by false is rest = rw is (ap (r.process ∷◌) rest)

-- an undo leaves the steps that are under way
pub steps_left : (i : ℕ) (rows : List OpenProcess) (e : Entry) → has_number i rows ≡ true → (numbered i rows).running ≡ Some e → e.undo ≡ true
    → steps_under_way (change_numbered (with_running None) i rows) ≡ steps_under_way rows
steps_left i rows e has under undo =
    let split = split_steps i rows has in
    split.now None ∙ sym (split.was ∙ ap (λ o. split.front ++ (step_of o ++ split.back)) under ∙ ap (λ es. split.front ++ (es ++ split.back)) (undo_no_step e undo))
