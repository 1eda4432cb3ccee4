-- What the marks tell is where walks of the conflict graph lead.
use Rattle.std.proofs.Common.{◌≡◌, ◌⊎◌, inl, inr, ℕ, Bool, true, false, not, ◌||◌, List, [], ◌∷◌, ◌++◌, filter, map, sym, refl, ap, ◌∙◌, subst, append_assoc}
use Rattle.std.specs.Prelude.{IsTrue, nat_eq, IfSome, Option, Some, None}
use Rattle.std.specs.List.{list_any}
use Rattle.std.proofs.lemmas.Bool.{eq-eqb, eqb-true, or_left, or_right, or_cases, false≢true}
use Rattle.process_tree.specs.declared.entry.Entry.{Entry}
use Rattle.process_tree.specs.Conflicts.{Table, do_conflict}
use Rattle.process_tree.specs.Order.{Each}
use Rattle.schedule_model.specs.Histories.{is_in}
use Rattle.schedule_model.specs.Conflict.{ConflictRelation}
use Rattle.schedule_model.specs.Holdings.{active_net, arrow, behind, holders, running_steps}
use Rattle.schedule_model.specs.Graph.{Arrow, Walk, one_arrow, and_then}
use Rattle.schedule_model.proofs.Apart.{Apart}
use Rattle.hold_tables.specs.Tables.{OpenProcess, Tables, has_number, hold_in, holdings_of, is_open}
use Rattle.hold_tables.specs.Changes.{can_come}
use Rattle.hold_tables.specs.Kept.{AreTidy, IsKnown, IsTidy}
use Rattle.hold_tables.specs.Walks.{IsPlaced, IsPlacedIf, arrows_by, arrows_from, steps_under_way}
use Rattle.hold_tables.proofs.Least.{all_running-is}
use Rattle.hold_tables.proofs.Standing.{behind-rest, net_apart}
use Rattle.hold_tables.proofs.Tidy.{each_entry}

-- the numbers of the processes are those of the holders
pub holder-number : (k : ℕ) (net : List Entry) (rows : List OpenProcess) → has_number k rows ≡ true → IsTrue (is_in k (map (λ o. o.process) (map (hold_in net) rows)))
holder-number k net [] has = absurd cc
holder-number k net (r ∷ rows) has = by (nat_eq r.process k) refl (holder-number k net rows)
  where
    by : (b : Bool) → nat_eq r.process k ≡ b → (has_number k rows ≡ true → IsTrue (is_in k (map (λ o. o.process) (map (hold_in net) rows)))) → IsTrue (is_in k (map (λ o. o.process) (map (hold_in net) (r ∷ rows))))
    by true is rest = or_left (nat_eq k r.process) (is_in k (map (λ o. o.process) (map (hold_in net) rows))) (eq-eqb k r.process (sym (eqb-true r.process k is)))
    by false is rest = or_right (nat_eq k r.process) (is_in k (map (λ o. o.process) (map (hold_in net) rows))) (rest (subst (λ b. (b || has_number k rows) ≡ true) is has))

pub number-holder : (k : ℕ) (net : List Entry) (rows : List OpenProcess) → IsTrue (is_in k (map (λ o. o.process) (map (hold_in net) rows))) → has_number k rows ≡ true
number-holder k net [] is = absurd (false≢true is)
number-holder k net (r ∷ rows) is = by (or_cases (nat_eq k r.process) (is_in k (map (λ o. o.process) (map (hold_in net) rows))) is) (number-holder k net rows)
  where
    by : (nat_eq k r.process ≡ true) ⊎ (is_in k (map (λ o. o.process) (map (hold_in net) rows)) ≡ true)
        → (IsTrue (is_in k (map (λ o. o.process) (map (hold_in net) rows))) → has_number k rows ≡ true) → has_number k (r ∷ rows) ≡ true
    by (inl here) rest = or_left (nat_eq r.process k) (has_number k rows) (eq-eqb r.process k (sym (eqb-true k r.process here)))
    by (inr later) rest = or_right (nat_eq r.process k) (has_number k rows) (rest later)

pub all_pass : (p : Entry → Bool) (es : List Entry) → Each (λ e. p e ≡ true) es → filter p es ≡ es
all_pass p [] each = refl
all_pass p (e ∷ es) each = rw each.0 (ap (e ∷◌) (all_pass p es each.1))

-- every net entry is of an open process
pub active_net-is : (t : Tables) → Each (λ e. is_open t e.process ≡ true) t.net → active_net (holdings_of t) ≡ t.net
active_net-is t each = all_pass (λ e. is_in e.process (holders (holdings_of t))) t.net (each_entry t.net (λ e is. holder-number e.process t.net t.processes is) each)

-- the steps that are under way are those of the rows
pub running_steps-is : (t : Tables) → running_steps (holdings_of t) ≡ steps_under_way t.processes
running_steps-is t = ap (filter (λ (e : Entry). not e.undo)) (all_running-is t.net t.processes)

-- each entry and what stands behind it, one after another
arrows-are : (table : ConflictRelation) (running net : List Entry) (i k : ℕ) (front es : List Entry) → net ≡ front ++ es → Apart net
    → list_any (λ x. arrows_by table x (behind x net ++ running) i k) es ≡ arrows_from table running es i k
arrows-are table running net i k front [] is apart = refl
arrows-are table running net i k front (x ∷ es) is apart =
    let rest : behind x net ≡ es = ap (behind x) is ∙ behind-rest front x es (subst Apart is apart) in
    ap (λ ys. arrows_by table x (ys ++ running) i k || list_any (λ x. arrows_by table x (behind x net ++ running) i k) es) rest
    ∙ ap (arrows_by table x (es ++ running) i k ||◌) (arrows-are table running net i k (front ++ x ∷ []) es (is ∙ sym (append_assoc front (x ∷ []) es)) apart)

-- the arrows of the conflict graph
pub graph-is : (t : Tables) → AreTidy t → (i k : ℕ) → arrow (do_conflict t.conflicts) (holdings_of t) i k ≡ arrows_from (do_conflict t.conflicts) (steps_under_way t.processes) t.net i k
graph-is t tidy i k =
    let table = do_conflict t.conflicts in
    ap (λ (es : List Entry). list_any (λ x. arrows_by table x (behind x es ++ running_steps (holdings_of t)) i k) es) (active_net-is t tidy.of_open)
    ∙ ap (λ (running : List Entry). list_any (λ x. arrows_by table x (behind x t.net ++ running) i k) t.net) (running_steps-is t)
    ∙ arrows-are table (steps_under_way t.processes) t.net i k [] t.net refl (net_apart t tidy)

-- a walk after another is a walk
pub walk_on : (arrow : Arrow) (all : List ℕ) {i j k : ℕ} → Walk arrow all i j → Walk arrow all j k → Walk arrow all i k
walk_on arrow all first (one_arrow among a) = and_then first among a
walk_on arrow all first (and_then then among a) = and_then (walk_on arrow all first then) among a

pub same_truth : (a b : Bool) → (a ≡ true → b ≡ true) → (b ≡ true → a ≡ true) → a ≡ b
same_truth true b there back = sym (there refl)
same_truth false true there back = back refl
same_truth false false there back = refl

-- both of what is true of each
each_both : {A : Type 0} (P Q : A → Type 0) (xs : List A) → Each P xs → Each Q xs → Each (λ x. P x × Q x) xs
each_both P Q [] ps qs = tt
each_both P Q (x ∷ xs) ps qs = ((ps.0, qs.0), each_both P Q xs ps.1 qs.1)

-- the net entries of tidy tables are of open processes and of operations of the table
pub placed_net : (t : Tables) → AreTidy t → Each (IsPlaced t.conflicts t.processes) t.net
placed_net t tidy = each_both (IsKnown t.conflicts) (λ e. has_number e.process t.processes ≡ true) t.net tidy.known tidy.of_open

-- each process is among them
pub numbers_listed : (rows : List OpenProcess) → Each (λ (r : OpenProcess). has_number r.process rows ≡ true) rows
numbers_listed [] = tt
numbers_listed (r ∷ rows) = (
  or_left (nat_eq r.process r.process) (has_number r.process rows) (eq-eqb r.process r.process refl),
  each_entry rows (λ (s : OpenProcess) is. or_right (nat_eq r.process s.process) (has_number s.process rows) is) (numbers_listed rows),
)

placed_one : (table : Table) (es : List Entry) (rows : List OpenProcess) (r : OpenProcess) (o : Option Entry) → has_number r.process rows ≡ true
    → IfSome o (λ e. (e.process ≡ r.process) × (can_come es r e ≡ true) × IsKnown table e) → IsPlacedIf table rows o
placed_one table es rows r None has is = tt
placed_one table es rows r (Some e) has is = (is.2, ap (λ k. has_number k rows) is.0 ∙ has)

-- and so is what is under way
pub placed_running : (t : Tables) → AreTidy t → Each (λ (r : OpenProcess). IsPlacedIf t.conflicts t.processes r.running) t.processes
placed_running t tidy =
    each_entry t.processes (λ (r : OpenProcess) both. placed_one t.conflicts _ t.processes r r.running both.1 both.0.running)
    (each_both (IsTidy t.conflicts t.net) (λ (r : OpenProcess). has_number r.process t.processes ≡ true) t.processes tidy.tidy (numbers_listed t.processes))
