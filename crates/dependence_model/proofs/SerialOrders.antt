-- What is left of a list that isn't barred is brought into each serial order by exchanges, and the list before it by cancels.
use Rattle.std.proofs.Common.{◌≡◌, ◌⊎◌, inl, inr, ⊎_elim, ℕ, ◌+◌, Bool, true, false, not, cond, eqb, ◌||◌, ◌&&◌, List, [], ◌∷◌, ◌++◌, length, Some, None, sym, refl, ap, ◌∙◌, subst}
use Rattle.std.specs.List.{list_any}
use Rattle.std.specs.Bool.{IsTrue}
use Rattle.std.specs.Prelude.{is_none}
use Rattle.std.proofs.Math.Bool.{and-false}
use Rattle.std.proofs.lemmas.Bool.{and_from, or_parts, eqb-true, eq-eqb, false≢true}
use Rattle.process_tree.specs.declared.entry.Entry.{Entry}
use Rattle.schedule_model.specs.Conflict.{ConflictRelation, IsSymmetric, conflict}
use Rattle.schedule_model.specs.Graph.{Arrow}
use Rattle.schedule_model.specs.Histories.{after_number, is_in, of_process}
use Rattle.schedule_model.specs.Reduction.{AreReduced, is_out_of_place, not_serial_from, is_serial}
use Rattle.schedule_model.specs.PrintedTrace.{serial_phase}
use Rattle.schedule_model.proofs.Chains.{reduced-append, applied-steps_reduce}
use Rattle.schedule_model.proofs.Members.{Among, among-filter, among-map, in_map, any-among, not_any, is_in-among}
use Rattle.schedule_model.proofs.SerialPhase.{Distinct, AllOf, LaterFree, orders}
use Rattle.dependence_model.specs.declared.placed.Placed.{Placed}
use Rattle.dependence_model.specs.Dependence.{entries_of, left_of, must_precede, processes_of, is_barred}
use Rattle.dependence_model.specs.SerialOrder.{AreDistinct, Respects, IsSerialOrder, one_by_one, order_of}
use Rattle.dependence_model.specs.Laws.{AreOnce, SerialOrdersAreReached, SerialListIsReached}
use Rattle.dependence_model.proofs.Once.{none-among}
use Rattle.dependence_model.proofs.Bubbles.{all-reduces}
use Rattle.dependence_model.proofs.Rounds.{clashes_with, precedes, precedes-entries, barred-entries}
use Rattle.dependence_model.proofs.Verdicts.{leaves-left}
use Rattle.dependence_model.proofs.Orders.{order-computed}

-- One process after another is serial.

-- no entry of process i is among these, or the last is of it; the last stands first
abbrev Fits : ℕ → List Entry → Type 0
Fits i before = ((x : Entry) × (xs : List Entry) × (before ≡ x ∷ xs) × (x.process ≡ i)) ⊎ ((e : Entry) → Among e before → eqb e.process i ≡ false)

in-place : (i : ℕ) (before : List Entry) (e : Entry) → e.process ≡ i → e.undo ≡ false → Fits i before → is_out_of_place before e ≡ false
in-place i [] e own is_step fits = is_step
in-place i (x ∷ xs) e own is_step (inl last) =
    let same : x ≡ last.0 = (let both : x ∷ xs ≡ last.0 ∷ last.1 = last.2 in cc) in
    ap (λ u. u || (not (eqb x.process e.process) && list_any (λ y. eqb y.process e.process) xs)) is_step
    ∙ ap (λ t. not t && list_any (λ y. eqb y.process e.process) xs) (eq-eqb x.process e.process (ap (λ (f : Entry). f.process) same ∙ (last.3 ∙ sym own)))
in-place i (x ∷ xs) e own is_step (inr other) =
    ap (λ u. u || (not (eqb x.process e.process) && list_any (λ y. eqb y.process e.process) xs)) is_step
    ∙ (ap (λ t. not (eqb x.process e.process) && t) (not_any (λ y. eqb y.process e.process) xs (λ y is. ap (eqb y.process) own ∙ other y (inr is)))
    ∙ and-false (not (eqb x.process e.process)))

-- what follows the entries of process i is serial behind all that has such entries in front
abbrev IsSerialBehind : ℕ → List Entry → List Entry → Type 0
IsSerialBehind i before rest = (n : ℕ) (seen : List Entry) → ((e : Entry) → Among e seen → Among e before ⊎ (e.process ≡ i)) → not_serial_from n seen rest ≡ None

own-entries : (i : ℕ) (bs rest : List Entry) → ((b : Entry) → Among b bs → (b.process ≡ i) × (b.undo ≡ false)) → (n : ℕ) (before : List Entry) → Fits i before
    → IsSerialBehind i before rest → not_serial_from n before (bs ++ rest) ≡ None
own-entries i [] rest each n before fits behind = behind n before (λ e is. inl is)
own-entries i (b ∷ bs) rest each n before fits behind =
    let own = each b (inl refl) in
    ap (λ t. cond t (Some n) (not_serial_from (n + 1) (b ∷ before) (bs ++ rest))) (in-place i before b own.0 own.1 fits)
    ∙ own-entries i bs rest (λ c is. each c (inr is)) (n + 1) (b ∷ before) (inl (b, before, refl, own.0))
    (λ m seen from. behind m seen (λ e is. ⊎_elim (λ there. ⊎_elim (λ here. inr (sym (ap (λ (f : Entry). f.process) here) ∙ own.0)) (λ later. inl later) there) (λ own'. inr own') (from e is)))

serial-blocks : (order : List ℕ) → AreDistinct order → (es : List Entry) → ((e : Entry) → Among e es → e.undo ≡ false)
    → (n : ℕ) (before : List Entry) → ((e : Entry) → Among e before → is_in e.process order ≡ false) → not_serial_from n before (one_by_one order es) ≡ None
serial-blocks [] distinct es steps n before away = refl
serial-blocks (i ∷ order) distinct es steps n before away =
    own-entries i (of_process i es) (one_by_one order es)
    (λ b is. let found = among-filter (λ (f : Entry). eqb f.process i) b es is in (eqb-true b.process i found.1, steps b found.0))
    n before (inr (λ e is. (or_parts (eqb e.process i) (is_in e.process order) (away e is)).0))
    (λ m seen from. serial-blocks order distinct.1 es steps m seen
    (λ e is. ⊎_elim (λ there. (or_parts (eqb e.process i) (is_in e.process order) (away e there)).1) (λ own. ap (λ k. is_in k order) own ∙ distinct.0) (from e is)))

-- The serial phase needs no more than a serial order has.

distinct-order : (order : List ℕ) → AreDistinct order → Distinct order
distinct-order [] distinct = tt
distinct-order (i ∷ order) distinct = (distinct.0, distinct-order order distinct.1)

-- no arrow leads from one that stands behind i to i
respects-after : (arrow : Arrow) (order : List ℕ) → Respects arrow order → (i k : ℕ) → IsTrue (is_in k (after_number i order)) → arrow k i ≡ false
respects-after arrow [] respects i k later = absurd (false≢true later)
respects-after arrow (h ∷ order) respects i k later = by_number (eqb i h) refl later (λ rest. respects-after arrow order respects.1 i k rest)
  where
    by_number : (t : Bool) → eqb i h ≡ t → IsTrue (is_in k (cond t order (after_number i order))) → (IsTrue (is_in k (after_number i order)) → arrow k i ≡ false) → arrow k i ≡ false
    by_number true same later rest = ap (arrow k) (eqb-true i h same) ∙ respects.0 k later
    by_number false other later rest = rest later

module _ (table : ConflictRelation) where
  later-free : (order : List ℕ) (es : List Entry) → ((i k : ℕ) → IsTrue (is_in k (after_number i order)) → precedes table es k i ≡ false) → LaterFree table order es
  later-free order [] none = tt
  later-free order (a ∷ es) none = (
    λ x is later. by_test x is (or_parts (eqb a.process a.process && clashes_with table x.process a es) (precedes table es a.process x.process) (none x.process a.process later)).0 (conflict table a x) refl,
    later-free order es (λ i k later. (or_parts (eqb a.process k && clashes_with table i a es) (precedes table es k i) (none i k later)).1),
  )
    where
      by_test : (x : Entry) → Among x es → (eqb a.process a.process && clashes_with table x.process a es) ≡ false → (t : Bool) → conflict table a x ≡ t → conflict table a x ≡ false
      by_test x is none' false free = free
      by_test x is none' true clash =
          let does : (eqb a.process a.process && clashes_with table x.process a es) ≡ true =
          and_from (eqb a.process a.process) (clashes_with table x.process a es) (eq-eqb a.process a.process refl)
          (any-among (λ y. eqb y.process x.process && conflict table a y) x es is (and_from (eqb x.process x.process) (conflict table a x) (eq-eqb x.process x.process refl) clash)) in
          absurd (false≢true (sym none' ∙ does))

  module _ (es : List Entry) (symmetric : IsSymmetric table) (once : AreOnce es) (free : is_barred table es ≡ false) (order : List ℕ) (is : IsSerialOrder table (left_of table es) order) where
    abbrev rest : List Entry
    rest = entries_of (left_of table es)

    steps-left : (e : Entry) → Among e rest → e.undo ≡ false
    steps-left e in' = none-among (λ (f : Entry). f.undo) e rest (sym (barred-entries table es) ∙ free) in'

    all-in_order : AllOf order rest
    all-in_order e in' =
        let found = among-map (λ (x : Placed). x.entry) e (left_of table es) in' in
        is.has_all e.process
        (is_in-among e.process (processes_of (left_of table es))
        (subst (λ (f : Entry). Among f.process (processes_of (left_of table es))) found.2 (in_map (λ (x : Placed). x.entry.process) found.0 (left_of table es) found.1)))

    reaches : AreReduced table es (one_by_one order rest)
    reaches =
        let phase = orders table order (distinct-order order is.distinct) rest all-in_order
        (later-free order rest (λ i k later. sym (precedes-entries table (left_of table es) k i) ∙ respects-after (must_precede table (left_of table es)) order is.respects i k later)) [] 1 refl in
        reduced-append table (all-reduces table symmetric (leaves-left table es once).takes)
        (applied-steps_reduce table (serial_phase (length rest) order 1 rest).steps rest (one_by_one order rest) phase.0)

    serial : IsTrue (is_serial (one_by_one order rest))
    serial = ap is_none (serial-blocks order is.distinct rest steps-left 1 [] (λ e in'. absurd in'))

pub serial_orders-reached : SerialOrdersAreReached
serial_orders-reached table es order symmetric once free is = (reaches table es symmetric once free order is, serial table es symmetric once free order is)

pub serial_list-reached : SerialListIsReached
serial_list-reached table es symmetric once free none =
    serial_orders-reached table es (order_of table (left_of table es)) symmetric once free (order-computed table es none)
