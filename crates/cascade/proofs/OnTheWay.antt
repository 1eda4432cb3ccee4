-- A set on the way to the cascade: it begins with the root, grows by whom one more process drags along, and is the cascade at last.
use Rattle.std.proofs.Common.{◌≡◌, ◌⊎◌, inl, inr, ℕ, zero, suc, ◌<◌, Bool, true, false, not, ◌||◌, ◌&&◌, List, [], ◌∷◌, ◌++◌, length, filter, flat_map, Option, Some, None, sym, refl, ap, subst, ◌∙◌, arith, get_or-set_same, get_or-set_other}
use Rattle.std.specs.Prelude.{nat_eq, slice_index_or, slice_set, IsTrue}
use Rattle.std.specs.List.{list_any}
use Rattle.std.specs.Option.{option_to_list}
use Rattle.std.proofs.lemmas.Bool.{and_parts, eqb-true, eqb-false, false≢true, or_cases, or_left, or_right}
use Rattle.process_tree.specs.declared.entry.Entry.{Entry}
use Rattle.process_tree.specs.Conflicts.{do_conflict}
use Rattle.process_tree.specs.Order.{Each}
use Rattle.schedule_model.specs.Conflict.{conflict}
use Rattle.schedule_model.specs.Histories.{is_in}
use Rattle.schedule_model.specs.Holdings.{behind, holders, running_steps}
use Rattle.schedule_model.proofs.Behind.{among_behind}
use Rattle.schedule_model.proofs.Members.{Among, among-any, among-append, among-filter}
use Rattle.machine_model.specs.Cascade.{drags, takes_back_all}
use Rattle.hold_tables.specs.Tables.{OpenProcess, Tables, holdings_of, is_open, running_of}
use Rattle.hold_tables.specs.Kept.{AreTidy}
use Rattle.hold_tables.specs.Walks.{IsPlacedIf, steps_under_way}
use Rattle.hold_tables.proofs.Reaching.{holder-number, placed_net, placed_running, running_steps-is}
use Rattle.hold_tables.proofs.Tidy.{each_entry, each_numbered}
use Rattle.cascade.specs.declared.marks.Mark.{Mark}
use Rattle.cascade.specs.declared.marks.Mark.TheVariants.{Out, Done}
use Rattle.cascade.specs.Sets.{IsMarked, done, is_done, is_marked, marked}
use Rattle.cascade.specs.Walking.{IsOnTheWay, IsWithin, drags_from, has_hit, last_entries, staying}
use Rattle.cascade.proofs.Dragged.{drags-is}

-- what is true of each is true of one of them
each-among : {A : Type 0} (P : A → Type 0) (xs : List A) (x : A) → Each P xs → Among x xs → P x
each-among P [] x each is = absurd is
each-among P (y ∷ xs) x each (inl here) = subst P here each.0
each-among P (y ∷ xs) x each (inr later) = each-among P xs x each.1 later

-- what is under way is of open processes
step_open : (t : Tables) (rows : List OpenProcess) → Each (λ (r : OpenProcess). IsPlacedIf t.conflicts t.processes r.running) rows → (y : Entry) → Among y (flat_map running_of rows) → is_open t y.process ≡ true
step_open t [] placed y is = absurd is
step_open t (r ∷ rows) placed y is = by_part (among-append y (running_of r) (flat_map running_of rows) is) (step_open t rows placed.1 y)
  where
    by_option : (o : Option Entry) → IsPlacedIf t.conflicts t.processes o → Among y (option_to_list o) → is_open t y.process ≡ true
    by_option None at here = absurd here
    by_option (Some e) at (inl same) = subst (λ (z : Entry). is_open t z.process ≡ true) same at.1
    by_option (Some e) at (inr none) = absurd none

    by_part : Among y (running_of r) ⊎ Among y (flat_map running_of rows) → (Among y (flat_map running_of rows) → is_open t y.process ≡ true) → is_open t y.process ≡ true
    by_part (inl here) rest = by_option r.running placed.0 here
    by_part (inr later) rest = rest later

-- whoever is dragged along is open
dragged_open : (t : Tables) (root count j k : ℕ) → AreTidy t → drags (do_conflict t.conflicts) (holdings_of t) root (last_entries t root count) j k ≡ true → is_open t k ≡ true
dragged_open t root count j k tidy is =
    let table = do_conflict t.conflicts in
    let found = among-any (λ (x : Entry). has_hit table x (behind x t.net ++ running_steps (holdings_of t)) k) (takes_back_all (holdings_of t) root (last_entries t root count) j) is in
    let hit = among-any (λ (y : Entry). nat_eq y.process k && conflict table found.0 y) (behind found.0 t.net ++ running_steps (holdings_of t)) found.2 in
    let own = eqb-true (hit.0).process k (and_parts (nat_eq (hit.0).process k) (conflict table found.0 hit.0) hit.2).0 in
    subst (λ n. is_open t n ≡ true) own (by_part found.0 hit.0 (among-append hit.0 (behind found.0 t.net) (running_steps (holdings_of t)) hit.1))
  where
    by_part : (x y : Entry) → Among y (behind x t.net) ⊎ Among y (running_steps (holdings_of t)) → is_open t y.process ≡ true
    by_part x y (inl back) = each-among (λ (e : Entry). is_open t e.process ≡ true) t.net y tidy.of_open (among_behind x y t.net back)
    by_part x y (inr runs) = step_open t t.processes (placed_running t tidy) y (among-filter (λ (e : Entry). not e.undo) y (flat_map running_of t.processes) (subst (Among y) (running_steps-is t) runs)).0

-- a process that waits is looked at
module _ (marks : List Mark) (next : ℕ) (within : next < length marks) where
  at_next : slice_index_or (slice_set marks next Done) next Out ≡ Done
  at_next = get_or-set_same marks next Done Out within

  pub looked_marked : marked marks next ≡ true → (k : ℕ) → marked (slice_set marks next Done) k ≡ marked marks k
  looked_marked waits k = by (nat_eq k next) refl
    where
      by : (b : Bool) → nat_eq k next ≡ b → marked (slice_set marks next Done) k ≡ marked marks k
      by true is = ap (λ n. marked (slice_set marks next Done) n) (eqb-true k next is) ∙ ap is_marked at_next ∙ sym (ap (marked marks) (eqb-true k next is) ∙ waits)
      by false is = ap is_marked (get_or-set_other marks next k Done Out (eqb-false k next is))

  pub looked_done : (k : ℕ) → done (slice_set marks next Done) k ≡ (nat_eq k next || done marks k)
  looked_done k = by (nat_eq k next) refl
    where
      by : (b : Bool) → nat_eq k next ≡ b → done (slice_set marks next Done) k ≡ (b || done marks k)
      by true is = ap (λ n. done (slice_set marks next Done) n) (eqb-true k next is) ∙ ap is_done at_next
      by false is = ap is_done (get_or-set_other marks next k Done Out (eqb-false k next is))

-- process j drags k along
abbrev dragged_by : Tables → ℕ → ℕ → ℕ → ℕ → Bool
dragged_by t root count j k = drags (do_conflict t.conflicts) (holdings_of t) root (last_entries t root count) j k

-- whoever it drags along comes in
pub one_looked_at : (t : Tables) (gathered : List Entry) (root count next : ℕ) (marks looked after : List Mark) → AreTidy t
    → ((p : Entry → Bool) → list_any p gathered ≡ list_any p (steps_under_way t.processes))
    → IsOnTheWay t root count marks → marked marks next ≡ true
    → ((k : ℕ) → marked looked k ≡ marked marks k) → ((k : ℕ) → done looked k ≡ (nat_eq k next || done marks k))
    → IsMarked (drags_from (do_conflict t.conflicts) gathered next (staying t root count next) t.net) looked after
    → IsOnTheWay t root count after
one_looked_at t gathered root count next marks looked after tidy same way waits in_set looked_at dragged = record {
  begins = stay root way.begins;
  opened = λ k is. by_opened k (source k is);
  closed = λ j k is here drags'. by_closed j k (or_cases (nat_eq j next) (done marks j) (sym (dragged.looked_at j ∙ looked_at j) ∙ is)) here drags';
  least = λ other begins closed k is. by_least other begins closed k (source k is);
}
  where
    next_open : is_open t next ≡ true
    next_open = way.opened next waits

    is_dragged : (k : ℕ) → dragged_by t root count next k ≡ drags_from (do_conflict t.conflicts) gathered next (staying t root count next) t.net k
    is_dragged k = drags-is t gathered root count next k tidy same next_open

    now_in : (k : ℕ) → marked after k ≡ (marked marks k || dragged_by t root count next k)
    now_in k = dragged.in_set k ∙ ap (λ b. b || drags_from (do_conflict t.conflicts) gathered next (staying t root count next) t.net k) (in_set k) ∙ ap (marked marks k ||◌) (sym (is_dragged k))

    stay : (k : ℕ) → marked marks k ≡ true → marked after k ≡ true
    stay k is = now_in k ∙ or_left (marked marks k) (dragged_by t root count next k) is

    source : (k : ℕ) → marked after k ≡ true → (marked marks k ≡ true) ⊎ (dragged_by t root count next k ≡ true)
    source k is = or_cases (marked marks k) (dragged_by t root count next k) (sym (now_in k) ∙ is)

    by_opened : (k : ℕ) → (marked marks k ≡ true) ⊎ (dragged_by t root count next k ≡ true) → is_open t k ≡ true
    by_opened k (inl was) = way.opened k was
    by_opened k (inr new) = dragged_open t root count next k tidy new

    by_closed : (j k : ℕ) → (nat_eq j next ≡ true) ⊎ (done marks j ≡ true) → is_open t k ≡ true → dragged_by t root count j k ≡ true → marked after k ≡ true
    by_closed j k (inl is) here drags' = now_in k ∙ or_right (marked marks k) (dragged_by t root count next k) (subst (λ i. dragged_by t root count i k ≡ true) (eqb-true j next is) drags')
    by_closed j k (inr was) here drags' = stay k (way.closed j k was here drags')

    by_least : (other : List ℕ) → IsTrue (is_in root other) → ((j k : ℕ) → IsTrue (is_in j other) → IsTrue (is_in k (holders (holdings_of t))) → IsTrue (dragged_by t root count j k) → IsTrue (is_in k other))
        → (k : ℕ) → (marked marks k ≡ true) ⊎ (dragged_by t root count next k ≡ true) → IsTrue (is_in k other)
    by_least other begins closed k (inl was) = way.least other begins closed k was
    by_least other begins closed k (inr new) = closed next k (way.least other begins closed next waits) (holder-number k t.net t.processes (dragged_open t root count next k tidy new)) new

-- how many weren't looked at
abbrev pub left : List Mark → ℕ
left marks = length (filter (λ m. not (is_done m)) marks)

-- they are as many where the same were looked at
pub same_left : (xs ys : List Mark) → length xs ≡ length ys → ((k : ℕ) → done xs k ≡ done ys k) → left xs ≡ left ys
same_left [] [] count same = refl
same_left [] (y ∷ ys) count same = absurd (omega (arith, count))
same_left (x ∷ xs) [] count same = absurd (omega (arith, count))
same_left (x ∷ xs) (y ∷ ys) count same =
    let rest = same_left xs ys (omega (arith, count)) (λ k. same (suc k)) in
    by (is_done x) (is_done y) refl refl (same 0) rest
  where
    by : (a b : Bool) → is_done x ≡ a → is_done y ≡ b → is_done x ≡ is_done y → left xs ≡ left ys → left (x ∷ xs) ≡ left (y ∷ ys)
    by true true is at agree rest = rw (is, at) rest
    by true false is at agree rest = absurd (false≢true (sym at ∙ sym agree ∙ is))
    by false true is at agree rest = absurd (false≢true (sym is ∙ agree ∙ at))
    by false false is at agree rest = rw (is, at) (ap suc rest)

-- and one fewer where one more was looked at
pub fewer_left : (marks : List Mark) (next : ℕ) → next < length marks → done marks next ≡ false → left (slice_set marks next Done) < left marks
fewer_left [] next within waits = absurd (omega (arith, within))
fewer_left (m ∷ marks) zero within waits = rw waits (omega arith)
fewer_left (m ∷ marks) (suc next) within waits = by (is_done m) refl (fewer_left marks next (omega (arith, within)) waits)
  where
    by : (b : Bool) → is_done m ≡ b → left (slice_set marks next Done) < left marks → left (m ∷ slice_set marks next Done) < left (m ∷ marks)
    by true is rest = rw is rest
    by false is rest = rw is (omega (arith, rest))

-- an open process may be marked
pub below : (t : Tables) (n k : ℕ) → Each (λ r. r.process < n) t.processes → is_open t k ≡ true → k < n
below t n k few has = let its = each_numbered (λ (r : OpenProcess). r.process < n) k t.processes has few in let less = its.0 in let same = its.1 in omega (arith, less, same)

-- and so may those of the net
pub net_within : (t : Tables) (n : ℕ) → AreTidy t → Each (λ r. r.process < n) t.processes → Each (IsWithin t.conflicts n) t.net
net_within t n tidy few = each_entry t.net (λ e placed. (placed.0, below t n e.process few placed.1)) (placed_net t tidy)
