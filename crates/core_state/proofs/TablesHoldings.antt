-- The tables stand for what the active processes hold.
use Rattle.std.proofs.Common.{◌≡◌, ◌⊎◌, inl, inr, ℕ, ◌-◌, ◌≤◌, ◌<◌, Bool, true, false, eqb, List, [], ◌∷◌, ◌++◌, length, map, drop, Option, Some, None, sym, refl, ap, subst, ◌∙◌, arith}
use Rattle.std.proofs.lemmas.Bool.{cases_lt, eqb-true, false≢true}
use Rattle.std.proofs.lemmas.List.{length-drop}
use Rattle.process_tree.specs.declared.entry.Entry.{Entry}
use Rattle.process_tree.specs.Order.{Each}
use Rattle.process_tree.specs.Shape.{fixed_len}
use Rattle.process_tree.specs.Recovery.{StepClass, reserved, committing, undoable, forward}
use Rattle.process_tree.proofs.Every.{Each-append, Each-weaker}
use Rattle.schedule_model.specs.Course.{Course, shape}
use Rattle.schedule_model.specs.Histories.{active, doing, is_in, net, net_of, net_steps, of_process}
use Rattle.schedule_model.specs.Holdings.{active_net, holders}
use Rattle.schedule_model.specs.Recovery.{owed, owed_after}
use Rattle.machine_model.specs.Moment.{Moment, Piece}
use Rattle.machine_model.specs.Pieces.{running_of}
use Rattle.machine_model.specs.Progress.{staying}
use Rattle.machine_model.specs.State.{hold_of, holdings, owed_by_class, owed_by_work, owed_soon, progress}
use Rattle.machine_model.specs.declared.kept.Work.{Work}
use Rattle.machine_model.specs.declared.kept.Work.TheVariants.{Forward, Undo, End}
use Rattle.schedule_model.specs.Legal.{class_in}
use Rattle.machine_model.proofs.CallsKept.{find-passes}
use Rattle.machine_model.proofs.OpenCascade.{each_listed}
use Rattle.machine_model.proofs.TidyMoments.{every}
use Rattle.machine_model.proofs.OpenHoldings.{filter-kept, holders-active}
use Rattle.machine_model.proofs.WaysOn.{drop_past}
use Rattle.hold_tables.specs.Tables.{hold_in, lasts, reserved_entry}
use Rattle.core_state.specs.OpenTables.{TablesStandForHoldings, planned_of, row_of}

-- what is left behind a place is as many of the last
pub lasts_drop : {X : Type 0} (n : ℕ) (xs : List X) → lasts (length (drop n xs)) xs ≡ drop n xs
lasts_drop n xs = by_length (cases_lt (length xs) n)
  where
    by_length : (length xs < n) ⊎ (n ≤ length xs) → lasts (length (drop n xs)) xs ≡ drop n xs
    by_length (inl past) =
        let none = drop_past n xs (omega arith) in
        ap (λ ys. drop (length xs - length ys) xs) none ∙ (drop_past (length xs - 0) xs (omega arith) ∙ sym none)
    by_length (inr within) =
        let l = length-drop n xs in
        let e : length xs - length (drop n xs) ≡ n = omega arith in
        ap (λ k. drop k xs) e

map_same : {X Y : Type 0} (f : X → Y) (g : ℕ → X) (h : ℕ → Y) (is : List ℕ) → Each (λ i. f (g i) ≡ h i) is → map f (map g is) ≡ map h is
map_same f g h [] each = refl
map_same f g h (i ∷ is) each = ap (λ y. y ∷ map f (map g is)) each.0 ∙ ap (λ ys. h i ∷ ys) (map_same f g h is each.1)

-- entries of process i that are no undos come back from their steps and operations
abbrev IsStepOf : ℕ → Entry → Type 0
IsStepOf i e = (e.process ≡ i) × (e.undo ≡ false)

planned_back : (i : ℕ) (es : List Entry) → Each (IsStepOf i) es → map (reserved_entry i) (planned_of es) ≡ es
planned_back i [] each = refl
planned_back i (e ∷ es) each =
    ap (λ (x : Entry). x ∷ map (reserved_entry i) (planned_of es)) (ap (λ k. record { process = k; step = e.step; op = e.op; key = e.key; undo = false }) (sym each.0.0) ∙ ap (λ u. record { process = e.process; step = e.step; op = e.op; key = e.key; undo = u }) (sym each.0.1))
    ∙ ap (λ xs. e ∷ xs) (planned_back i es each.1)

doing_steps : (courses : List Course) (i : ℕ) (bs : List ℕ) → Each (IsStepOf i) (map (doing courses i) bs)
doing_steps courses i [] = tt
doing_steps courses i (b ∷ bs) = ((refl, refl), doing_steps courses i bs)

module _ (courses : List Course) (m : Moment) (i : ℕ) where
  soon_by_class : (c : StepClass) (es : List Entry) → Each (IsStepOf i) es → Each (IsStepOf i) (owed_by_class c es)
  soon_by_class reserved es each = tt
  soon_by_class undoable es each = tt
  soon_by_class committing es each = each

  soon_by_work : (k b : ℕ) (w : Work) → k ≡ i → Each (IsStepOf i) (owed_by_work courses m.events k b w)
  soon_by_work k b Forward same = subst (λ j. Each (IsStepOf i) (owed_by_work courses m.events j b Forward)) (sym same)
      (soon_by_class (class_in courses m.events i b) (owed_after courses m.events i b) (doing_steps courses i (forward (shape courses i) (net_steps m.events i ++ b ∷ []))))
  soon_by_work k b Undo same = tt
  soon_by_work k b End same = tt

  soon_steps : (o : Option Piece) → running_of m i ≡ o → Each (IsStepOf i) (owed_soon courses m.events o)
  soon_steps None is = tt
  soon_steps (Some p) is = soon_by_work p.process p.step p.work (eqb-true p.process i (find-passes (λ (q : Piece). eqb q.process i) m.out p is))

  -- what is reserved are steps of the process
  pub reserved_steps : Each (IsStepOf i) (hold_of courses m i).reserved
  reserved_steps = Each-append (IsStepOf i) (owed courses m.events i) (owed_soon courses m.events (running_of m i)) (doing_steps courses i (forward (shape courses i) (net_steps m.events i))) (soon_steps (running_of m i) refl)

  module _ (held : is_in i (active m.events) ≡ true) where
    -- its entries among those of the active processes
    pub own_net : of_process i (active_net (holdings courses m)) ≡ net_of m.events i
    own_net = filter-kept (λ (e : Entry). eqb e.process i) (λ e. is_in e.process (holders (holdings courses m))) (net m.events) (each (net m.events))
      where
        other : (e : Entry) (t : Bool) → is_in e.process (holders (holdings courses m)) ≡ false → eqb e.process i ≡ t → eqb e.process i ≡ false
        other e false out is = is
        other e true out is = absurd (false≢true (sym out ∙ (ap (λ k. is_in k (holders (holdings courses m))) (eqb-true e.process i is) ∙ (ap (is_in i) (holders-active courses m) ∙ held))))

        each : (es : List Entry) → Each (λ (e : Entry). is_in e.process (holders (holdings courses m)) ≡ false → eqb e.process i ≡ false) es
        each es = every (λ (e : Entry). is_in e.process (holders (holdings courses m)) ≡ false → eqb e.process i ≡ false) es (λ e out. other e (eqb e.process i) out refl)

    -- its row stands for what it holds
    pub row_holds : hold_in (active_net (holdings courses m)) (row_of courses m i) ≡ hold_of courses m i
    row_holds =
        let h = hold_of courses m i in
        let f = fixed_len (shape courses i) (net_steps m.events i) in
        ap (λ (rs : List Entry). record { process = i; running = h.running; reserved = rs; pending = lasts (length h.pending) (of_process i (active_net (holdings courses m))); backward_entries = drop f (of_process i (active_net (holdings courses m))) })
        (planned_back i h.reserved reserved_steps)
        ∙ (ap (λ (es : List Entry). record { process = i; running = h.running; reserved = h.reserved; pending = lasts (length h.pending) es; backward_entries = drop f es }) own_net
        ∙ ap (λ (ps : List Entry). record { process = i; running = h.running; reserved = h.reserved; pending = ps; backward_entries = drop f (net_of m.events i) }) (lasts_drop (staying (progress courses m i)) (net_of m.events i)))

pub tables_stand_for : TablesStandForHoldings
tables_stand_for conflicts courses m =
    ap (λ hs. record { net = active_net (holdings courses m); holds = hs })
    (map_same (hold_in (active_net (holdings courses m))) (row_of courses m) (hold_of courses m) (active m.events)
    (Each-weaker (λ i. is_in i (active m.events) ≡ true) (λ i. hold_in (active_net (holdings courses m)) (row_of courses m i) ≡ hold_of courses m i) (row_holds courses m) (active m.events) (each_listed (active m.events))))
