-- Processes by other numbers, which differ where the numbers did: all that is said of a history goes along.
use Rattle.std.proofs.Common.{◌≡◌, ℕ, Bool, true, false, not, cond, eqb, ltb, ◌&&◌, ◌||◌, List, [], ◌∷◌, ◌++◌, map, filter, drop, refl, ap, ◌∙◌}
use Rattle.std.specs.Prelude.{slice_index_or}
use Rattle.std.specs.List.{list_any, list_all}
use Rattle.process_tree.specs.Shape.{fixed_len, goes_on_to, is_end}
use Rattle.process_tree.specs.Recovery.{class_of, forward}
use Rattle.process_tree.specs.Entries.{access_of}
use Rattle.process_tree.specs.declared.entry.Entry.{Entry}
use Rattle.schedule_model.specs.declared.event.Event.{Event}
use Rattle.schedule_model.specs.declared.event.Event.TheVariants.{Start, Act, End}
use Rattle.schedule_model.specs.Course.{Course, access_at, course, shape}
use Rattle.schedule_model.specs.Conflict.{ConflictRelation, conflict}
use Rattle.schedule_model.specs.Histories.{active, acts, done_steps, doing, ends, is_active, is_in, net, net_acts, net_of, net_steps, of_process, same_step, starts, steps_of, takes_back}
use Rattle.schedule_model.specs.Recovery.{backward_entries, owed, owed_after}
use Rattle.schedule_model.specs.OwnOrder.{goes_on, is_at_end, is_of_last}
use Rattle.schedule_model.specs.Legal.{class_in}
use Rattle.forgetting_model.specs.Remaining.{renumbered, renumbered_entry}
use Rattle.forgetting_model.proofs.Mapped.{any-mapped, drop-mapped, filter-mapped, map-unchanged}

-- other numbers differ where the numbers did
abbrev pub AreApart : (ℕ → ℕ) → Type 0
AreApart number = (a b : ℕ) → eqb (number a) (number b) ≡ eqb a b

module _ (number : ℕ → ℕ) where
  pub starts-by : (h : List Event) → starts (renumbered number h) ≡ map number (starts h)
  starts-by [] = refl
  starts-by (Start i ∷ h) = ap (λ is. number i ∷ is) (starts-by h)
  starts-by (Act e ∷ h) = starts-by h
  starts-by (End i ∷ h) = starts-by h

  pub ends-by : (h : List Event) → ends (renumbered number h) ≡ map number (ends h)
  ends-by [] = refl
  ends-by (Start i ∷ h) = ends-by h
  ends-by (Act e ∷ h) = ends-by h
  ends-by (End i ∷ h) = ap (λ is. number i ∷ is) (ends-by h)

  pub acts-by : (h : List Event) → acts (renumbered number h) ≡ map (renumbered_entry number) (acts h)
  acts-by [] = refl
  acts-by (Start i ∷ h) = acts-by h
  acts-by (Act e ∷ h) = ap (λ es. renumbered_entry number e ∷ es) (acts-by h)
  acts-by (End i ∷ h) = acts-by h

  pub steps_of-by : (es : List Entry) → steps_of (map (renumbered_entry number) es) ≡ steps_of es
  steps_of-by es = map-unchanged (renumbered_entry number) (λ (e : Entry). e.step) (λ (e : Entry). e.step) es (λ e. refl)

module _ (number : ℕ → ℕ) (apart : AreApart number) where
  abbrev ent : Entry → Entry
  ent = renumbered_entry number

  pub is_in-by : (i : ℕ) (xs : List ℕ) → is_in (number i) (map number xs) ≡ is_in i xs
  is_in-by i xs = any-mapped number (eqb (number i)) (eqb i) xs (λ x. apart i x)

  pub same_step-by : (a b : Entry) → same_step (renumbered_entry number a) (renumbered_entry number b) ≡ same_step a b
  same_step-by a b = ap (λ t. t && eqb a.step b.step) (apart a.process b.process)

  pub conflict-by : (table : ConflictRelation) (a b : Entry) → conflict table (renumbered_entry number a) (renumbered_entry number b) ≡ conflict table a b
  conflict-by table a b = ap (λ t. not t && table (access_of a) (access_of b)) (apart a.process b.process)

  pub taken_back-by : (e : Entry) (es : List Entry) → list_any (λ f. takes_back f (renumbered_entry number e)) (map (renumbered_entry number) es) ≡ list_any (λ f. takes_back f e) es
  taken_back-by e es = any-mapped ent (λ f. takes_back f (ent e)) (λ f. takes_back f e) es (λ f. ap (λ t. f.undo && t) (same_step-by e f))

  net_step : (e : Entry) (ns ms : List Entry) (a b : Bool) → a ≡ b → ms ≡ map ent ns → cond a ms (ent e ∷ ms) ≡ map ent (cond b ns (e ∷ ns))
  net_step e ns ms a true same is = ap (λ t. cond t ms (ent e ∷ ms)) same ∙ is
  net_step e ns ms a false same is = ap (λ t. cond t ms (ent e ∷ ms)) same ∙ ap (λ es. ent e ∷ es) is

  pub net_acts-by : (es : List Entry) → net_acts (map (renumbered_entry number) es) ≡ map (renumbered_entry number) (net_acts es)
  net_acts-by [] = refl
  net_acts-by (e ∷ es) =
      net_step e (net_acts es) (net_acts (map ent es)) (e.undo || list_any (λ f. takes_back f (ent e)) (map ent es)) (e.undo || list_any (λ f. takes_back f e) es)
      (ap (λ t. e.undo || t) (taken_back-by e es)) (net_acts-by es)

  pub net-by : (h : List Event) → net (renumbered number h) ≡ map (renumbered_entry number) (net h)
  net-by h = ap net_acts (acts-by number h) ∙ net_acts-by (acts h)

  pub is_active-by : (h : List Event) (i : ℕ) → is_active (renumbered number h) (number i) ≡ is_active h i
  is_active-by h i =
      ap (λ t. t && not (is_in (number i) (ends (renumbered number h)))) (ap (is_in (number i)) (starts-by number h) ∙ is_in-by i (starts h))
      ∙ ap (λ t. is_in i (starts h) && not t) (ap (is_in (number i)) (ends-by number h) ∙ is_in-by i (ends h))

  pub active-by : (h : List Event) → active (renumbered number h) ≡ map number (active h)
  active-by h =
      ap (filter (λ i. not (is_in i (ends (renumbered number h))))) (starts-by number h)
      ∙ filter-mapped number (λ i. not (is_in i (ends (renumbered number h)))) (λ i. not (is_in i (ends h))) (starts h)
      (λ i. ap not (ap (is_in (number i)) (ends-by number h) ∙ is_in-by i (ends h)))

  pub of_process-by : (i : ℕ) (es : List Entry) → of_process (number i) (map (renumbered_entry number) es) ≡ map (renumbered_entry number) (of_process i es)
  of_process-by i es = filter-mapped ent (λ (e : Entry). eqb e.process (number i)) (λ (e : Entry). eqb e.process i) es (λ e. apart e.process i)

  pub net_of-by : (h : List Event) (i : ℕ) → net_of (renumbered number h) (number i) ≡ map (renumbered_entry number) (net_of h i)
  net_of-by h i = ap (of_process (number i)) (net-by h) ∙ of_process-by i (net h)

  pub net_steps-by : (h : List Event) (i : ℕ) → net_steps (renumbered number h) (number i) ≡ net_steps h i
  net_steps-by h i = ap steps_of (net_of-by h i) ∙ steps_of-by number (net_of h i)

  pub done_steps-by : (h : List Event) (i : ℕ) → done_steps (renumbered number h) (number i) ≡ done_steps h i
  done_steps-by h i =
      ap (λ es. steps_of (of_process (number i) (filter (λ (e : Entry). not e.undo) es))) (acts-by number h)
      ∙ (ap (λ es. steps_of (of_process (number i) es)) (filter-mapped ent (λ (e : Entry). not e.undo) (λ (e : Entry). not e.undo) (acts h) (λ e. refl))
      ∙ (ap steps_of (of_process-by i (filter (λ (e : Entry). not e.undo) (acts h))) ∙ steps_of-by number (of_process i (filter (λ (e : Entry). not e.undo) (acts h)))))

  pub is_of_last-by : (es : List Entry) (e : Entry) → is_of_last (map (renumbered_entry number) es) (renumbered_entry number e) ≡ is_of_last es e
  is_of_last-by [] e = refl
  is_of_last-by (x ∷ []) e = same_step-by x e
  is_of_last-by (x ∷ y ∷ xs) e = is_of_last-by (y ∷ xs) e

  -- One process whose course stays.

  module _ (courses since : List Course) (h : List Event) (i : ℕ) (same : course courses (number i) ≡ course since i) where
    abbrev now : List Event
    now = renumbered number h

    pub backward-by : backward_entries courses (renumbered number h) (number i) ≡ map (renumbered_entry number) (backward_entries since h i)
    backward-by =
        ap (λ (c : Course). drop (fixed_len c.shape (net_steps now (number i))) (net_of now (number i))) same
        ∙ (ap (λ bs. drop (fixed_len (shape since i) bs) (net_of now (number i))) (net_steps-by h i)
        ∙ (ap (drop (fixed_len (shape since i) (net_steps h i))) (net_of-by h i) ∙ drop-mapped ent (fixed_len (shape since i) (net_steps h i)) (net_of h i)))

    pub doing-by : (b : ℕ) → doing courses (number i) b ≡ renumbered_entry number (doing since i b)
    doing-by b = ap (λ (c : Course). record { process = number i; step = b; op = slice_index_or c.ops b 0; key = slice_index_or c.keys b 0; undo = false }) same

    doing-each : (bs : List ℕ) → map (doing courses (number i)) bs ≡ map ent (map (doing since i) bs)
    doing-each [] = refl
    doing-each (b ∷ bs) = ap (λ e. e ∷ map (doing courses (number i)) bs) (doing-by b) ∙ ap (λ es. ent (doing since i b) ∷ es) (doing-each bs)

    pub owed-by : owed courses (renumbered number h) (number i) ≡ map (renumbered_entry number) (owed since h i)
    owed-by =
        ap (λ (c : Course). map (doing courses (number i)) (forward c.shape (net_steps now (number i)))) same
        ∙ (ap (λ bs. map (doing courses (number i)) (forward (shape since i) bs)) (net_steps-by h i) ∙ doing-each (forward (shape since i) (net_steps h i)))

    pub owed_after-by : (b : ℕ) → owed_after courses (renumbered number h) (number i) b ≡ map (renumbered_entry number) (owed_after since h i b)
    owed_after-by b =
        ap (λ (c : Course). map (doing courses (number i)) (forward c.shape (net_steps now (number i) ++ b ∷ []))) same
        ∙ (ap (λ bs. map (doing courses (number i)) (forward (shape since i) (bs ++ b ∷ []))) (net_steps-by h i) ∙ doing-each (forward (shape since i) (net_steps h i ++ b ∷ [])))

    pub class-by : (b : ℕ) → class_in courses (renumbered number h) (number i) b ≡ class_in since h i b
    class-by b = ap (λ (c : Course). class_of c.shape (net_steps now (number i)) b) same ∙ ap (λ bs. class_of (shape since i) bs b) (net_steps-by h i)

    pub goes_on-by : (b : ℕ) → goes_on courses (renumbered number h) (number i) b ≡ goes_on since h i b
    goes_on-by b =
        ap (λ (c : Course). goes_on_to c.shape (net_steps now (number i)) b && list_all (λ d. ltb d b) (done_steps now (number i))) same
        ∙ (ap (λ bs. goes_on_to (shape since i) bs b && list_all (λ d. ltb d b) (done_steps now (number i))) (net_steps-by h i)
        ∙ ap (λ ds. goes_on_to (shape since i) (net_steps h i) b && list_all (λ d. ltb d b) ds) (done_steps-by h i))

    pub at_end-by : is_at_end courses (renumbered number h) (number i) ≡ is_at_end since h i
    at_end-by = ap (λ (c : Course). is_end c.shape (net_steps now (number i))) same ∙ ap (is_end (shape since i)) (net_steps-by h i)

    pub access-by : (b : ℕ) → access_at courses (number i) b ≡ access_at since i b
    access-by b = ap (λ (c : Course). record { op = slice_index_or c.ops b 0; key = slice_index_or c.keys b 0 }) same
