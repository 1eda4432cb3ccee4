-- A history asks the courses of its own processes alone.
use Rattle.std.proofs.Common.{◌≡◌, ℕ, Bool, true, false, eqb, if◌then◌else◌, ◌&&◌, List, [], ◌∷◌, ◌++◌, length, map, drop, ltb, slice_index_or, None, sym, refl, ap, ◌∙◌}
use Rattle.std.specs.Bool.{IsTrue}
use Rattle.std.specs.List.{list_all}
use Rattle.std.proofs.lemmas.Bool.{or_left, or_right, eq-eqb}
use Rattle.process_tree.specs.Entries.{access_of}
use Rattle.process_tree.specs.Conflicts.{same_access}
use Rattle.process_tree.specs.declared.entry.Entry.{Entry}
use Rattle.process_tree.specs.Shape.{fixed_len, goes_on_to, is_end}
use Rattle.process_tree.specs.Recovery.{forward, class_of}
use Rattle.schedule_model.specs.declared.event.Event.{Event}
use Rattle.schedule_model.specs.declared.event.Event.TheVariants.{Start, Act, End}
use Rattle.schedule_model.specs.Course.{Course, course, access_at}
use Rattle.schedule_model.specs.Conflict.{ConflictRelation}
use Rattle.schedule_model.specs.Histories.{net, active, is_active, is_in, doing, net_of, net_steps, done_steps}
use Rattle.schedule_model.specs.Recovery.{backward_entries, owed_after}
use Rattle.schedule_model.specs.OwnOrder.{keeps_order, goes_on, is_at_end, is_of_last}
use Rattle.schedule_model.specs.Holdings.{hold_at_rest, at_rest}
use Rattle.schedule_model.specs.Blocking.{against_step, against_undo, against_end, all_clashes}
use Rattle.schedule_model.specs.Legal.{class_in, against_entry, is_clear, may_come}
use Rattle.schedule_model.proofs.Active.{is_active-is_in}

module _ (cs ds : List Course) where
  -- both lists have the same course of process i
  abbrev pub SameCourse : ℕ → Type 0
  SameCourse i = course cs i ≡ course ds i

  -- What is said of one process.

  pub backward_entries-courses : (h : List Event) (i : ℕ) → SameCourse i → backward_entries cs h i ≡ backward_entries ds h i
  backward_entries-courses h i same = ap (λ (c : Course). drop (fixed_len c.shape (net_steps h i)) (net_of h i)) same

  pub doing-courses : (i b : ℕ) → SameCourse i → doing cs i b ≡ doing ds i b
  doing-courses i b same = ap (λ (c : Course). record { process = i; step = b; op = slice_index_or c.ops b 0; key = slice_index_or c.keys b 0; undo = false }) same

  pub hold-courses : (h : List Event) (i : ℕ) → SameCourse i → hold_at_rest cs h i ≡ hold_at_rest ds h i
  hold-courses h i same = ap (λ (c : Course). record {
    process = i;
    running = None;
    reserved = map (λ b. record { process = i; step = b; op = slice_index_or c.ops b 0; key = slice_index_or c.keys b 0; undo = false }) (forward c.shape (net_steps h i));
    pending = [];
    backward_entries = drop (fixed_len c.shape (net_steps h i)) (net_of h i);
  }) same

  all_holds : (h : List Event) (is : List ℕ) → ((i : ℕ) → IsTrue (is_in i is) → SameCourse i) → map (hold_at_rest cs h) is ≡ map (hold_at_rest ds h) is
  all_holds h [] same = refl
  all_holds h (i ∷ is) same =
      ap (λ o. o ∷ map (hold_at_rest cs h) is) (hold-courses h i (same i (or_left (eqb i i) (is_in i is) (eq-eqb i i refl))))
      ∙ ap (λ os. hold_at_rest ds h i ∷ os) (all_holds h is (λ k among. same k (or_right (eqb k i) (is_in k is) among)))

  -- both lists have the same courses of the active processes
  abbrev pub SameOfActive : List Event → Type 0
  SameOfActive h = (i : ℕ) → IsTrue (is_active h i) → SameCourse i

  pub at_rest-courses : (h : List Event) → SameOfActive h → at_rest cs h ≡ at_rest ds h
  at_rest-courses h same = ap (λ os. record { net = net h; holds = os }) (all_holds h (active h) (λ i among. same i (sym (is_active-is_in h i) ∙ among)))

  -- What is said of one event.

  entry_by : (h : List Event) (e : Entry) (a : Bool) → (a ≡ true → SameCourse e.process)
      → (a && same_access (access_of e) (access_at cs e.process e.step) && (if e.undo then is_of_last (backward_entries cs h e.process) e else goes_on cs h e.process e.step))
      ≡ (a && same_access (access_of e) (access_at ds e.process e.step) && (if e.undo then is_of_last (backward_entries ds h e.process) e else goes_on ds h e.process e.step))
  entry_by h e false same = refl
  entry_by h e true same = ap (λ (c : Course). same_access (access_of e) (record { op = slice_index_or c.ops e.step 0; key = slice_index_or c.keys e.step 0 })
      && (if e.undo then is_of_last (drop (fixed_len c.shape (net_steps h e.process)) (net_of h e.process)) e
      else (goes_on_to c.shape (net_steps h e.process) e.step && list_all (λ d. ltb d e.step) (done_steps h e.process)))) (same refl)

  end_by : (h : List Event) (i : ℕ) (a : Bool) → (a ≡ true → SameCourse i) → (a && is_at_end cs h i) ≡ (a && is_at_end ds h i)
  end_by h i false same = refl
  end_by h i true same = ap (λ (c : Course). is_end c.shape (net_steps h i)) (same refl)

  pub keeps_order-courses : (h : List Event) (e : Event) → SameOfActive h → keeps_order cs h e ≡ keeps_order ds h e
  keeps_order-courses h (Start i) same = refl
  keeps_order-courses h (Act e) same = entry_by h e (is_active h e.process) (same e.process)
  keeps_order-courses h (End i) same = end_by h i (is_active h i) (same i)

  module _ (table : ConflictRelation) where
    entry_against : (h : List Event) (e : Entry) → SameOfActive h → SameCourse e.process → against_entry table cs h e ≡ against_entry table ds h e
    entry_against h e same own =
        ap (λ g. if e.undo then against_undo table g e else against_step table g (class_in cs h e.process e.step) e (owed_after cs h e.process e.step)) (at_rest-courses h same)
        ∙ ap (λ (c : Course). if e.undo then against_undo table (at_rest ds h) e
        else against_step table (at_rest ds h) (class_of c.shape (net_steps h e.process) e.step) e
        (map (λ b. record { process = e.process; step = b; op = slice_index_or c.ops b 0; key = slice_index_or c.keys b 0; undo = false }) (forward c.shape (net_steps h e.process ++ e.step ∷ [])))) own

    -- an entry of a process that isn't active may not come either way
    act_by : (h : List Event) (e : Entry) → SameOfActive h → (a : Bool) → is_active h e.process ≡ a → may_come table cs h (Act e) ≡ may_come table ds h (Act e)
    act_by h e same true is =
        ap (λ k. k && is_clear table cs h (Act e)) (keeps_order-courses h (Act e) same)
        ∙ ap (λ c. keeps_order ds h (Act e) && eqb (length (all_clashes c)) 0) (entry_against h e same (same e.process is))
    act_by h e same false is = out cs ∙ sym (out ds)
      where
        out : (es : List Course) → may_come table es h (Act e) ≡ false
        out es = ap (λ a. a && same_access (access_of e) (access_at es e.process e.step) && (if e.undo then is_of_last (backward_entries es h e.process) e else goes_on es h e.process e.step) && is_clear table es h (Act e)) is

    pub may_come-courses : (h : List Event) (e : Event) → SameOfActive h → may_come table cs h e ≡ may_come table ds h e
    may_come-courses h (Start i) same = refl
    may_come-courses h (Act e) same = act_by h e same (is_active h e.process) refl
    may_come-courses h (End i) same =
        ap (λ k. k && is_clear table cs h (End i)) (keeps_order-courses h (End i) same)
        ∙ ap (λ g. keeps_order ds h (End i) && eqb (length (all_clashes (against_end table g i))) 0) (at_rest-courses h same)
