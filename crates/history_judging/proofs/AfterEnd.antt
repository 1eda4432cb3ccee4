-- The tables after an end.
use Rattle.std.proofs.Common.{◌≡◌, ℕ, ◌-◌, ◌<◌, ◌≤◌, Bool, true, false, not, eqb, ltb, ◌&&◌, if◌then◌else◌, List, [], ◌∷◌, ◌++◌, length, filter, sym, refl, ap, ◌∙◌, subst, append-nil}
use Rattle.std.specs.Bool.{IsTrue}
use Rattle.std.specs.List.{list_all}
use Rattle.std.proofs.Math.Bool.{and-false, and-true}
use Rattle.std.proofs.lemmas.Bool.{eq-eqb, eqb-true, or_right, or_left}
use Rattle.process_tree.specs.declared.entry.Entry.{Entry}
use Rattle.process_tree.specs.declared.plan.Plan.{Plan}
use Rattle.schedule_model.specs.declared.event.Event.{Event}
use Rattle.schedule_model.specs.declared.event.Event.TheVariants.{End}
use Rattle.schedule_model.specs.Conflict.{ConflictRelation}
use Rattle.schedule_model.specs.Course.{Course, courses_of}
use Rattle.schedule_model.specs.Histories.{done_steps, ends, is_active, is_in, net, of_process, starts}
use Rattle.schedule_model.specs.Laws.{AreGood}
use Rattle.schedule_model.specs.Legal.{is_legal, may_come}
use Rattle.schedule_model.specs.Limits.{entries}
use Rattle.schedule_model.specs.Recovery.{owed}
use Rattle.schedule_model.proofs.Acting.{end_active}
use Rattle.schedule_model.proofs.Appends.{done_steps-append, ends-append, is_in-append, starts-append}
use Rattle.schedule_model.proofs.Conflicts.{same_either_way}
use Rattle.schedule_model.proofs.Frames.{frame}
use Rattle.schedule_model.proofs.NoConflict.{own_order-legal}
use Rattle.schedule_model.proofs.Snoc.{filter_same, filter_twice, net-end}
use Rattle.schedule_model.proofs.Starts.{active-rising}
use Rattle.history_judging.specs.Keeping.{IsKept, IsRowOf, Tables, at_end, ended, of_others, row_of, with_row}
use Rattle.history_judging.proofs.Counted.{active-less, entries-end, needed-end}
use Rattle.history_judging.proofs.Rows.{row-other, row-own, rows-count}
use Rattle.history_judging.proofs.Tables.{started-within}
use Rattle.history_judging.proofs.Unchanged.{of_others-other, of_others-own, owed-other, row-stays}

module _ (table : ConflictRelation) (plans : List Plan) (good : AreGood plans) (h : List Event) (t : Tables) (legal : IsTrue (is_legal table (courses_of plans) h))
    (kept : IsKept (courses_of plans) h t) (k : ℕ) (may : IsTrue (may_come table (courses_of plans) h (End k))) where
  abbrev cs : List Course
  cs = courses_of plans

  abbrev after : List Event
  after = h ++ End k ∷ []

  goes : IsTrue (is_active h k)
  goes = end_active table cs h k may

  bounds : (0 < k) × (k ≤ length t.processes)
  bounds = started-within table cs h t legal kept k goes

  -- it isn't active any more
  stopped : is_active after k ≡ false
  stopped =
      ap (λ t'. is_in k (starts after) && not t') (ap (is_in k) (ends-append h (End k ∷ [])) ∙ (is_in-append k (ends h) (k ∷ []) ∙ or_right (is_in k (ends h)) (is_in k (k ∷ [])) (or_left (eqb k k) false (eq-eqb k k refl))))
      ∙ and-false (is_in k (starts after))

  own_row : IsRowOf cs after k (at_end (row_of t.processes k))
  own_row =
      let was = kept.rows k bounds.0 bounds.1 in
      record {
        active = sym stopped;
        bound = λ b. was.bound b ∙ ap (λ ds. list_all (λ d. ltb d b) ds) (sym (done_steps-append h (End k ∷ []) k ∙ append-nil (done_steps h k)));
        needed = was.needed ∙ sym (needed-end plans good h (active-rising table cs h legal) k goes (own_order-legal cs table h legal) k);
      }

  row_after : (i : ℕ) → 0 < i → i ≤ length t.processes → (s : Bool) → eqb k i ≡ s → IsRowOf cs after i (row_of (with_row at_end k t.processes) i)
  row_after i some within true same =
      subst (λ n. IsRowOf cs after n (row_of (with_row at_end k t.processes) n)) (eqb-true k i same)
      (subst (IsRowOf cs after k) (sym (row-own at_end k t.processes bounds.0 bounds.1)) own_row)
  row_after i some within false other =
      subst (IsRowOf cs after i) (sym (row-other at_end k t.processes i bounds.0 some other)) (row-stays cs h (End k) i (row_of t.processes i) other (kept.rows i some within))

  -- who is active then
  active_then : (i : ℕ) → (is_active h i && not (eqb i k)) ≡ is_active after i
  active_then i = by_process (eqb k i) refl
    where
      by_process : (s : Bool) → eqb k i ≡ s → (is_active h i && not (eqb i k)) ≡ is_active after i
      by_process true same =
          let is = eqb-true k i same in
          ap (λ t'. is_active h i && not t') (eq-eqb i k (sym is)) ∙ (and-false (is_active h i) ∙ (sym stopped ∙ ap (is_active after) is))
      by_process false other =
          ap (λ t'. is_active h i && not t') (same_either_way k i false other) ∙ (and-true (is_active h i) ∙ sym (frame cs h (End k) i other).active)

  owed_after : (i : ℕ) (s : Bool) → eqb k i ≡ s → of_process i (of_others k t.owed) ≡ (if is_active after i then owed cs after i else [])
  owed_after i true same =
      subst (λ n. of_process n (of_others k t.owed) ≡ (if is_active after n then owed cs after n else [])) (eqb-true k i same)
      (of_others-own k t.owed ∙ sym (ap (λ a. if a then owed cs after k else []) stopped))
  owed_after i false other = owed-other cs h (End k) i (of_process i (of_others k t.owed)) other (of_others-other k i t.owed other ∙ kept.owed i)

  -- the tables after an end are those of the history with it
  pub kept-end : IsKept cs after (ended k t)
  kept-end =
      let rising = active-rising table cs h legal in
      let own = own_order-legal cs table h legal in
      record {
        started = rows-count at_end k t.processes ∙ (kept.started ∙ sym (ap length (starts-append h (End k ∷ []) ∙ append-nil (starts h))));
        rows = λ i some within. row_after i some (subst (λ n. i ≤ n) (rows-count at_end k t.processes) within) (eqb k i) refl;
        net = ap (of_others k) kept.net
            ∙ (filter_twice (λ (e : Entry). is_active h e.process) (λ (e : Entry). not (eqb e.process k)) (net h)
            ∙ (filter_same (λ (e : Entry). is_active h e.process && not (eqb e.process k)) (λ (e : Entry). is_active after e.process) (net h) (λ e. active_then e.process)
            ∙ ap (filter (λ (e : Entry). is_active after e.process)) (sym (net-end h k))));
        owed = λ i. owed_after i (eqb k i) refl;
        active = ap (λ n. n - 1) kept.active ∙ sym (active-less plans good h rising k goes own);
        entries = ap (λ n. n - ((row_of t.processes k).needed - 1)) kept.entries
            ∙ (ap (λ n. entries cs h - (n - 1)) (kept.rows k bounds.0 bounds.1).needed ∙ sym (entries-end plans good h rising k goes own));
      }
