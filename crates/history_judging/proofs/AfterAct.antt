-- The tables after an act.
use Rattle.std.proofs.Common.{◌≡◌, ℕ, ◌+◌, ◌-◌, ◌<◌, ◌≤◌, Bool, true, false, eqb, leb, ltb, ◌&&◌, if◌then◌else◌, List, [], ◌∷◌, ◌++◌, length, filter, sym, refl, ap, ◌∙◌, subst, arith, append-nil}
use Rattle.std.specs.Bool.{IsTrue}
use Rattle.std.specs.List.{list_all}
use Rattle.std.proofs.Math.Bool.{and-true}
use Rattle.std.proofs.lemmas.Bool.{and_parts, and_from, eqb-true, false≢true, le-leb, leb-true, lt-ltb, ltb-true}
use Rattle.std.proofs.lemmas.List.Folds.{list_all-append}
use Rattle.process_tree.specs.Entries.{access_of}
use Rattle.process_tree.specs.declared.entry.Entry.{Entry}
use Rattle.process_tree.specs.declared.plan.Plan.{Plan}
use Rattle.process_tree.specs.Shape.{goes_on_to}
use Rattle.schedule_model.specs.declared.event.Event.{Event}
use Rattle.schedule_model.specs.declared.event.Event.TheVariants.{Act}
use Rattle.schedule_model.specs.Conflict.{ConflictRelation}
use Rattle.schedule_model.specs.Course.{Course, course, courses_of, shape, access_at}
use Rattle.schedule_model.specs.Histories.{active, done_steps, is_active, net, net_steps, of_process, starts}
use Rattle.schedule_model.specs.Laws.{AreGood}
use Rattle.schedule_model.specs.Legal.{is_legal, may_come}
use Rattle.schedule_model.specs.Limits.{entries, still_needed}
use Rattle.schedule_model.specs.OwnOrder.{goes_on, is_in_own_order}
use Rattle.schedule_model.specs.Recovery.{owed}
use Rattle.schedule_model.proofs.Acting.{act_active, act_in_order, order_of}
use Rattle.schedule_model.proofs.Appends.{starts-append}
use Rattle.schedule_model.proofs.Apart.{list_all-weaker}
use Rattle.schedule_model.proofs.Induction.{passes-push}
use Rattle.schedule_model.proofs.NoConflict.{own_order-legal}
use Rattle.schedule_model.proofs.Rising.{step_goes_on}
use Rattle.schedule_model.proofs.Snoc.{active-do, done_steps-do, done_steps-undo, filter_same, is_active-do}
use Rattle.schedule_model.proofs.Starts.{active-rising}
use Rattle.schedule_model.proofs.Undoing.{undoes}
use Rattle.history_judging.specs.declared.legality.ProcessRow.{ProcessRow}
use Rattle.history_judging.specs.Keeping.{IsKept, IsRowOf, Tables, row_of, stepped, undone, with_act, with_row, with_step}
use Rattle.schedule_rules.specs.Standing.{stands_after}
use Rattle.history_judging.proofs.Counted.{entries-act, needed-act}
use Rattle.history_judging.proofs.OwedAfter.{owed-step}
use Rattle.history_judging.proofs.Rows.{row-other, row-own, rows-count}
use Rattle.schedule_rules.proofs.Standing.{net-act}
use Rattle.history_judging.proofs.Tables.{started-within}
use Rattle.schedule_rules.proofs.ListTests.{not_passed}
use Rattle.history_judging.proofs.Unchanged.{owed-other, row-stays, stands-filtered}

-- above b where it is above all below b, and b
bound-push : (ds : List ℕ) (b c : ℕ) → IsTrue (list_all (λ d. ltb d b) ds) → leb (b + 1) c ≡ list_all (λ d. ltb d c) (ds ++ b ∷ [])
bound-push ds b c all = by_order (leb (b + 1) c) refl ∙ sym (list_all-append (λ d. ltb d c) ds (b ∷ []) ∙ ap (λ t. list_all (λ d. ltb d c) ds && t) (and-true (ltb b c)))
  where
    by_order : (t : Bool) → leb (b + 1) c ≡ t → leb (b + 1) c ≡ (list_all (λ d. ltb d c) ds && ltb b c)
    by_order true is =
        let l = leb-true (b + 1) c is in
        is ∙ sym (and_from (list_all (λ d. ltb d c) ds) (ltb b c) (list_all-weaker (λ d. ltb d b) (λ d. ltb d c) ds (λ d less. let m = ltb-true d b less in lt-ltb d c (omega arith)) all) (lt-ltb b c (omega arith)))
    by_order false is =
        is ∙ sym (not_passed (list_all (λ d. ltb d c) ds && ltb b c)
        (λ both. let m = ltb-true b c (and_parts (list_all (λ d. ltb d c) ds) (ltb b c) both).1 in false≢true (sym is ∙ le-leb (b + 1) c (omega arith))))

module _ (table : ConflictRelation) (plans : List Plan) (good : AreGood plans) (h : List Event) (t : Tables) (legal : IsTrue (is_legal table (courses_of plans) h))
    (kept : IsKept (courses_of plans) h t) (e : Entry) (may : IsTrue (may_come table (courses_of plans) h (Act e))) where
  abbrev cs : List Course
  cs = courses_of plans

  abbrev i : ℕ
  i = e.process

  abbrev after : List Event
  after = h ++ Act e ∷ []

  goes : IsTrue (is_active h i)
  goes = act_active table cs h e may

  op : access_of e ≡ access_at cs i e.step
  op = (act_in_order cs h e (order_of table cs h (Act e) may)).1

  bounds : (0 < i) × (i ≤ length t.processes)
  bounds = started-within table cs h t legal kept i goes

  own : IsTrue (is_in_own_order cs after)
  own = own_order-legal cs table after (passes-push (may_come table cs) h (Act e) legal may)

  needed : (row_of t.processes i).needed - 1 ≡ still_needed cs after i
  needed = ap (λ n. n - 1) (kept.rows i bounds.0 bounds.1).needed ∙ sym (needed-act plans good h (active-rising table cs h legal) e goes own)

  rows_after : (change : ProcessRow → ProcessRow) → IsRowOf cs after i (change (row_of t.processes i)) → (k : ℕ) → 0 < k → k ≤ length (with_row change i t.processes)
      → IsRowOf cs after k (row_of (with_row change i t.processes) k)
  rows_after change own_row k some within = by_process (eqb i k) refl
    where
      by_process : (s : Bool) → eqb i k ≡ s → IsRowOf cs after k (row_of (with_row change i t.processes) k)
      by_process true same =
          subst (λ n. IsRowOf cs after n (row_of (with_row change i t.processes) n)) (eqb-true i k same)
          (subst (IsRowOf cs after i) (sym (row-own change i t.processes bounds.0 bounds.1)) own_row)
      by_process false other =
          subst (IsRowOf cs after k) (sym (row-other change i t.processes k bounds.0 some other))
          (row-stays cs h (Act e) k (row_of t.processes k) other (kept.rows k some (subst (λ n. k ≤ n) (rows-count change i t.processes) within)))

  net_after : stands_after t.net e ≡ filter (λ x. is_active after x.process) (net after)
  net_after =
      ap (λ es. stands_after es e) kept.net
      ∙ (stands-filtered (λ x. is_active h x.process) (net h) e goes
      ∙ (filter_same (λ (x : Entry). is_active h x.process) (λ (x : Entry). is_active after x.process) (stands_after (net h) e) (λ x. sym (is_active-do h e x.process))
      ∙ ap (filter (λ (x : Entry). is_active after x.process)) (sym (net-act h e))))

  same_starts : (change : ProcessRow → ProcessRow) → length (with_row change i t.processes) ≡ length (starts after)
  same_starts change = rows-count change i t.processes ∙ (kept.started ∙ sym (ap length (starts-append h (Act e ∷ []) ∙ append-nil (starts h))))

  same_active : t.active ≡ length (active after)
  same_active = kept.active ∙ sym (ap length (active-do h e))

  same_entries : t.entries ≡ entries cs after
  same_entries = kept.entries ∙ sym (entries-act plans good h (active-rising table cs h legal) e goes own)

  -- the tables after an undo are those of the history with it
  pub kept-undo : e.undo ≡ true → IsKept cs after (undone e t)
  kept-undo undo = record {
    started = same_starts with_act;
    rows = rows_after with_act own_row;
    net = net_after;
    owed = λ k. owed_after k (eqb i k) refl;
    active = same_active;
    entries = same_entries;
  }
    where
      own_row : IsRowOf cs after i (with_act (row_of t.processes i))
      own_row =
          let was = kept.rows i bounds.0 bounds.1 in
          record {
            active = was.active ∙ sym (is_active-do h e i);
            bound = λ b. was.bound b ∙ ap (λ ds. list_all (λ d. ltb d b) ds) (sym (done_steps-undo h e i undo));
            needed = needed;
          }

      owed_after : (k : ℕ) (s : Bool) → eqb i k ≡ s → of_process k t.owed ≡ (if is_active after k then owed cs after k else [])
      owed_after k true same =
          subst (λ n. of_process n t.owed ≡ (if is_active after n then owed cs after n else [])) (eqb-true i k same)
          (kept.owed i ∙ (ap (λ a. if a then owed cs h i else []) (sym (is_active-do h e i)) ∙ ap (λ es. if is_active after i then es else []) (sym (undoes table cs h e legal undo may).owed)))
      owed_after k false other = owed-other cs h (Act e) k (of_process k t.owed) other (kept.owed k)

  -- and so are those after a step
  pub kept-step : e.undo ≡ false → IsKept cs after (stepped (course cs i) e t)
  kept-step is_step = record {
    started = same_starts (with_step e.step);
    rows = rows_after (with_step e.step) own_row;
    net = net_after;
    owed = owed-step table plans good h t legal kept e is_step goes op on;
    active = same_active;
    entries = same_entries;
  }
    where
      on : IsTrue (goes_on cs h i e.step)
      on = step_goes_on table cs h e is_step may

      own_row : IsRowOf cs after i (with_step e.step (row_of t.processes i))
      own_row =
          let was = kept.rows i bounds.0 bounds.1 in
          let all = (and_parts (goes_on_to (shape cs i) (net_steps h i) e.step) (list_all (λ d. ltb d e.step) (done_steps h i)) on).1 in
          record {
            active = was.active ∙ sym (is_active-do h e i);
            bound = λ c. bound-push (done_steps h i) e.step c all ∙ ap (λ ds. list_all (λ d. ltb d c) ds) (sym (done_steps-do h e is_step));
            needed = needed;
          }
