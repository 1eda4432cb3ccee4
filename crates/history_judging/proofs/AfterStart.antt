-- The tables after a start.
use Rattle.std.proofs.Common.{◌≡◌, ℕ, ◌+◌, ◌<◌, ◌≤◌, Bool, true, false, not, eqb, leb, ltb, if◌then◌else◌, List, [], ◌∷◌, ◌++◌, length, map, filter, sym, refl, ap, ◌∙◌, subst, arith, append-nil, length-append}
use Rattle.std.specs.Bool.{IsTrue}
use Rattle.std.specs.List.{list_all}
use Rattle.std.proofs.lemmas.Bool.{and_parts, eq-eqb, eqb-false, eqb-true, false≢true, le-leb, leb-false, leb-true, ne_eqb, or_left, or_right}
use Rattle.process_tree.specs.declared.entry.Entry.{Entry}
use Rattle.process_tree.specs.Recovery.{forward}
use Rattle.schedule_model.specs.declared.event.Event.{Event}
use Rattle.schedule_model.specs.declared.event.Event.TheVariants.{Start}
use Rattle.schedule_model.specs.Conflict.{ConflictRelation, no_conflict}
use Rattle.schedule_model.specs.Course.{Course, course, shape}
use Rattle.schedule_model.specs.Histories.{active, acts, doing, done_steps, ends, is_active, is_in, net, net_of, of_process, starts, steps_of}
use Rattle.schedule_model.specs.Legal.{is_legal, may_come}
use Rattle.schedule_model.specs.Limits.{need}
use Rattle.schedule_model.specs.OwnOrder.{keeps_order}
use Rattle.schedule_model.specs.Recovery.{owed}
use Rattle.schedule_model.proofs.Acting.{order_of}
use Rattle.schedule_model.proofs.Active.{is_active-is_in}
use Rattle.schedule_model.proofs.Appends.{acts-append, done_steps-append, is_in-append, starts-append}
use Rattle.schedule_model.proofs.Frames.{frame}
use Rattle.schedule_model.proofs.Members.{among-filter, filter-agree, filter-none}
use Rattle.schedule_model.proofs.NoConflict.{legal-from_own_order, own_order-legal}
use Rattle.schedule_model.proofs.Prefixes.{legal-numbered}
use Rattle.schedule_model.proofs.Snoc.{net-start}
use Rattle.schedule_model.proofs.Started.{acts-started, net-started}
use Rattle.schedule_model.proofs.WithinLimits.{active-start_new, entries-start}
use Rattle.history_judging.specs.declared.legality.ProcessRow.{ProcessRow}
use Rattle.history_judging.specs.Keeping.{IsKept, IsRowOf, Tables, row_of, started}
use Rattle.history_judging.proofs.Rows.{row-new, row-push}
use Rattle.history_judging.proofs.Unchanged.{owed-other, row-stays}

module _ (table : ConflictRelation) (cs : List Course) (h : List Event) (t : Tables) (legal : IsTrue (is_legal table cs h)) (kept : IsKept cs h t)
    (k : ℕ) (may : IsTrue (may_come table cs h (Start k))) where
  abbrev after : List Event
  after = h ++ Start k ∷ []

  abbrev row : ProcessRow
  row = record { active = true; bound = 0; needed = need (course cs k) }

  keeps : IsTrue (keeps_order cs h (Start k))
  keeps = order_of table cs h (Start k) may

  free : IsTrue (is_legal no_conflict cs h)
  free = legal-from_own_order cs h (own_order-legal cs table h legal)

  next : k ≡ length (starts h) + 1
  next = eqb-true k (length (starts h) + 1) keeps

  -- who started has another number
  other_number : (i : ℕ) → IsTrue (is_in i (starts h)) → eqb i k ≡ false
  other_number i is = ne_eqb i k (λ same. (let high = (legal-numbered table cs h legal i is).1 in omega (arith, high, next, same)))

  other_number' : (i : ℕ) → IsTrue (is_in i (starts h)) → eqb k i ≡ false
  other_number' i is = ne_eqb k i (λ same. (let high = (legal-numbered table cs h legal i is).1 in omega (arith, high, next, same)))

  -- nothing of the process took effect
  no_acts : of_process k (acts after) ≡ []
  no_acts =
      ap (of_process k) (acts-append h (Start k ∷ []) ∙ append-nil (acts h))
      ∙ filter-none (λ (e : Entry). eqb e.process k) (acts h) (λ e is. other_number e.process (acts-started table cs h legal e is))

  none_done : done_steps after k ≡ []
  none_done =
      done_steps-append h (Start k ∷ []) k
      ∙ (append-nil (done_steps h k)
      ∙ ap steps_of (filter-none (λ (e : Entry). eqb e.process k) (filter (λ (e : Entry). not e.undo) (acts h))
      (λ e is. other_number e.process (acts-started table cs h legal e (among-filter (λ (e : Entry). not e.undo) e (acts h) is).0))))

  no_net : net_of after k ≡ []
  no_net =
      ap (of_process k) (net-start h k)
      ∙ filter-none (λ (e : Entry). eqb e.process k) (net h) (λ e is. other_number e.process (net-started table cs h legal e is))

  is_active' : IsTrue (is_active after k)
  is_active' =
      sym (is_active-is_in after k)
      ∙ (ap (is_in k) (active-start_new cs h k free keeps)
      ∙ (is_in-append k (active h) (k ∷ []) ∙ or_right (is_in k (active h)) (is_in k (k ∷ [])) (or_left (eqb k k) false (eq-eqb k k refl))))

  new_row : IsRowOf cs after k row
  new_row = record {
    active = sym is_active';
    bound = λ b. le-leb 0 b (omega arith) ∙ sym (ap (λ ds. list_all (λ d. ltb d b) ds) none_done);
    needed = (let none = ap length no_acts in omega arith);
  }

  -- it owes nothing yet
  no_owed : of_process k t.owed ≡ (if is_active after k then owed cs after k else [])
  no_owed =
      kept.owed k
      ∙ (ap (λ a. if a then owed cs h k else []) before
      ∙ sym (ap (λ a. if a then owed cs after k else []) is_active' ∙ ap (λ es. map (doing cs k) (forward (shape cs k) (steps_of es))) no_net))
    where
      before : is_active h k ≡ false
      before = by_active (is_active h k) refl
        where
          by_active : (a : Bool) → is_active h k ≡ a → a ≡ false
          by_active false is = refl
          by_active true is = absurd (false≢true (sym (other_number k (and_parts (is_in k (starts h)) (not (is_in k (ends h))) is).0) ∙ eq-eqb k k refl))

  -- a number that is there now and isn't the new one was there before
  below : (i : ℕ) → i ≤ length (t.processes ++ row ∷ []) → (k ≡ i → ⊥) → i ≤ length t.processes
  below i within other = by_order (leb i (length t.processes)) refl
    where
      by_order : (c : Bool) → leb i (length t.processes) ≡ c → i ≤ length t.processes
      by_order true is = leb-true i (length t.processes) is
      by_order false past =
          let l = leb-false i (length t.processes) past in
          let long = length-append t.processes (row ∷ []) in
          let many = kept.started in
          absurd (other (omega (arith, next, many, long, within, l)))

  rows_after : (i : ℕ) → 0 < i → i ≤ length (t.processes ++ row ∷ []) → IsRowOf cs after i (row_of (t.processes ++ row ∷ []) i)
  rows_after i some within = by_process (eqb k i) refl
    where
      by_process : (s : Bool) → eqb k i ≡ s → IsRowOf cs after i (row_of (t.processes ++ row ∷ []) i)
      by_process true same =
          let is = eqb-true k i same in
          subst (λ n. IsRowOf cs after n (row_of (t.processes ++ row ∷ []) n)) is
          (subst (IsRowOf cs after k) (sym (row-new t.processes row k (next ∙ ap (λ n. n + 1) (sym kept.started)))) new_row)
      by_process false other =
          let inner : i ≤ length t.processes = below i within (eqb-false k i other) in
          subst (IsRowOf cs after i) (sym (row-push t.processes row i some inner)) (row-stays cs h (Start k) i (row_of t.processes i) other (kept.rows i some inner))

  -- the tables after a start are those of the history with it
  pub kept-start : IsKept cs after (started (course cs k) t)
  kept-start = record {
    started = length-append t.processes (row ∷ [])
        ∙ (ap (λ n. n + 1) kept.started ∙ sym (ap length (starts-append h (Start k ∷ [])) ∙ length-append (starts h) (k ∷ [])));
    rows = rows_after;
    net = kept.net
        ∙ (filter-agree (λ (e : Entry). is_active h e.process) (λ (e : Entry). is_active after e.process) (net h) (λ e is. sym (frame cs h (Start k) e.process (other_number' e.process (net-started table cs h legal e is))).active)
        ∙ ap (filter (λ (e : Entry). is_active after e.process)) (sym (net-start h k)));
    owed = λ i. by_owner i (eqb k i) refl;
    active = ap (λ n. n + 1) kept.active ∙ sym (ap length (active-start_new cs h k free keeps) ∙ length-append (active h) (k ∷ []));
    entries = ap (λ n. n + need (course cs k)) kept.entries ∙ sym (entries-start cs h k free keeps);
  }
    where
      by_owner : (i : ℕ) (s : Bool) → eqb k i ≡ s → of_process i t.owed ≡ (if is_active after i then owed cs after i else [])
      by_owner i true same = subst (λ n. of_process n t.owed ≡ (if is_active after n then owed cs after n else [])) (eqb-true k i same) no_owed
      by_owner i false other = owed-other cs h (Start k) i (of_process i t.owed) other (kept.owed i)
