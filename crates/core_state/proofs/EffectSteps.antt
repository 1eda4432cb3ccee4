-- What the effect of a step makes of the tables.
use Rattle.std.proofs.Common.{◌≡◌, ◌∙◌, ℕ, ◌+◌, Bool, true, false, if◌then◌else◌, List, [], ◌∷◌, ◌++◌, length, map, filter, slice_index_or, Some, None, sym, refl, ap, append-nil, length-append, arith}
use Rattle.std.proofs.lemmas.Bool.{false≢true}
use Rattle.std.proofs.lemmas.List.{length-map, map-append}
use Rattle.std.proofs.lemmas.List.Elements.{filter-append}
use Rattle.process_tree.specs.Order.{has}
use Rattle.process_tree.specs.declared.entry.Entry.{Entry}
use Rattle.process_tree.specs.declared.plan.Plan.{Plan}
use Rattle.process_tree.specs.declared.step.StepKind.{StepKind}
use Rattle.process_tree.specs.declared.step.StepKind.TheVariants.{C, P, R, Cr}
use Rattle.process_tree.specs.Recovery.{class_by_kind, class_of, forward, reserved}
use Rattle.process_tree.specs.Shape.{Shape, branch_to, commits, fixed_len, goes_on_to, kind_of, shape_of, last_after, commits_after, commits_by_kind}
use Rattle.process_tree.proofs.Fixed.{fixed_more, commits_there}
use Rattle.schedule_model.specs.declared.event.Event.TheVariants.{Act}
use Rattle.schedule_model.specs.Course.{Course, course, course_of, shape}
use Rattle.schedule_model.specs.Histories.{active, doing, is_in, net, net_of, net_steps, of_process, steps_of}
use Rattle.schedule_model.specs.Holdings.{active_net}
use Rattle.schedule_model.specs.OwnOrder.{keeps_order}
use Rattle.schedule_model.specs.Recovery.{owed_after}
use Rattle.schedule_model.proofs.Snoc.{active-do, net-do, net_of-do}
use Rattle.machine_model.specs.declared.kept.Kept.TheVariants.{Effect}
use Rattle.machine_model.specs.declared.kept.Work.TheVariants.{Forward}
use Rattle.machine_model.specs.Moment.{Moment, Piece}
use Rattle.machine_model.specs.Pieces.{piece_of, running_of, runs}
use Rattle.machine_model.specs.State.{entry_by, entry_of, hold_of, holdings, owed_by_class, owed_by_work, owed_soon}
use Rattle.machine_model.specs.Advance.{advance, event_by}
use Rattle.machine_model.proofs.OwnOrder.{on_from, piece_keeps}
use Rattle.hold_tables.specs.Changes.{all_fixed, change_numbered, changed, net_after, took_effect, with_fixed, with_pending, with_reserved, with_running}
use Rattle.hold_tables.specs.Tables.{OpenProcess, Tables, kept_of}
use Rattle.core_state.specs.Cores.{CoreState, IsCore, courses_in, moment_of, relation}
use Rattle.core_state.specs.Effects.{step_effected}
use Rattle.core_state.specs.OpenTables.{planned_behind, planned_of, row_of, planned_step, tables_of}
use Rattle.core_state.proofs.EffectRows.{its_row, listed, net_listed, own_listed, row_after, row_by, rows_are, runs_it}
use Rattle.core_state.proofs.EffectSeats.{events_are, is_next, its_active, own, stopped}
use Rattle.core_state.proofs.NetEntries.{branch_is_net}
use Rattle.core_state.proofs.StoodRows.{changed_twice, owes_behind, owes_same}

-- a step that doesn't commit makes nothing be owed anew
owes_none : (t : Shape) (w : List ℕ) (b : ℕ) (es : List Entry) (k : StepKind) → kind_of t b ≡ k → commits_by_kind k (has b (forward t w)) ≡ false → owed_by_class (class_of t w b) es ≡ []
owes_none t w b es k is none = by_owed (has b (forward t w)) refl k is none
  where
    by_kind : (k : StepKind) (a : Bool) → commits_by_kind k a ≡ false → owed_by_class (class_by_kind k) es ≡ []
    by_kind C a none = refl
    by_kind P a none = absurd (false≢true (sym none))
    by_kind R a none = absurd (false≢true (sym none))
    by_kind Cr a none = refl

    by_owed : (a : Bool) → has b (forward t w) ≡ a → (k : StepKind) → kind_of t b ≡ k → commits_by_kind k (has b (forward t w)) ≡ false → owed_by_class (class_of t w b) es ≡ []
    by_owed true at k is none = ap (λ x. owed_by_class (if x then reserved else class_by_kind (kind_of t b)) es) at
    by_owed false at k is none =
        ap (λ x. owed_by_class (if x then reserved else class_by_kind (kind_of t b)) es) at ∙ (ap (λ x. owed_by_class (class_by_kind x) es) is ∙ by_kind k (has b (forward t w)) none)

module _ (c : CoreState) (core : IsCore c) (d : Piece) (found : piece_of c.kept d.number ≡ Some d) (out : runs (moment_of c) d.number ≡ true) (is : d.work ≡ Forward)
    (p : Plan) (plan : course (courses_in c) d.process ≡ course_of p) where
  abbrev cs : List Course
  cs = courses_in c

  abbrev m : Moment
  m = moment_of c

  abbrev i : ℕ
  i = d.process

  abbrev b : ℕ
  b = d.step

  abbrev x : Entry
  x = doing (courses_in c) d.process d.step

  abbrev after : Moment
  after = advance (relation c) (courses_in c) (moment_of c) (Effect d.number)

  abbrev s : Shape
  s = shape (courses_in c) d.process

  abbrev w : List ℕ
  w = net_steps (moment_of c).events d.process

  events : after.events ≡ m.events ++ Act x ∷ []
  events = events_are c core d found out ∙ ap (λ v. m.events ++ event_by cs i b v ∷ []) is

  active_same : active after.events ≡ active m.events
  active_same = ap active events ∙ active-do m.events x

  net_now : net after.events ≡ net m.events ++ x ∷ []
  net_now = ap net events ∙ net-do m.events x refl

  own_now : net_of after.events i ≡ net_of m.events i ++ x ∷ []
  own_now = ap (λ h. net_of h i) events ∙ net_of-do m.events x refl

  steps_now : net_steps after.events i ≡ w ++ b ∷ []
  steps_now = ap steps_of own_now ∙ map-append (λ (e : Entry). e.step) (net_of m.events i) (x ∷ [])

  -- the step goes on from what stood
  pub goes : goes_on_to (shape (courses_in c) d.process) (net_steps (moment_of c).events d.process) d.step ≡ true
  goes =
      let facts = own c core d found out in
      on_from (relation c) c.plans core.session.good m i b
      (ap (λ v. keeps_order cs m.events (event_by cs i b v)) (sym is) ∙ piece_keeps (relation c) c.plans core.session.good m d facts (is_next c core d found out) (its_active c core d found out))

  on : branch_to s b ≡ w
  on = branch_is_net c.plans core.session.good (net m.events) x (record { goes = goes; forward = refl; access = refl })

  was_running : entry_of cs (running_of m i) ≡ Some x
  was_running = ap (entry_of cs) (runs_it c core d found out) ∙ ap (entry_by cs i b) is

  -- what is reserved afterwards
  reserved_now : (hold_of cs after i).reserved ≡ map (doing cs i) (forward s (w ++ b ∷ []))
  reserved_now =
      ap (λ o. map (doing cs i) (forward s (net_steps after.events i)) ++ owed_soon cs after.events o) (stopped c core d found out)
      ∙ (append-nil (map (doing cs i) (forward s (net_steps after.events i))) ∙ ap (λ v. map (doing cs i) (forward s v)) steps_now)

  planned_same : (bs : List ℕ) → planned_of (map (doing cs i) bs) ≡ map (planned_step p) bs
  planned_same [] = refl
  planned_same (a ∷ bs) = ap (λ (y : Course). (a, slice_index_or y.ops a 0, slice_index_or y.keys a 0) ∷ planned_of (map (doing cs i) bs)) plan ∙ ap (λ ps. planned_step p a ∷ ps) (planned_same bs)

  same_shape : s ≡ shape_of p.tree
  same_shape = ap (λ (y : Course). y.shape) plan

  abbrev T : Tables
  T = tables_of c.conflicts (courses_in c) (moment_of c)

  -- the entry comes last
  net_is : net_after i (kept_of T i).running T.net ≡ active_net (holdings cs after)
  net_is =
      let act = active m.events in
      ap (λ (r : OpenProcess). net_after i r.running T.net) (its_row c core d found out)
      ∙ (ap (λ o. net_after i o T.net) was_running
      ∙ (ap (λ es. es ++ x ∷ []) (net_listed c core d found out m)
      ∙ sym (net_listed c core d found out after
      ∙ (ap (λ js. filter (λ (e : Entry). is_in e.process js) (net after.events)) active_same
      ∙ (ap (filter (λ (e : Entry). is_in e.process act)) net_now
      ∙ (filter-append (λ (e : Entry). is_in e.process act) (net m.events) (x ∷ [])
      ∙ ap (λ t. filter (λ (e : Entry). is_in e.process act) (net m.events) ++ (if t then x ∷ [] else [])) (listed c core d found out)))))))

  own_count : length (of_process i (active_net (holdings cs after))) ≡ length w + 1
  own_count =
      let same = ap (of_process i) (net_listed c core d found out after ∙ ap (λ js. filter (λ (e : Entry). is_in e.process js) (net after.events)) active_same)
      ∙ (own_listed i (active m.events) (net after.events) (listed c core d found out) ∙ own_now) in
      let a = ap length same in
      let l = length-append (net_of m.events i) (x ∷ []) in
      let n = length-map (net_of m.events i) (λ (e : Entry). e.step) in
      omega arith

  module _ (n : ℕ) (pends : n ≡ length (hold_of (courses_in c) (advance (relation c) (courses_in c) (moment_of c) (Effect d.number)) d.process).pending) where
    its_row_now : row_of cs after i ≡ row_by c core d found out (planned_of (map (doing cs i) (forward s (w ++ b ∷ [])))) (fixed_len s (w ++ b ∷ [])) n
    its_row_now =
        row_after c core d found out
        ∙ (ap (λ es. row_by c core d found out (planned_of es) (fixed_len s (net_steps after.events i)) (length (hold_of cs after i).pending)) reserved_now
        ∙ (ap (λ v. row_by c core d found out (planned_of (map (doing cs i) (forward s (w ++ b ∷ [])))) (fixed_len s v) (length (hold_of cs after i).pending)) steps_now
        ∙ ap (row_by c core d found out (planned_of (map (doing cs i) (forward s (w ++ b ∷ [])))) (fixed_len s (w ++ b ∷ []))) (sym pends)))

    abbrev rows : List OpenProcess
    rows = map (row_of (courses_in c) (moment_of c)) (active (moment_of c).events)

    -- of another step
    leaving : commits (shape_of p.tree) b ≡ false → changed (with_pending n) i (step_effected p i b T) ≡ tables_of c.conflicts cs after
    leaving none =
        let own' : commits_after s w b ≡ false = commits_there s w b on ∙ (ap (λ y. commits y b) same_shape ∙ none) in
        let fixed = fixed_more s w b ∙ ap (λ t. if t then length w + 1 else fixed_len s w) own' in
        let soon : owed_soon cs m.events (running_of m i) ≡ [] =
        ap (owed_soon cs m.events) (runs_it c core d found out) ∙ (ap (owed_by_work cs m.events i b) is ∙ owes_none s w b (owed_after cs m.events i b) (kind_of s b) refl own') in
        let reserved' : (hold_of cs m i).reserved ≡ map (doing cs i) (forward s (w ++ b ∷ [])) =
        ap (λ es. map (doing cs i) (forward s w) ++ es) soon ∙ (append-nil (map (doing cs i) (forward s w)) ∙ ap (map (doing cs i)) (sym (owes_same s w b own'))) in
        let row : with_pending n (with_running None (row_of cs m i)) ≡ row_of cs after i =
        ap (λ es. row_by c core d found out (planned_of es) (fixed_len s w) n) reserved'
        ∙ (ap (λ f. row_by c core d found out (planned_of (map (doing cs i) (forward s (w ++ b ∷ [])))) f n) (sym fixed) ∙ sym its_row_now) in
        ap (λ t. changed (with_pending n) i (if t then changed (with_reserved (planned_behind p b)) i (all_fixed i (took_effect i T)) else took_effect i T)) none
        ∙ (ap (λ ns. record { conflicts = c.conflicts; net = ns; processes = change_numbered (with_pending n) i (change_numbered (with_running None) i rows) }) net_is
        ∙ ap (λ rs. record { conflicts = c.conflicts; net = active_net (holdings cs after); processes = rs })
        (changed_twice (with_running None) (with_pending n) i rows (λ r. refl)
        ∙ rows_are c core d found out (λ r. with_pending n (with_running None r)) active_same row))

    -- of a commit point
    fixing : commits (shape_of p.tree) b ≡ true → changed (with_pending n) i (step_effected p i b T) ≡ tables_of c.conflicts cs after
    fixing fixes =
        let own' : commits_after s w b ≡ true = commits_there s w b on ∙ (ap (λ y. commits y b) same_shape ∙ fixes) in
        let len = length (of_process i (active_net (holdings cs after))) in
        let fixed : len ≡ fixed_len s (w ++ b ∷ []) = own_count ∙ sym (fixed_more s w b ∙ ap (λ t. if t then length w + 1 else fixed_len s w) own') in
        let planned : planned_behind p b ≡ planned_of (map (doing cs i) (forward s (w ++ b ∷ []))) =
        sym (planned_same (forward s (w ++ b ∷ [])) ∙ ap (map (planned_step p))
        (owes_behind s w b own' ∙ (ap (λ v. last_after s (v ++ b ∷ [])) (sym on) ∙ ap (λ y. last_after y (branch_to y b ++ b ∷ [])) same_shape))) in
        let row : with_pending n (with_reserved (planned_behind p b) (with_fixed len (with_running None (row_of cs m i)))) ≡ row_of cs after i =
        ap (λ ps. row_by c core d found out ps len n) planned
        ∙ (ap (λ f. row_by c core d found out (planned_of (map (doing cs i) (forward s (w ++ b ∷ [])))) f n) fixed ∙ sym its_row_now) in
        ap (λ t. changed (with_pending n) i (if t then changed (with_reserved (planned_behind p b)) i (all_fixed i (took_effect i T)) else took_effect i T)) fixes
        ∙ (ap (λ ns. record { conflicts = c.conflicts; net = ns; processes = change_numbered (with_pending n) i (change_numbered (with_reserved (planned_behind p b)) i (change_numbered (with_fixed (length (of_process i ns))) i (change_numbered (with_running None) i rows))) }) net_is
        ∙ ap (λ rs. record { conflicts = c.conflicts; net = active_net (holdings cs after); processes = rs })
        (ap (λ rs. change_numbered (with_pending n) i (change_numbered (with_reserved (planned_behind p b)) i rs)) (changed_twice (with_running None) (with_fixed len) i rows (λ r. refl))
        ∙ (ap (change_numbered (with_pending n) i) (changed_twice (λ r. with_fixed len (with_running None r)) (with_reserved (planned_behind p b)) i rows (λ r. refl))
        ∙ (changed_twice (λ r. with_reserved (planned_behind p b) (with_fixed len (with_running None r))) (with_pending n) i rows (λ r. refl)
        ∙ rows_are c core d found out (λ r. with_pending n (with_reserved (planned_behind p b) (with_fixed len (with_running None r)))) active_same row))))

    pub tables_step : changed (with_pending n) d.process (step_effected p d.process d.step (tables_of c.conflicts (courses_in c) (moment_of c)))
        ≡ tables_of c.conflicts (courses_in c) (advance (relation c) (courses_in c) (moment_of c) (Effect d.number))
    tables_step = by_kind (commits (shape_of p.tree) b) refl
      where
        by_kind : (t : Bool) → commits (shape_of p.tree) b ≡ t → changed (with_pending n) i (step_effected p i b T) ≡ tables_of c.conflicts cs after
        by_kind true is' = fixing is'
        by_kind false is' = leaving is'
