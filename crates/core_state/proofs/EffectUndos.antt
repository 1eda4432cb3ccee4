-- What the effect of an undo makes of the tables, and that of an end.
use Rattle.std.proofs.Common.{◌≡◌, ◌∙◌, ℕ, ◌-◌, Bool, true, false, not, eqb, ◌&&◌, if◌then◌else◌, List, [], ◌∷◌, ◌++◌, length, map, filter, take, Some, None, sym, refl, ap, subst, append-nil, append_assoc, length-append, arith}
use Rattle.std.proofs.lemmas.List.{length-drop, length-map, length-take, take-append-drop}
use Rattle.std.proofs.lemmas.List.Elements.{filter-append}
use Rattle.process_tree.specs.declared.entry.Entry.{Entry}
use Rattle.process_tree.specs.Order.{Each}
use Rattle.process_tree.specs.Shape.{Shape, fixed_len}
use Rattle.process_tree.proofs.Fixed.{fixed_le}
use Rattle.schedule_model.specs.declared.event.Event.TheVariants.{Act}
use Rattle.schedule_model.specs.Course.{Course, shape}
use Rattle.schedule_model.specs.Histories.{active, doing, is_in, net, net_of, net_steps, of_process, same_step, undoing}
use Rattle.schedule_model.specs.Holdings.{Hold, active_net}
use Rattle.schedule_model.proofs.Active.{is_in-filter}
use Rattle.schedule_model.proofs.Members.{filter-agree}
use Rattle.schedule_model.proofs.Snoc.{active-do, net-end, net-undo}
use Rattle.machine_model.specs.declared.kept.Kept.TheVariants.{Effect}
use Rattle.machine_model.specs.declared.kept.Work.TheVariants.{End, Undo}
use Rattle.machine_model.specs.HoldLaws.{UndoTakesEffect}
use Rattle.machine_model.specs.Moment.{Moment, Piece}
use Rattle.machine_model.specs.PieceLaws.{IsUndoOf}
use Rattle.machine_model.specs.Pieces.{piece_of, running_of, runs}
use Rattle.machine_model.specs.State.{entry_by, entry_of, hold_of, holdings}
use Rattle.machine_model.specs.Advance.{advance, event_by}
use Rattle.machine_model.proofs.HoldChanges.{undos_take_effect}
use Rattle.machine_model.proofs.OwnOrderLaws.{undos_take_back_the_last}
use Rattle.hold_tables.specs.Changes.{change_numbered, changed, dropped, net_after, took_effect, with_pending, with_running, without_last}
use Rattle.hold_tables.specs.Tables.{OpenProcess, Tables, kept_of}
use Rattle.core_state.specs.Cores.{CoreState, IsCore, courses_in, machine_of, moment_of, relation}
use Rattle.core_state.specs.OpenTables.{planned_of, row_of, tables_of}
use Rattle.core_state.proofs.EffectRows.{its_row, listed, net_listed, others_stay, own_listed, row_after, row_by, rows_are, runs_it}
use Rattle.core_state.proofs.EffectSeats.{end_goes, events_are}
use Rattle.core_state.proofs.LastEntries.{all_pass, filter_both, filter_swap, last_goes}
use Rattle.core_state.proofs.StoodRows.{changed_twice}

module _ (c : CoreState) (core : IsCore c) (d : Piece) (found : piece_of c.kept d.number ≡ Some d) (out : runs (moment_of c) d.number ≡ true) where
  abbrev cs : List Course
  cs = courses_in c

  abbrev m : Moment
  m = moment_of c

  abbrev i : ℕ
  i = d.process

  abbrev after : Moment
  after = advance (relation c) (courses_in c) (moment_of c) (Effect d.number)

  abbrev T : Tables
  T = tables_of c.conflicts (courses_in c) (moment_of c)

  abbrev rows : List OpenProcess
  rows = map (row_of (courses_in c) (moment_of c)) (active (moment_of c).events)

  module _ (is : d.work ≡ Undo) where
    abbrev u : Entry
    u = undoing (doing (courses_in c) d.process d.step)

    abbrev q : Entry → Bool
    q e = not (same_step e (undoing (doing (courses_in c) d.process d.step)))

    abbrev h : Hold
    h = hold_of (courses_in c) (moment_of c) d.process

    abbrev g : Hold
    g = hold_of (courses_in c) (advance (relation c) (courses_in c) (moment_of c) (Effect d.number)) d.process

    abbrev s : Shape
    s = shape (courses_in c) d.process

    abbrev w : List ℕ
    w = net_steps (moment_of c).events d.process

    abbrev kept_len : ℕ
    kept_len = fixed_len s w

    events : after.events ≡ m.events ++ Act u ∷ []
    events = events_are c core d found out ∙ ap (λ v. m.events ++ event_by cs i d.step v ∷ []) is

    active_same : active after.events ≡ active m.events
    active_same = ap active events ∙ active-do m.events u

    net_now : net after.events ≡ filter q (net m.events)
    net_now = ap net events ∙ net-undo m.events u refl

    was_running : entry_of cs (running_of m i) ≡ Some u
    was_running = ap (entry_of cs) (runs_it c core d found out) ∙ ap (entry_by cs i d.step) is

    effect : UndoTakesEffect cs i d.step h g
    effect = undos_take_effect (relation c) c.plans (machine_of c) d.number d.number i d.step core.session out
        (found ∙ ap (λ v. Some (record { number = d.number; process = d.process; step = d.step; work = v })) is)

    back : net_steps after.events i ≡ take (length w - 1) w
    back = undos_take_back_the_last (relation c) c.plans (machine_of c) (Effect d.number) i core.session out (subst (IsUndoOf i (Effect d.number)) (sym found) (refl, is))

    -- how many entries it has, before and after
    own_many : length (net_of m.events i) ≡ length w
    own_many = sym (length-map (net_of m.events i) (λ (e : Entry). e.step))

    own_fewer : length (net_of after.events i) ≡ length w - 1
    own_fewer =
        let a = length-map (net_of after.events i) (λ (e : Entry). e.step) in
        let b = ap length back in
        let t = length-take (length w - 1) w in
        omega arith

    -- as many are fixed
    fixed_same : fixed_len s (net_steps after.events i) ≡ kept_len
    fixed_same =
        let a = length-drop kept_len (net_of m.events i) in
        let b = length-drop (fixed_len s (net_steps after.events i)) (net_of after.events i) in
        let t = ap length effect.taken_back in
        let l = length-append g.backward_entries (effect.last ∷ []) in
        let most = fixed_le s (net_steps after.events i) in
        let less = fixed_le s w in
        let many = own_many in
        let fewer = own_fewer in
        let steps = length-map (net_of after.events i) (λ (e : Entry). e.step) in
        omega arith

    abbrev front : List Entry
    front = take kept_len (net_of (moment_of c).events d.process) ++ g.backward_entries

    own_is : net_of m.events i ≡ front ++ effect.last ∷ []
    own_is =
        sym (take-append-drop kept_len (net_of m.events i))
        ∙ (ap (λ es. take kept_len (net_of m.events i) ++ es) effect.taken_back
        ∙ sym (append_assoc (take kept_len (net_of m.events i)) g.backward_entries (effect.last ∷ [])))

    last_fails : q effect.last ≡ false
    last_fails = ap not effect.is_its

    own_after : net_of after.events i ≡ filter q front
    own_after =
        ap (of_process i) net_now
        ∙ (filter_swap (λ (e : Entry). eqb e.process i) q (net m.events)
        ∙ (ap (filter q) own_is
        ∙ (filter-append q front (effect.last ∷ []) ∙ (ap (λ t. filter q front ++ (if t then effect.last ∷ [] else [])) last_fails ∙ append-nil (filter q front)))))

    others_pass : (e : Entry) → eqb e.process i ≡ false → q e ≡ true
    others_pass e other = ap (λ t. not (t && eqb e.step d.step)) other

    front_pass : Each (λ e. q e ≡ true) front
    front_pass = all_pass q front (let a = ap length own_after in let b = ap length own_is in let l = length-append front (effect.last ∷ []) in let many = own_many in let fewer = own_fewer in omega arith)

    net_is : net_after i (kept_of T i).running T.net ≡ active_net (holdings cs after)
    net_is =
        let act = active m.events in
        let es = filter (λ (e : Entry). is_in e.process act) (net m.events) in
        ap (λ (r : OpenProcess). net_after i r.running T.net) (its_row c core d found out)
        ∙ (ap (λ o. net_after i o T.net) was_running
        ∙ (ap (without_last i) (net_listed c core d found out m)
        ∙ (last_goes i q others_pass effect.last last_fails es front (own_listed i act (net m.events) (listed c core d found out) ∙ own_is) front_pass
        ∙ sym (net_listed c core d found out after
        ∙ (ap (λ js. filter (λ (e : Entry). is_in e.process js) (net after.events)) active_same
        ∙ (ap (filter (λ (e : Entry). is_in e.process act)) net_now
        ∙ filter_swap (λ (e : Entry). is_in e.process act) q (net m.events)))))))

    module _ (n : ℕ) (pends : n ≡ length (hold_of (courses_in c) (advance (relation c) (courses_in c) (moment_of c) (Effect d.number)) d.process).pending) where
      row : with_pending n (with_running None (row_of cs m i)) ≡ row_of cs after i
      row =
          ap (λ es. row_by c core d found out (planned_of es) kept_len n) (sym effect.still_reserved)
          ∙ (ap (λ f. row_by c core d found out (planned_of g.reserved) f n) (sym fixed_same)
          ∙ (ap (row_by c core d found out (planned_of g.reserved) (fixed_len s (net_steps after.events i))) pends ∙ sym (row_after c core d found out)))

      pub tables_undo : changed (with_pending n) d.process (took_effect d.process (tables_of c.conflicts (courses_in c) (moment_of c)))
          ≡ tables_of c.conflicts (courses_in c) (advance (relation c) (courses_in c) (moment_of c) (Effect d.number))
      tables_undo =
          ap (λ ns. record { conflicts = c.conflicts; net = ns; processes = change_numbered (with_pending n) i (change_numbered (with_running None) i rows) }) net_is
          ∙ ap (λ rs. record { conflicts = c.conflicts; net = active_net (holdings cs after); processes = rs })
          (changed_twice (with_running None) (with_pending n) i rows (λ r. refl)
          ∙ rows_are c core d found out (λ r. with_pending n (with_running None r)) active_same row)

  module _ (is : d.work ≡ End) where
    net_same : net after.events ≡ net m.events
    net_same = ap net (events_are c core d found out ∙ ap (λ v. m.events ++ event_by cs i d.step v ∷ []) is) ∙ net-end m.events i

    goes_now : active after.events ≡ filter (λ j. not (eqb j i)) (active m.events)
    goes_now = end_goes c core d found out is

    rows_left : (js : List ℕ) → filter (λ (r : OpenProcess). not (eqb r.process i)) (map (row_of cs m) js) ≡ map (row_of cs after) (filter (λ j. not (eqb j i)) js)
    rows_left [] = refl
    rows_left (j ∷ js) = by_own (eqb j i) refl (rows_left js)
      where
        by_own : (t : Bool) → eqb j i ≡ t → filter (λ (r : OpenProcess). not (eqb r.process i)) (map (row_of cs m) js) ≡ map (row_of cs after) (filter (λ k. not (eqb k i)) js)
            → filter (λ (r : OpenProcess). not (eqb r.process i)) (map (row_of cs m) (j ∷ js)) ≡ map (row_of cs after) (filter (λ k. not (eqb k i)) (j ∷ js))
        by_own true own rest =
            ap (λ t. if not t then row_of cs m j ∷ filter (λ (r : OpenProcess). not (eqb r.process i)) (map (row_of cs m) js) else filter (λ (r : OpenProcess). not (eqb r.process i)) (map (row_of cs m) js)) own
            ∙ (rest ∙ sym (ap (λ t. map (row_of cs after) (if not t then j ∷ filter (λ k. not (eqb k i)) js else filter (λ k. not (eqb k i)) js)) own))
        by_own false own rest =
            ap (λ t. if not t then row_of cs m j ∷ filter (λ (r : OpenProcess). not (eqb r.process i)) (map (row_of cs m) js) else filter (λ (r : OpenProcess). not (eqb r.process i)) (map (row_of cs m) js)) own
            ∙ (ap (λ r. r ∷ filter (λ (x : OpenProcess). not (eqb x.process i)) (map (row_of cs m) js)) (others_stay c core d found out j own)
            ∙ (ap (λ rs. row_of cs after j ∷ rs) rest ∙ sym (ap (λ t. map (row_of cs after) (if not t then j ∷ filter (λ k. not (eqb k i)) js else filter (λ k. not (eqb k i)) js)) own)))

    net_left : filter (λ (e : Entry). not (eqb e.process i)) (active_net (holdings cs m)) ≡ active_net (holdings cs after)
    net_left =
        let act = active m.events in
        ap (filter (λ (e : Entry). not (eqb e.process i))) (net_listed c core d found out m)
        ∙ (filter_both (λ (e : Entry). is_in e.process act) (λ e. not (eqb e.process i)) (net m.events)
        ∙ (filter-agree (λ (e : Entry). is_in e.process act && not (eqb e.process i)) (λ e. is_in e.process (filter (λ j. not (eqb j i)) act)) (net m.events)
        (λ e among. sym (is_in-filter (λ j. not (eqb j i)) e.process act))
        ∙ sym (net_listed c core d found out after
        ∙ (ap (filter (λ (e : Entry). is_in e.process (active after.events))) net_same
        ∙ ap (λ js. filter (λ (e : Entry). is_in e.process js) (net m.events)) goes_now))))

    pub tables_end : dropped d.process (tables_of c.conflicts (courses_in c) (moment_of c)) ≡ tables_of c.conflicts (courses_in c) (advance (relation c) (courses_in c) (moment_of c) (Effect d.number))
    tables_end =
        ap (λ ns. record { conflicts = c.conflicts; net = ns; processes = filter (λ (r : OpenProcess). not (eqb r.process i)) rows }) net_left
        ∙ ap (λ rs. record { conflicts = c.conflicts; net = active_net (holdings cs after); processes = rs }) (rows_left (active m.events) ∙ ap (map (row_of cs after)) (sym goes_now))
