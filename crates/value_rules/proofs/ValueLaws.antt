-- The value law of histories.
use Rattle.std.proofs.Common.{◌≡◌, ℕ, Bool, true, false, not, eqb, ◌&&◌, List, [], ◌∷◌, ◌++◌, length, refl, sym, ap, ◌∙◌, subst, append-nil}
use Rattle.std.specs.Bool.{IsTrue}
use Rattle.std.specs.Prelude.{nat_lt}
use Rattle.std.specs.List.{Contains, list_all}
use Rattle.std.proofs.lemmas.Bool.{and_from, eq-eqb}
use Rattle.process_tree.specs.declared.entry.Entry.{Entry}
use Rattle.process_tree.specs.declared.plan.Plan.{Plan}
use Rattle.process_tree.specs.Conflicts.{do_conflict, operations_in}
use Rattle.process_tree.proofs.Tables.{do_conflict-symmetric}
use Rattle.schedule_model.specs.declared.event.Event.{Event}
use Rattle.schedule_model.specs.Completion.{completed}
use Rattle.schedule_model.specs.Conflict.{ConflictRelation}
use Rattle.schedule_model.specs.Course.{courses_of}
use Rattle.schedule_model.specs.Histories.{acts, active, ends, net}
use Rattle.schedule_model.specs.Laws.{AreGood, Reduces}
use Rattle.schedule_model.specs.Legal.{is_legal, is_reducible}
use Rattle.schedule_model.specs.PrintedTrace.{cancel_phase, serial_phase, trace_of}
use Rattle.schedule_model.specs.Reduction.{AreReduced}
use Rattle.schedule_model.proofs.CancelPhase.{cancel-phase, net-steps_only}
use Rattle.schedule_model.proofs.Chains.{applied-steps_reduce}
use Rattle.schedule_model.proofs.Members.{Among, among-from_contains, among-left, among_there, any-among, contains-from_among}
use Rattle.schedule_model.proofs.NoConflict.{reducible-legal}
use Rattle.schedule_model.proofs.Places.{applied_all-append}
use Rattle.schedule_model.proofs.ReductionLaws.{reduction-law}
use Rattle.schedule_model.proofs.StandingLaws.{completed-legal}
use Rattle.commute_table.specs.declared.catalog.Catalog.{Catalog}
use Rattle.resource_box.specs.Table.{bars, kind_of}
use Rattle.history_files.specs.Effects.{call_of, key_of, subsystem_of, verb_of}
use Rattle.value_conflict.specs.ValueConflict.{IsValueSound}
use Rattle.value_rules.specs.Ledgers.{Deed, is_sum, met, unused}
use Rattle.value_rules.specs.Laws.{AgreeOn, AreOnce, AreSound}
use Rattle.value_rules.specs.HistoryValues.{KeepsValues, NothingIsBarred, TakesAreOfNoLess, ValueLaw, ValueLawOfCompleted, in_front_of, is_barred_in, value_after, value_found}
use Rattle.value_rules.proofs.Pairs.{Ranged, zero_fits}
use Rattle.value_rules.proofs.Chains.{law}
use Rattle.value_rules.proofs.PlanDeeds.{asked, asked-sound, is_known, known-op, sums}
use Rattle.value_rules.proofs.HistoryOnce.{acts-once}
use Rattle.value_rules.proofs.Tells.{acts-known, deed-is, history-tells, ledger, steps-tell}
use Rattle.value_rules.proofs.Barred.{NoneBarred, is_barred_at, none-at, none-from_places}
use Rattle.value_rules.proofs.Forward.{AreForward, AreLow, acts-to_net, forward-append, forward-free, forward-once, forward-within, steps-forward}
use Rattle.value_rules.proofs.Found.{behind-once, found-is, front-is, none-before, split}

module _ (c : Catalog) (plans : List Plan) where
  -- the beginnings of these entries leave what the ledger has
  abbrev Tell : List Entry → Type 0
  Tell es = (front rest : List Entry) → es ≡ front ++ rest → (q k : ℕ) → value_after c.ops plans front q k ≡ (ledger c plans front).value q k

  -- A step among entries of which each comes once.
  module _ (es front : List Entry) (e : Entry) (rest : List Entry) (is : es ≡ front ++ e ∷ rest) (once : AreOnce es) (tell : Tell es)
      (known : is_known c plans e ≡ true) (is_step : e.undo ≡ false) where
    deed : asked c plans e ≡ record { subsystem = subsystem_of c.ops e.op; call = call_of c.ops plans e }
    deed = deed-is c plans e known

    in_front : in_front_of e es ≡ front
    in_front = ap (in_front_of e) is ∙ front-is front e rest (none-before front e rest (subst AreOnce is once) is_step)

    -- it finds what it meets there
    pub found-met : value_found c.ops plans es e ≡ met (asked c plans) (ledger c plans front) e
    found-met =
        ap (λ fs. value_after c.ops plans fs (subsystem_of c.ops e.op) (key_of plans e.process e.step)) in_front
        ∙ (tell front (e ∷ rest) is (subsystem_of c.ops e.op) (key_of plans e.process e.step)
        ∙ ap (λ (d : Deed). (ledger c plans front).value d.subsystem d.call.key) (sym deed))

    -- and that is noted
    pub found-noted : value_found c.ops plans es e ≡ (ledger c plans es).found e.process e.step
    found-noted =
        found-met
        ∙ (sym (found-is (asked c plans) unused front e rest is_step (behind-once front e rest (subst AreOnce is once)))
        ∙ ap (λ fs. (ledger c plans fs).found e.process e.step) (sym is))

    -- it is barred there where it is barred at what it meets
    pub barred-met : is_barred_in c.ops plans es e ≡ is_barred_at (asked c plans) (ledger c plans front) e
    barred-met =
        ap (bars (kind_of (subsystem_of c.ops e.op)) (call_of c.ops plans e)) found-met
        ∙ (ap (λ (d : Deed). bars (kind_of d.subsystem) d.call (met (asked c plans) (ledger c plans front) e)) (sym deed)
        ∙ ap (λ u. not u && bars (kind_of (asked c plans e).subsystem) (asked c plans e).call (met (asked c plans) (ledger c plans front) e)) (sym is_step))

  module _ (h : List Event) (good : AreGood plans) (sound : IsValueSound c) (of_all : operations_in c.conflicts ≡ length c.ops)
      (planned : (p : Plan) → Contains plans p → IsTrue (list_all (λ a. nat_lt a (operations_in c.conflicts)) p.ops))
      (legal : IsTrue (is_legal (do_conflict c.conflicts) (courses_of plans) h)) (none : active h ≡ []) where
    abbrev table : ConflictRelation
    table = do_conflict c.conflicts

    abbrev serial : List Entry
    serial = (trace_of (ends h) (acts h)).list

    are_sound : AreSound table (asked c plans) (sums c plans) (is_known c plans)
    are_sound = asked-sound c plans good sound of_all planned

    reducible : IsTrue (is_reducible table (courses_of plans) h)
    reducible = reducible-legal (courses_of plans) table h legal

    range : Ranged (asked c plans) are_sound.fits unused
    range = record { value = λ q k. zero_fits; found = λ i b. zero_fits }

    reduces : Reduces table h
    reduces = reduction-law table (courses_of plans) h (do_conflict-symmetric c.conflicts) reducible none

    -- the net, and then the list, by steps that change places
    net-reduced : AreReduced table (net h) serial
    net-reduced =
        let first = cancel_phase (length (acts h)) (acts h) in
        let last = serial_phase (length first.list) (ends h) 1 first.list in
        applied-steps_reduce table last.steps (net h) serial
        (sym (applied_all-append table first.steps last.steps (acts h) (net h) (cancel-phase table (courses_of plans) h reducible).applies) ∙ reduces.applies)

    chain : AreForward table (acts h) serial
    chain = forward-append table (acts-to_net table (courses_of plans) h reducible) (steps-forward table net-reduced (net-steps_only table (courses_of plans) h))

    all_known : (e : Entry) → Among e (acts h) → is_known c plans e ≡ true
    all_known = acts-known c plans table h legal

    once : AreOnce (acts h)
    once = acts-once table (courses_of plans) h legal

    within : (e : Entry) → Among e serial → Among e (acts h)
    within e is = forward-within table chain e is

    serial-steps : (e : Entry) → Among e serial → (is_known c plans e ≡ true) × (e.undo ≡ false)
    serial-steps e is = (
      all_known e (within e is),
      net-steps_only table (courses_of plans) h e (forward-within table (steps-forward table net-reduced (net-steps_only table (courses_of plans) h)) e is),
    )

    serial-once : AreOnce serial
    serial-once = forward-once table (asked c plans) (sums c plans) (is_known c plans) are_sound unused range chain all_known once

    acts-tell : Tell (acts h)
    acts-tell front rest is = history-tells c plans table h legal front rest is

    serial-tell : Tell serial
    serial-tell front rest is = steps-tell c plans front (λ e there. serial-steps e (subst (Among e) (sym is) (among-left e front rest there)))

    agree : AgreeOn (sums c plans) serial (ledger c plans (acts h)) (ledger c plans serial)
    agree = law table (asked c plans) (sums c plans) (is_known c plans) are_sound unused range (acts h) serial all_known once reduces.reduced

    -- a step finds the same, unless it adds or takes
    found : (e : Entry) → Contains serial e → is_sum (verb_of c.ops e.op) ≡ false → value_found c.ops plans serial e ≡ value_found c.ops plans (acts h) e
    found e contained no_sum =
        let is = among-from_contains e serial contained in
        let s = split e serial is in
        let t = split e (acts h) (within e is) in
        let facts = serial-steps e is in
        found-noted serial s.front e s.rest s.is serial-once serial-tell facts.0 facts.1
        ∙ (sym (agree.1 e.process e.step
        (any-among (λ (f : Entry). eqb f.process e.process && eqb f.step e.step) e serial is (and_from (eqb e.process e.process) (eqb e.step e.step) (eq-eqb e.process e.process refl) (eq-eqb e.step e.step refl)))
        (ap (λ o. is_sum (verb_of c.ops o)) (known-op c plans e facts.0) ∙ no_sum))
        ∙ sym (found-noted (acts h) t.front e t.rest t.is once acts-tell facts.0 facts.1))

    -- nothing is barred that wasn't
    barred : NothingIsBarred c.ops plans (acts h) → TakesAreOfNoLess c.ops plans (acts h) → NothingIsBarred c.ops plans serial
    barred free low e contained is_step =
        let is = among-from_contains e serial contained in
        let s = split e serial is in
        barred-met serial s.front e s.rest s.is serial-once serial-tell (serial-steps e is).0 is_step
        ∙ none-at (asked c plans) unused s.front e s.rest (subst (NoneBarred (asked c plans) unused) s.is none-barred)
      where
        at_place : (front : List Entry) (f : Entry) (rest : List Entry) → acts h ≡ front ++ f ∷ rest → is_barred_at (asked c plans) (ledger c plans front) f ≡ false
        at_place front f rest is = by f.undo refl
          where
            there : Among f (acts h)
            there = subst (Among f) (sym is) (among_there front f rest)

            by : (u : Bool) → f.undo ≡ u → is_barred_at (asked c plans) (ledger c plans front) f ≡ false
            by true undo = ap (λ u. not u && bars (kind_of (asked c plans f).subsystem) (asked c plans f).call (met (asked c plans) (ledger c plans front) f)) undo
            by false forward =
                sym (barred-met (acts h) front f rest is once acts-tell (all_known f there) forward) ∙ free f (contains-from_among f (acts h) there) forward

        low_acts : AreLow table (asked c plans) (sums c plans) (is_known c plans) are_sound unused range (acts h)
        low_acts f there takes =
            low f (contains-from_among f (acts h) there) (ap (verb_of c.ops) (sym (known-op c plans f (all_known f there))) ∙ takes)

        none-barred : NoneBarred (asked c plans) unused serial
        none-barred =
            forward-free table (asked c plans) (sums c plans) (is_known c plans) are_sound unused range chain all_known once low_acts
            (none-from_places (asked c plans) unused (acts h) at_place)

    pub keeps : KeepsValues c.ops plans (acts h) serial
    keeps = record {
      values = λ q key. serial-tell serial [] (sym (append-nil serial)) q key ∙ (sym (agree.0 q key) ∙ sym (acts-tell (acts h) [] (sym (append-nil (acts h))) q key));
      found = found;
      barred = barred;
    }

pub value-law : ValueLaw
value-law c plans h s none = keeps c plans h s.planned.good s.sound s.catalog.of_all s.planned.known s.legal none

pub value-law_of_completed : ValueLawOfCompleted
value-law_of_completed c plans h s =
    let done = completed-legal (do_conflict c.conflicts) plans (do_conflict-symmetric c.conflicts) s.planned.good h s.legal in
    keeps c plans (completed (courses_of plans) h) s.planned.good s.sound s.catalog.of_all s.planned.known done.0 done.1
