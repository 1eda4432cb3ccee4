-- What the tables of a legal history say of it.
use Rattle.std.proofs.Common.{◌≡◌, ℕ, ◌-◌, ◌<◌, ◌≤◌, Bool, true, false, not, eqb, ltb, leb, ◌&&◌, ◌||◌, if◌then◌else◌, List, [], ◌∷◌, length, map, filter, drop, cond, sym, refl, ap, ◌∙◌, subst, arith}
use Rattle.std.specs.Bool.{IsTrue}
use Rattle.std.specs.List.{list_any}
use Rattle.std.proofs.lemmas.Bool.{and_parts, eq-eqb, eqb-true, false≢true, le-leb, leb-false, leb-true, lt-ltb, ltb-true}
use Rattle.std.proofs.lemmas.List.{get_or_past}
use Rattle.process_tree.specs.declared.entry.Entry.{Entry}
use Rattle.process_tree.specs.Shape.{fixed_len}
use Rattle.schedule_model.specs.declared.event.Event.{Event}
use Rattle.schedule_model.specs.Conflict.{ConflictRelation}
use Rattle.schedule_model.specs.Course.{Course, course, shape}
use Rattle.schedule_model.specs.Histories.{doing, ends, is_active, is_in, net, net_of, net_steps, of_process, same_step, starts, steps_of}
use Rattle.schedule_model.specs.Holdings.{active_net, at_rest, holders}
use Rattle.schedule_model.specs.Legal.{is_legal}
use Rattle.schedule_model.specs.Recovery.{backward_entries, owed, owed_steps}
use Rattle.schedule_model.proofs.Clear.{is_holder}
use Rattle.schedule_model.proofs.Members.{Among, among-filter, in_filter}
use Rattle.schedule_model.proofs.Prefixes.{legal-numbered}
use Rattle.schedule_model.proofs.Snoc.{filter_same, filter_through}
use Rattle.history_judging.specs.declared.legality.ProcessRow.{ProcessRow}
use Rattle.history_judging.specs.Judging.{steps_among}
use Rattle.history_judging.specs.Keeping.{IsKept, Tables, is_active_in, not_started, row_of}
use Rattle.schedule_rules.specs.Recovering.{backward_among}
use Rattle.schedule_rules.proofs.ListTests.{not_passed}

-- a test that only those pass which a filter lets through
any-through : (p q : Entry → Bool) (xs : List Entry) → ((x : Entry) → p x ≡ true → q x ≡ true) → list_any p (filter q xs) ≡ list_any p xs
any-through p q [] through = refl
any-through p q (x ∷ xs) through = by_tests (p x) (q x) refl refl (any-through p q xs through)
  where
    by_tests : (a b : Bool) → p x ≡ a → q x ≡ b → list_any p (filter q xs) ≡ list_any p xs → list_any p (cond b (x ∷ filter q xs) (filter q xs)) ≡ (a || list_any p xs)
    by_tests a true is in' rest = ap (λ t. t || list_any p (filter q xs)) is ∙ ap (λ t. a || t) rest
    by_tests true false is out rest = absurd (false≢true (sym out ∙ through x is))
    by_tests false false is out rest = rest

-- entries of process i are of the step of e where their steps are
any-doing : (courses : List Course) (e : Entry) (bs : List ℕ) → list_any (same_step e) (map (doing courses e.process) bs) ≡ is_in e.step bs
any-doing courses e [] = refl
any-doing courses e (b ∷ bs) =
    ap (λ t. (t && eqb e.step b) || list_any (same_step e) (map (doing courses e.process) bs)) (eq-eqb e.process e.process refl)
    ∙ ap (λ t. eqb e.step b || t) (any-doing courses e bs)

-- a place that isn't within
beyond : (n i : ℕ) → 0 < i → leb i n ≡ false → n ≤ i - 1
beyond n i some past = omega (arith, leb-false i n past, some)

module _ (table : ConflictRelation) (courses : List Course) (h : List Event) (t : Tables) (legal : IsTrue (is_legal table courses h)) (kept : IsKept courses h t) where
  never_started : (i : ℕ) → (is_in i (starts h) ≡ true → ⊥) → is_active h i ≡ false
  never_started i no' = ap (λ s. s && not (is_in i (ends h))) (not_passed (is_in i (starts h)) no')

  -- the tables say who is active
  pub active-is : (i : ℕ) → is_active_in t.processes i ≡ is_active h i
  active-is i = by_place (ltb 0 i) (leb i (length t.processes)) refl refl
    where
      by_place : (a b : Bool) → ltb 0 i ≡ a → leb i (length t.processes) ≡ b → is_active_in t.processes i ≡ is_active h i
      by_place true true some within = ap (λ s. s && (row_of t.processes i).active) some ∙ (kept.rows i (ltb-true 0 i some) (leb-true i (length t.processes) within)).active
      by_place false b none within =
          ap (λ s. s && (row_of t.processes i).active) none
          ∙ sym (never_started i (λ is. let bounds = (legal-numbered table courses h legal i is).0 in false≢true (sym none ∙ lt-ltb 0 i (omega arith))))
      by_place true false some past =
          ap (λ s. s && (row_of t.processes i).active) some
          ∙ (ap (λ (row : ProcessRow). row.active) (get_or_past t.processes (i - 1) not_started (beyond (length t.processes) i (ltb-true 0 i some) past))
          ∙ sym (never_started i (λ is. let high = (legal-numbered table courses h legal i is).1 in let many = kept.started in false≢true (sym past ∙ le-leb i (length t.processes) (omega arith)))))

  -- an active process started
  pub started-within : (i : ℕ) → IsTrue (is_active h i) → (0 < i) × (i ≤ length t.processes)
  started-within i goes =
      let bounds = legal-numbered table courses h legal i (and_parts (is_in i (starts h)) (not (is_in i (ends h))) goes).0 in
      let low = bounds.0 in
      let high = bounds.1 in
      let many = kept.started in
      (omega arith, omega arith)

  -- the net of the active processes
  pub net-is : t.net ≡ active_net (at_rest courses h)
  net-is = kept.net ∙ filter_same (λ (e : Entry). is_active h e.process) (λ (e : Entry). is_in e.process (holders (at_rest courses h))) (net h) (λ e. sym (is_holder courses h e.process))

  -- and that of each of them
  pub own-net : (i : ℕ) → IsTrue (is_active h i) → of_process i t.net ≡ net_of h i
  own-net i goes =
      ap (of_process i) kept.net
      ∙ filter_through (λ (e : Entry). eqb e.process i) (λ (e : Entry). is_active h e.process) (net h) (λ e is. ap (is_active h) (eqb-true e.process i is) ∙ goes)

  pub own-steps : (i : ℕ) → IsTrue (is_active h i) → steps_among t.net i ≡ net_steps h i
  own-steps i goes = ap steps_of (own-net i goes)

  pub own-backward : (i : ℕ) → IsTrue (is_active h i) → backward_among (course courses i) t.net i ≡ backward_entries courses h i
  own-backward i goes = ap (λ es. drop (fixed_len (shape courses i) (steps_of es)) es) (own-net i goes)

  -- what an active process owes
  pub own-owed : (i : ℕ) → IsTrue (is_active h i) → of_process i t.owed ≡ owed courses h i
  own-owed i goes = kept.owed i ∙ ap (λ a. if a then owed courses h i else []) goes

  -- what stands among the owed is owed by an active process
  pub among-owed : (s : Entry) → Among s t.owed → IsTrue (is_active h s.process) × Among s (owed courses h s.process)
  among-owed s is =
      by_active (is_active h s.process) refl
      (subst (Among s) (kept.owed s.process) (in_filter (λ (e : Entry). eqb e.process s.process) s t.owed is (eq-eqb s.process s.process refl)))
    where
      by_active : (a : Bool) → is_active h s.process ≡ a → Among s (if a then owed courses h s.process else []) → IsTrue (is_active h s.process) × Among s (owed courses h s.process)
      by_active true goes owes = (goes, owes)
      by_active false stopped none = absurd none

  pub in_owed : (k : ℕ) (s : Entry) → IsTrue (is_active h k) → Among s (owed courses h k) → Among s t.owed
  in_owed k s goes owes = (among-filter (λ (e : Entry). eqb e.process k) s t.owed (subst (Among s) (sym (own-owed k goes)) owes)).0

  -- a step of an active process is owed where the tables have it
  pub owed-class : (e : Entry) → IsTrue (is_active h e.process) → list_any (same_step e) t.owed ≡ is_in e.step (owed_steps courses h e.process)
  owed-class e goes =
      sym (any-through (same_step e) (λ (s : Entry). eqb s.process e.process) t.owed (λ s is. eq-eqb s.process e.process (sym (eqb-true e.process s.process (and_parts (eqb e.process s.process) (eqb e.step s.step) is).0))))
      ∙ (ap (list_any (same_step e)) (own-owed e.process goes) ∙ any-doing courses e (owed_steps courses h e.process))
