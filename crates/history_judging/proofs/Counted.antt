-- What an act and an end make of what is counted.
use Rattle.std.proofs.Common.{◌≡◌, ℕ, ◌+◌, ◌-◌, false, not, eqb, List, [], ◌∷◌, ◌++◌, length, filter, refl, ap, ◌∙◌, arith, append-nil, length-append}
use Rattle.std.specs.Bool.{IsTrue}
use Rattle.std.specs.List.{sum_by}
use Rattle.std.proofs.lemmas.Bool.{eq-eqb}
use Rattle.process_tree.specs.declared.entry.Entry.{Entry}
use Rattle.process_tree.specs.declared.plan.Plan.{Plan}
use Rattle.schedule_model.specs.declared.event.Event.{Event}
use Rattle.schedule_model.specs.declared.event.Event.TheVariants.{Act, End}
use Rattle.schedule_model.specs.Course.{Course, course, courses_of}
use Rattle.schedule_model.specs.Histories.{active, acts, ends, is_active, of_process}
use Rattle.schedule_model.specs.Laws.{AreGood}
use Rattle.schedule_model.specs.Limits.{entries, need, still_needed}
use Rattle.schedule_model.specs.OwnOrder.{is_in_own_order}
use Rattle.schedule_model.proofs.Active.{is_active-is_in}
use Rattle.schedule_model.proofs.Appends.{acts-append, ends-append}
use Rattle.schedule_model.proofs.Conflicts.{same_either_way}
use Rattle.schedule_model.proofs.FewActs.{acts_other, acts_own, few_acts}
use Rattle.schedule_model.proofs.Rising.{Rising}
use Rattle.schedule_model.proofs.Snoc.{active-do, active-end}
use Rattle.history_judging.proofs.OneOf.{OneOf, count-without, one_of, sum-less, sum-without, sum_same}

module _ (plans : List Plan) (good : AreGood plans) (h : List Event) (rising : Rising (active h)) where
  abbrev cs : List Course
  cs = courses_of plans

  the_one : (i : ℕ) → IsTrue (is_active h i) → OneOf i (active h)
  the_one i goes = one_of i (active h) rising (is_active-is_in h i ∙ goes)

  module _ (e : Entry) (goes : IsTrue (is_active h e.process)) (own : IsTrue (is_in_own_order cs (h ++ Act e ∷ []))) where
    -- an act is one less that its process may need
    pub needed-act : still_needed cs (h ++ Act e ∷ []) e.process ≡ still_needed cs h e.process - 1
    needed-act = let more = acts_own cs e.process h e (eq-eqb e.process e.process refl) in omega arith

    -- and there are as many entries, done and reserved
    pub entries-act : entries cs (h ++ Act e ∷ []) ≡ entries cs h
    entries-act =
        let one = ap length (acts-append h (Act e ∷ [])) in
        let long = length-append (acts h) (e ∷ []) in
        let two = ap length (ends-append h (Act e ∷ []) ∙ append-nil (ends h)) in
        let more = acts_own cs e.process h e (eq-eqb e.process e.process refl) in
        let few = few_acts plans good e.process (h ++ Act e ∷ []) own in
        let less : still_needed cs (h ++ Act e ∷ []) e.process + 1 ≡ still_needed cs h e.process = omega arith in
        let sum = sum-less e.process (active h) (the_one e.process goes) (still_needed cs h) (still_needed cs (h ++ Act e ∷ []))
        (λ k other. ap (λ es. need (course cs k) - length es) (acts_other cs k h e (same_either_way k e.process false other))) less in
        let three = ap (sum_by (still_needed cs (h ++ Act e ∷ []))) (active-do h e) in
        omega arith

  module _ (i : ℕ) (goes : IsTrue (is_active h i)) (own : IsTrue (is_in_own_order cs h)) where
    pub needed-end : (k : ℕ) → still_needed cs (h ++ End i ∷ []) k ≡ still_needed cs h k
    needed-end k = ap (λ es. need (course cs k) - length (of_process k es)) (acts-append h (End i ∷ []) ∙ append-nil (acts h))

    -- with an end one process less is active
    pub active-less : length (active (h ++ End i ∷ [])) ≡ length (active h) - 1
    active-less =
        let one = ap length (active-end h i) in
        let two = count-without i (active h) (the_one i goes) in
        omega arith

    -- and what it may still need but for its end is needed no more
    pub entries-end : entries cs (h ++ End i ∷ []) ≡ entries cs h - (still_needed cs h i - 1)
    entries-end =
        let one = ap length (acts-append h (End i ∷ []) ∙ append-nil (acts h)) in
        let two = ap length (ends-append h (End i ∷ [])) in
        let long = length-append (ends h) (i ∷ []) in
        let three = ap (sum_by (still_needed cs (h ++ End i ∷ []))) (active-end h i) in
        let four = sums (filter (λ k. not (eqb k i)) (active h)) in
        let sum = sum-without i (active h) (the_one i goes) (still_needed cs h) in
        let few = few_acts plans good i h own in
        omega arith
      where
        sums : (ks : List ℕ) → sum_by (still_needed cs (h ++ End i ∷ [])) ks ≡ sum_by (still_needed cs h) ks
        sums ks = sum_same (still_needed cs (h ++ End i ∷ [])) (still_needed cs h) ks (λ k is. needed-end k)
