-- Beginnings of a history in own order: what is asked of each, and what is found of them.
use Rattle.std.proofs.Common.{◌≡◌, ◌⊎◌, inl, inr, ℕ, zero, suc, ◌+◌, append_assoc, ◌<◌, ◌≤◌, Bool, true, false, ◌&&◌, List, [], ◌∷◌, ◌++◌, length, take, filter, map, reverse, cond, sym, refl, ap, ◌∙◌, subst, arith, length-append}
use Rattle.std.specs.Bool.{IsTrue}
use Rattle.std.specs.List.{list_any, flat_map}
use Rattle.std.proofs.Math.Seq.{take-append_seam}
use Rattle.std.proofs.lemmas.Bool.{cases_lt, false≢true, and_parts, or_left, or_right, eq-eqb}
use Rattle.std.proofs.lemmas.List.{take-append-drop}
use Rattle.std.specs.Prelude.{◌↔◌, nat_eq, drop}
use Rattle.process_tree.specs.declared.entry.Entry.{Entry}
use Rattle.process_tree.specs.declared.plan.Plan.{Plan}
use Rattle.process_tree.specs.Conflicts.{Table, do_conflict}
use Rattle.process_tree.proofs.Tables.{do_conflict-symmetric}
use Rattle.process_tree.specs.Recovery.{forward}
use Rattle.schedule_model.specs.declared.event.Event.{Event}
use Rattle.schedule_model.specs.declared.event.Event.TheVariants.{Act, End}
use Rattle.schedule_model.specs.Course.{Course, courses_of}
use Rattle.schedule_model.specs.Conflict.{ConflictRelation, no_conflict}
use Rattle.schedule_model.specs.Completion.{is_to_undo, all_backward_entries, closing, completion}
use Rattle.schedule_model.specs.Histories.{acts, active, is_active, is_in, net, net_steps, doing, same_step, starts, undoing}
use Rattle.schedule_model.specs.Laws.{IsGood, IsPlanned, plans_in}
use Rattle.schedule_model.specs.Legal.{is_legal}
use Rattle.schedule_model.specs.OwnOrder.{is_in_own_order}
use Rattle.schedule_model.specs.Recovery.{backward_entries, owed_steps}
use Rattle.schedule_model.proofs.Active.{is_active-is_in}
use Rattle.schedule_model.proofs.Appends.{starts-append}
use Rattle.schedule_model.proofs.Courses.{SameCourse, backward_entries-courses, doing-courses}
use Rattle.schedule_model.proofs.NoConflict.{legal-from_own_order, own_order-legal}
use Rattle.schedule_model.proofs.Prefixes.{planned-prefix, prefix-law, courses_in}
use Rattle.schedule_model.proofs.Legal.{is_legal-prefix}
use Rattle.dependence_model.specs.Dependence.{is_barred, is_cyclic}
use Rattle.dependence_model.specs.Audited.{CanReduce, completed_schedule, IsPrefixReducible}
use Rattle.dependence_model.specs.Laws.{AreOnce, TestIsExact, SchedulesAreOnce}
use Rattle.audit_core.specs.declared.judging.Audited.{Audited}
use Rattle.audit_core.specs.declared.judging.Audited.TheVariants.{Reducible, Barred, Cycle}
use Rattle.audit_core.specs.Audits.{IsAudit, IsBarred, IsCyclic, IsFailing, IsFoundFrom, IsLeastFrom, NowFound, schedule_at, serial_schedule}

-- Completion asks the courses of the active processes alone.
module _ (cs ds : List Course) (h : List Event) (same : (i : ℕ) → IsTrue (is_active h i) → SameCourse cs ds i) where
  filter-same : (p q : Entry → Bool) → ((e : Entry) → p e ≡ q e) → (es : List Entry) → filter p es ≡ filter q es
  filter-same p q alike [] = refl
  filter-same p q alike (e ∷ es) = ap (λ t. cond t (e ∷ filter p es) (filter p es)) (alike e) ∙ ap (λ fs. cond (q e) (e ∷ fs) fs) (filter-same p q alike es)

  to_undo-same : (e : Entry) → is_to_undo cs h e ≡ is_to_undo ds h e
  to_undo-same e = by (is_active h e.process) refl
    where
      by : (t : Bool) → is_active h e.process ≡ t
          → (t && list_any (same_step e) (backward_entries cs h e.process)) ≡ (t && list_any (same_step e) (backward_entries ds h e.process))
      by false is = refl
      by true is = ap (λ es. list_any (same_step e) es) (backward_entries-courses cs ds h e.process (same e.process is))

  doings-same : (i : ℕ) → SameCourse cs ds i → (bs : List ℕ) → map (doing cs i) bs ≡ map (doing ds i) bs
  doings-same i is [] = refl
  doings-same i is (b ∷ bs) = ap (λ e. e ∷ map (doing cs i) bs) (doing-courses cs ds i b is) ∙ ap (λ es. doing ds i b ∷ es) (doings-same i is bs)

  closing-same : (i : ℕ) → SameCourse cs ds i → closing cs h i ≡ closing ds h i
  closing-same i is =
      ap (λ es. map Act es ++ End i ∷ [])
      (ap (λ (c : Course). map (doing cs i) (forward c.shape (net_steps h i))) is ∙ doings-same i is (owed_steps ds h i))

  closings-same : (is : List ℕ) → ((i : ℕ) → IsTrue (is_in i is) → SameCourse cs ds i) → flat_map (closing cs h) is ≡ flat_map (closing ds h) is
  closings-same [] alike = refl
  closings-same (i ∷ is) alike =
      ap (λ es. es ++ flat_map (closing cs h) is) (closing-same i (alike i (or_left (nat_eq i i) (is_in i is) (eq-eqb i i refl))))
      ∙ ap (λ es. closing ds h i ++ es) (closings-same is (λ k among. alike k (or_right (nat_eq k i) (is_in k is) among)))

  pub completion-courses : completion cs h ≡ completion ds h
  completion-courses =
      ap (λ es. map (λ e. Act (undoing e)) (reverse es) ++ flat_map (closing cs h) (active h)) (filter-same (is_to_undo cs h) (is_to_undo ds h) to_undo-same (net h))
      ∙ ap (λ es. map (λ e. Act (undoing e)) (reverse (all_backward_entries ds h)) ++ es) (closings-same (active h) (λ i among. same i (sym (is_active-is_in h i) ∙ among)))

module _ (n : ℕ) (plans : List Plan) (g rest : List Event) (planned : IsPlanned n plans (g ++ rest)) (own : IsTrue (is_in_own_order (courses_of plans) (g ++ rest))) where
  legal : IsTrue (is_legal no_conflict (courses_of plans) (g ++ rest))
  legal = legal-from_own_order (courses_of plans) (g ++ rest) own

  pub planned-at : IsPlanned n (plans_in plans g) g
  planned-at = planned-prefix n plans g rest planned

  pub own-at : IsTrue (is_in_own_order (courses_of (plans_in plans g)) g)
  own-at =
      let good : IsGood no_conflict plans (g ++ rest) = record { symmetric = λ a b. refl; good = planned.good; one_each = planned.one_each; legal = legal } in
      own_order-legal (courses_of (plans_in plans g)) no_conflict g (prefix-law no_conflict plans g rest good).legal

  pub schedule-same : completed_schedule (courses_of (plans_in plans g)) g ≡ completed_schedule (courses_of plans) g
  schedule-same =
      ap (λ es. acts (g ++ es)) (sym (completion-courses (courses_of plans) (courses_of (plans_in plans g)) g
      (λ i among. courses_in no_conflict plans g (is_legal-prefix no_conflict (courses_of plans) g rest legal) i (and_parts (is_in i (starts g)) _ among).0)))

-- Each beginning is tested exactly.
pub exact-at : TestIsExact → SchedulesAreOnce → (table : Table) (k : ℕ) (plans : List Plan) (h : List Event) → IsPlanned k plans h → IsTrue (is_in_own_order (courses_of plans) h)
    → (n : ℕ) → CanReduce (do_conflict table) (schedule_at (courses_of plans) h n)
    ↔ ((is_barred (do_conflict table) (schedule_at (courses_of plans) h n) ≡ false) × (is_cyclic (do_conflict table) (schedule_at (courses_of plans) h n) ≡ false))
exact-at exact once table k plans h planned own n =
    let g : List Event = take n h in
    let rest : List Event = drop n h in
    let planned' = subst (IsPlanned k plans) (sym (take-append-drop n h)) planned in
    let own' = subst (λ (es : List Event). IsTrue (is_in_own_order (courses_of plans) es)) (sym (take-append-drop n h)) own in
    let good = planned-at k plans g rest planned' own' in
    exact (do_conflict table) (schedule_at (courses_of plans) h n) (do_conflict-symmetric table)
    (subst AreOnce (schedule-same k plans g rest planned' own') (once (plans_in plans g) g good.good (own-at k plans g rest planned' own')))

-- One event less, with the plans of those that started.
pub shorter : (plans of_g of_s : List Plan) (h g s rest : List Event) (e : Event) → h ≡ g ++ rest → of_g ≡ plans_in plans g → g ≡ s ++ e ∷ []
    → of_s ≡ plans_in of_g s → (h ≡ s ++ e ∷ rest) × (of_s ≡ plans_in plans s)
shorter plans of_g of_s h g s rest e is is_g less is_s =
    let fewer = ap length (ap starts less ∙ starts-append s (e ∷ [])) in
    let count = length-append (starts s) (starts (e ∷ [])) in (
      is ∙ (ap (λ es. es ++ rest) less ∙ append_assoc s (e ∷ []) rest),
      is_s ∙ (ap (λ ps. take (length (starts s)) ps) is_g ∙ take_twice (length (starts s)) (length (starts g)) plans (omega (arith, fewer, count))),
    )
  where
    take_twice : (n m : ℕ) (ps : List Plan) → n ≤ m → take n (take m ps) ≡ take n ps
    take_twice zero m ps less' = refl
    take_twice (suc n) zero ps less' = absurd (omega (arith, less'))
    take_twice (suc n) (suc m) [] less' = refl
    take_twice (suc n) (suc m) (p ∷ ps) less' = ap (λ qs. p ∷ qs) (take_twice n m ps (omega (arith, less')))

-- What is found.
module _ (table : ConflictRelation) (courses : List Course) (h : List Event) where
  -- one beginning more was judged
  pub found-next : (from next : ℕ) (old new : Audited) → next ≡ from + 1 → from ≤ length h
      → ((is_barred table (schedule_at courses h from) ≡ false) × (is_cyclic table (schedule_at courses h from) ≡ false) → CanReduce table (schedule_at courses h from))
      → IsFoundFrom table courses h next old → NowFound table (schedule_at courses h from) from old new → IsFoundFrom table courses h from new
  found-next from next old new after within reduces found (inl stays) = subst (IsFoundFrom table courses h from) (sym stays.2) (more old found)
    where
      here : CanReduce table (schedule_at courses h from)
      here = reduces (stays.0, stays.1)

      at_least : (m : ℕ) → from ≤ m → (next ≤ m → CanReduce table (schedule_at courses h m)) → (m < next) ⊎ (next ≤ m) → CanReduce table (schedule_at courses h m)
      at_least m above later (inl less) = subst (λ (k : ℕ). CanReduce table (schedule_at courses h k)) (omega (arith, above, less, after)) here
      at_least m above later (inr beyond) = later beyond

      least : (k : ℕ) → IsLeastFrom table courses h next k → IsLeastFrom table courses h from k
      least k was = record {
        above = (let more' = was.above in omega (arith, more', after));
        within = was.within;
        before = λ m above less. at_least m above (λ beyond. was.before m beyond less) (cases_lt m next);
      }

      more : (old' : Audited) → IsFoundFrom table courses h next old' → IsFoundFrom table courses h from old'
      more (Reducible serial) was = (λ m above within'. at_least m above (λ beyond. was.0 m beyond within') (cases_lt m next), was.1)
      more (Barred prefix left) was = (least prefix was.0, was.1)
      more (Cycle prefix left processes) was = (least prefix was.0, was.1)
  found-next from next old new after within reduces found (inr fails) = by new fails
    where
      here : IsLeastFrom table courses h from from
      here = record { above = omega arith; within = within; before = λ m above less. absurd (omega (arith, above, less)) }

      by : (new' : Audited) → IsFailing table (schedule_at courses h from) from new' → IsFoundFrom table courses h from new'
      by (Reducible serial) fails' = absurd fails'
      by (Barred prefix left) fails' =
          (subst (IsLeastFrom table courses h from) (sym fails'.0) here, subst (λ (k : ℕ). IsBarred table (schedule_at courses h k) left.items) (sym fails'.0) fails'.1)
      by (Cycle prefix left processes) fails' =
          (subst (IsLeastFrom table courses h from) (sym fails'.0) here, subst (λ (k : ℕ). IsCyclic table (schedule_at courses h k) left.items processes.items) (sym fails'.0) fails'.1)

  -- at first nothing was judged
  pub found-first : (serial : List Entry) (found : Audited) → serial ≡ serial_schedule table courses h → (s : _) → found ≡ Reducible s → s.items ≡ serial → IsFoundFrom table courses h (length h + 1) found
  found-first serial found is s same items =
      subst (IsFoundFrom table courses h (length h + 1)) (sym same) (λ m above within. absurd (omega (arith, above, within)), items ∙ is)

  -- all were judged
  pub found-all : (found : Audited)
      → ((n : ℕ) → n ≤ length h → CanReduce table (schedule_at courses h n) → (is_barred table (schedule_at courses h n) ≡ false) × (is_cyclic table (schedule_at courses h n) ≡ false))
      → IsFoundFrom table courses h 0 found → IsAudit table courses h found
  found-all (Reducible serial) exact found = (prefixes, found.1)
    where
      prefixes : IsPrefixReducible table courses h
      prefixes g rest is =
          let long = ap length is ∙ length-append g rest in
          subst (λ es. CanReduce table (completed_schedule courses es)) (ap (λ es. take (length g) es) is ∙ take-append_seam g rest)
          (found.0 (length g) (omega arith) (omega (arith, long)))
  found-all (Barred prefix left) exact found = (
    record {
      within = found.0.within;
      fails = λ can. false≢true (sym (exact prefix found.0.within can).0 ∙ found.1.barred);
      before = λ m less. found.0.before m (omega arith) less;
    },
    found.1,
  )
  found-all (Cycle prefix left processes) exact found = (
    record {
      within = found.0.within;
      fails = λ can. false≢true (sym (exact prefix found.0.within can).1 ∙ found.1.cyclic);
      before = λ m less. found.0.before m (omega arith) less;
    },
    found.1,
  )
