-- The cancel phase leads from the schedule of a reducible history to its net.
use Rattle.std.proofs.Common.{◌≡◌, ◌⊎◌, inl, inr, ℕ, zero, suc, ◌+◌, ◌-◌, ◌≤◌, Bool, true, false, not, cond, eqb, ◌&&◌, ◌||◌, List, [], ◌∷◌, ◌++◌, length, filter, Option, Some, sym, refl, ap, ◌∙◌, subst, arith, append-nil, append_assoc, length-append}
use Rattle.std.proofs.Math.Bool.{and-false}
use Rattle.std.specs.Bool.{IsTrue}
use Rattle.std.specs.Prelude.{unwrap_or}
use Rattle.std.specs.List.{list_any}
use Rattle.std.proofs.lemmas.Bool.{and_parts, and_from, eqb-true, eq-eqb, false≢true, or_parts}
use Rattle.std.proofs.lemmas.List.Elements.{All-contains, filter-append}
use Rattle.process_tree.specs.Entries.{access_of}
use Rattle.process_tree.specs.declared.entry.Entry.{Entry}
use Rattle.schedule_model.specs.declared.event.Event.{Event}
use Rattle.schedule_model.specs.declared.event.Event.TheVariants.{Start, Act, End}
use Rattle.schedule_model.specs.declared.trace_step.TraceStep.TheVariants.{Cancel}
use Rattle.schedule_model.specs.declared.trace_step.TraceStep.{TraceStep}
use Rattle.schedule_model.specs.Course.{Course, access_at}
use Rattle.schedule_model.specs.Conflict.{ConflictRelation, conflict, no_conflict}
use Rattle.schedule_model.specs.EachEvent.{each_passes}
use Rattle.schedule_model.specs.Histories.{acts, net, net_of, of_process, same_step, takes_back}
use Rattle.schedule_model.specs.Holdings.{behind}
use Rattle.schedule_model.specs.OwnOrder.{keeps_order}
use Rattle.schedule_model.specs.Legal.{is_clear, is_legal, keeps_and_ends_clear, is_reducible}
use Rattle.schedule_model.specs.Reduction.{can_change, cancelled, carried_on, and_then, applied_all}
use Rattle.schedule_model.specs.PrintedTrace.{Trace, after_steps, first_place, without, first_undo, place_taken_back, move_between, cancel_one, cancel_phase}
use Rattle.schedule_model.proofs.Induction.{passes-push}
use Rattle.schedule_model.proofs.Members.{Among, among-filter, any-among, in_filter, contains-from_among, among_there}
use Rattle.schedule_model.proofs.Snoc.{net-start, net-end, net-do, net-undo, of_process-append}
use Rattle.schedule_model.proofs.Apart.{Apart, net-apart}
use Rattle.schedule_model.proofs.Behind.{SplitAt, split_at, behind-at, has_step, same_step-symmetric, same_step-itself}
use Rattle.schedule_model.proofs.Orders.{same_step-through, behind-same_step}
use Rattle.schedule_model.proofs.Started.{among_net_of}
use Rattle.schedule_model.proofs.Entries.{HasPlansAccess, acts-of_plans, All-net_acts, net_acts-forward}
use Rattle.schedule_model.proofs.Acting.{act_in_order}
use Rattle.schedule_model.proofs.Clear.{undo-clear}
use Rattle.schedule_model.proofs.NoConflict.{legal-from_reducible, reducible_keeps, may_come-no_conflict}
use Rattle.schedule_model.proofs.Undoing.{Undoes, undoes}
use Rattle.schedule_model.proofs.CompletionFirst.{last_or_none}
use Rattle.schedule_model.proofs.Places.{carry_on, cancel_at, move_on, applied_all-append, first_place-at, first_place-none, entry_at-split, without-split}

-- How many undos a list has is as many as its cancel phase cancels.

abbrev pub undos : List Entry → ℕ
undos [] = 0
undos (e ∷ es) = cond e.undo (undos es + 1) (undos es)

same_ends : (xs ys : List Entry) (a b : Entry) → xs ++ a ∷ [] ≡ ys ++ b ∷ [] → (xs ≡ ys) × (a ≡ b)
same_ends [] [] a b e = (refl, cc)
same_ends [] (y ∷ ys) a b e = let l = ap length e in let m = length-append ys (b ∷ []) in absurd (omega arith)
same_ends (x ∷ xs) [] a b e = let l = ap length e in let m = length-append xs (a ∷ []) in absurd (omega arith)
same_ends (x ∷ xs) (y ∷ ys) a b e =
    let first : x ≡ y = cc in
    let later : xs ++ a ∷ [] ≡ ys ++ b ∷ [] = cc in
    let rest = same_ends xs ys a b later in
    (ap (λ z. z ∷ xs) first ∙ ap (λ zs. y ∷ zs) rest.0, rest.1)

-- what the steps of a trace lead to
pub record LeadsTo (table : ConflictRelation) (from to : List Entry) (t : Trace) : Type 0 where
  pub applies : applied_all table t.steps from ≡ Some to
  pub list : t.list ≡ to

-- of a list without an undo there is nothing to cancel
no_undo : (n : ℕ) (es : List Entry) → ((e : Entry) → Among e es → e.undo ≡ false) → cancel_phase n es ≡ record { steps = []; list = es }
no_undo zero es none = refl
no_undo (suc n) es none = ap (cancel_one (cancel_phase n) es) (first_place-none (λ (e : Entry). e.undo) es none)

module _ (table : ConflictRelation) where
  leads-same : (from to : List Entry) (t : Trace) → LeadsTo table from to t → (from' to' : List Entry) → from ≡ from' → to ≡ to' → LeadsTo table from' to' t
  leads-same from to t leads from' to' one two = record { applies = ap (applied_all table t.steps) (sym one) ∙ (leads.applies ∙ ap Some two); list = leads.list ∙ two }

  -- An undo behind a list without one: its step is carried to it, and both go.
  module _ (front : List Entry) (x : Entry) (bs : List Entry) (u : Entry) (rest : List Entry)
      (steps_only : (e : Entry) → Among e (front ++ x ∷ bs) → e.undo ≡ false) (undo : u.undo ≡ true)
      (taken : takes_back u x ≡ true) (others : (e : Entry) → Among e front → takes_back u e ≡ false)
      (can : (b : Entry) → Among b bs → can_change table x b ≡ true) where
    abbrev es : List Entry
    es = (front ++ x ∷ bs) ++ u ∷ rest

    abbrev at : ℕ
    at = suc (length (front ++ x ∷ bs))

    first_is : first_undo es ≡ Some at
    first_is = first_place-at (λ (e : Entry). e.undo) (front ++ x ∷ bs) u rest steps_only undo

    right_nested : es ≡ front ++ x ∷ (bs ++ u ∷ rest)
    right_nested = append_assoc front (x ∷ bs) (u ∷ rest)

    either_false : (t : Bool) → t ≡ false → (t || false) ≡ false
    either_false t is = ap (λ b. b || false) is

    step_place : place_taken_back at es ≡ suc (length front)
    step_place =
        ap (λ us. unwrap_or (first_place (λ e. not e.undo && list_any (λ f. takes_back f e) us) es) 0) (entry_at-split (front ++ x ∷ bs) u rest)
        ∙ ap (λ o. unwrap_or o 0)
        (ap (first_place (λ e. not e.undo && list_any (λ f. takes_back f e) (u ∷ []))) right_nested
        ∙ first_place-at (λ e. not e.undo && list_any (λ f. takes_back f e) (u ∷ [])) front x (bs ++ u ∷ rest)
        (λ e is. ap (λ t. not e.undo && t) (either_false (takes_back u e) (others e is)) ∙ and-false (not e.undo))
        (and_from (not x.undo) (takes_back u x || false) (ap not (steps_only x (among_there front x bs))) (ap (λ t. t || false) taken)))

    left_over : without (suc (length front)) (without at es) ≡ front ++ (bs ++ rest)
    left_over =
        ap (without (suc (length front))) (without-split (front ++ x ∷ bs) u rest ∙ append_assoc front (x ∷ bs) rest)
        ∙ without-split front x (bs ++ rest)

    abbrev steps : List TraceStep
    steps = move_between (suc (length front)) (at - 1) ++ Cancel (at - 1) ∷ []

    one_cancel : (later : List Entry → Trace) → cancel_one later es (first_undo es) ≡ after_steps steps (later (front ++ (bs ++ rest)))
    one_cancel later =
        ap (cancel_one later es) first_is
        ∙ (ap (λ f. after_steps (move_between f (at - 1) ++ Cancel (at - 1) ∷ []) (later (without f (without at es)))) step_place
        ∙ ap (λ l. after_steps steps (later l)) left_over)

    steps_apply : applied_all table steps es ≡ Some (front ++ (bs ++ rest))
    steps_apply =
        let long = length-append front (x ∷ bs) in
        let both = length-append front bs in
        let moved = move_on table (length bs) (suc (length front)) (at - 1) es (front ++ (bs ++ x ∷ u ∷ rest)) (omega arith)
        (ap (carried_by (length bs) (suc (length front))) right_nested ∙ carry_on table front x bs (u ∷ rest) can) in
        applied_all-append table (move_between (suc (length front)) (at - 1)) (Cancel (at - 1) ∷ []) es (front ++ (bs ++ x ∷ u ∷ rest)) moved
        ∙ ap (λ o. and_then o (applied_all table []))
        (ap (cancelled (at - 1)) (sym (append_assoc front bs (x ∷ u ∷ rest)))
        ∙ (ap (λ n. cancelled n ((front ++ bs) ++ x ∷ u ∷ rest)) (let e : at - 1 ≡ suc (length (front ++ bs)) = omega arith in e)
        ∙ (cancel_at table (front ++ bs) x u rest (and_from (not x.undo) (takes_back u x) (ap not (steps_only x (among_there front x bs))) taken)
        ∙ ap Some (append_assoc front bs rest))))
      where
        carried_by : ℕ → ℕ → List Entry → Option (List Entry)
        carried_by n from xs = carried_on table n from xs

    pub cancels : (later : List Entry → Trace) (to : List Entry) → LeadsTo table (front ++ (bs ++ rest)) to (later (front ++ (bs ++ rest)))
        → LeadsTo table es to (cancel_one later es (first_undo es))
    cancels later to leads =
        subst (LeadsTo table es to) (sym (one_cancel later))
        (record {
          applies = applied_all-append table steps (later (front ++ (bs ++ rest))).steps es (front ++ (bs ++ rest)) steps_apply ∙ leads.applies;
          list = leads.list;
        })

  module _ (courses : List Course) where
    -- an undo that may come takes back an entry over which it can be carried
    pub record TakenBack (h : List Event) (u : Entry) : Type 0 where
      pub front : List Entry
      pub step : Entry
      pub bs : List Entry
      pub is : net h ≡ front ++ step ∷ bs
      pub taken : takes_back u step ≡ true
      pub others : (e : Entry) → Among e front → takes_back u e ≡ false
      pub can : (b : Entry) → Among b bs → can_change table step b ≡ true
      pub after : net (h ++ Act u ∷ []) ≡ front ++ bs

    module _ (h : List Event) (u : Entry) (reducible : IsTrue (is_reducible table courses h)) (comes : IsTrue (keeps_and_ends_clear table courses h (Act u))) (undo : u.undo ≡ true) where
      legal : IsTrue (is_legal no_conflict courses h)
      legal = legal-from_reducible courses table h reducible

      keeps : IsTrue (keeps_order courses h (Act u))
      keeps = reducible_keeps courses table h (Act u) comes

      clear : IsTrue (is_clear table courses h (Act u))
      clear = subst (λ t. IsTrue (cond t (is_clear table courses h (Act u)) true)) undo
          (and_parts (keeps_order courses h (Act u)) (cond u.undo (is_clear table courses h (Act u)) true) comes).1

      does : Undoes courses u h (h ++ Act u ∷ [])
      does = undoes no_conflict courses h u legal undo (may_come-no_conflict courses h (Act u) keeps)

      apart : Apart (net h)
      apart = net-apart no_conflict courses h legal

      -- the entry that it takes back stands in the net
      last_stands : Among does.last (net h) × (does.last.process ≡ u.process)
      last_stands =
          let found = among_net_of h u.process does.last
          (subst (Among does.last) (sym does.net) (among_there (net_of (h ++ Act u ∷ []) u.process) does.last [])) in
          (found.0, found.1)

      split : SplitAt does.last (net h)
      split = split_at does.last (net h) apart last_stands.0

      -- nothing of its process stands behind it
      none_of_process : of_process u.process split.after ≡ []
      none_of_process = by_last (last_or_none (of_process u.process split.after))
        where
          net_is : net_of h u.process ≡ of_process u.process split.before ++ does.last ∷ of_process u.process split.after
          net_is =
              ap (of_process u.process) split.is
              ∙ (of_process-append u.process split.before (does.last ∷ split.after)
              ∙ ap (λ t. of_process u.process split.before ++ cond t (does.last ∷ of_process u.process split.after) (of_process u.process split.after)) (eq-eqb does.last.process u.process last_stands.1))

          by_last : (of_process u.process split.after ≡ []) ⊎ ((front : List Entry) × (z : Entry) × (of_process u.process split.after ≡ front ++ z ∷ [])) → of_process u.process split.after ≡ []
          by_last (inl none) = none
          by_last (inr some) =
              let whole : net_of (h ++ Act u ∷ []) u.process ++ does.last ∷ [] ≡ (of_process u.process split.before ++ does.last ∷ some.0) ++ some.1 ∷ [] =
              sym does.net ∙ (net_is ∙ (ap (λ es. of_process u.process split.before ++ does.last ∷ es) some.2 ∙ sym (append_assoc (of_process u.process split.before) (does.last ∷ some.0) (some.1 ∷ [])))) in
              let same = (same_ends (net_of (h ++ Act u ∷ []) u.process) (of_process u.process split.before ++ does.last ∷ some.0) does.last some.1 whole).1 in
              let there : Among some.1 (of_process u.process split.after) = subst (Among some.1) (sym some.2) (among_there some.0 some.1 []) in
              let stands = (among-filter (λ (f : Entry). eqb f.process u.process) some.1 split.after there).0 in
              let has : has_step does.last split.after ≡ true = any-among (same_step does.last) some.1 split.after stands
              (ap (same_step does.last) (sym same) ∙ same_step-itself does.last) in
              absurd (false≢true (sym split.none_after ∙ has))

      -- nothing behind it conflicts with it
      does_same : access_of does.last ≡ access_of u
      does_same =
          let parts = and_parts (eqb does.last.process u.process) (eqb does.last.step u.step) does.same in
          let plans = All-contains (HasPlansAccess courses) (net h) does.last (All-net_acts (HasPlansAccess courses) (acts h) (acts-of_plans no_conflict courses h legal))
          (contains-from_among does.last (net h) last_stands.0) in
          plans ∙ (ap (λ p. access_at courses p does.last.step) (eqb-true does.last.process u.process parts.0)
          ∙ (ap (access_at courses u.process) (eqb-true does.last.step u.step parts.1) ∙ sym (act_in_order courses h u keeps).1))

      can : (b : Entry) → Among b split.after → can_change table does.last b ≡ true
      can b is =
          let back : Among b (behind u (net h)) = subst (Among b) (sym (behind-same_step (net h) u does.last (same_step-symmetric u does.last ∙ does.same) ∙ behind-at does.last (net h) split)) is in
          let free : conflict table u b ≡ false = undo-clear table courses h u undo clear b back in
          let none : conflict table does.last b ≡ false =
          ap (λ p. not (eqb p b.process) && table (access_of does.last) (access_of b)) last_stands.1 ∙ (ap (λ o. not (eqb u.process b.process) && table o (access_of b)) does_same ∙ free) in
          and_from (not (eqb does.last.process b.process)) (not (conflict table does.last b))
          (ap not (by_process (eqb does.last.process b.process) refl)) (ap not none)
        where
          by_process : (t : Bool) → eqb does.last.process b.process ≡ t → eqb does.last.process b.process ≡ false
          by_process false other = other
          by_process true own =
              let mine : eqb b.process u.process ≡ true = eq-eqb b.process u.process (sym (eqb-true does.last.process b.process own) ∙ last_stands.1) in
              absurd (subst (Among b) none_of_process (in_filter (λ (f : Entry). eqb f.process u.process) b split.after is mine))

      -- what is left
      kept : (es : List Entry) → has_step does.last es ≡ false → filter (λ f. not (same_step f u)) es ≡ es
      kept [] none = refl
      kept (e ∷ es) none =
          let parts = or_parts (same_step does.last e) (has_step does.last es) none in
          ap (λ t. cond t (e ∷ filter (λ f. not (same_step f u)) es) (filter (λ f. not (same_step f u)) es))
          (ap not (same_step-symmetric e u ∙ (same_step-through u does.last e (same_step-symmetric u does.last ∙ does.same) ∙ parts.0)))
          ∙ ap (λ fs. e ∷ fs) (kept es parts.1)

      left : net (h ++ Act u ∷ []) ≡ split.before ++ split.after
      left =
          net-undo h u undo
          ∙ (ap (filter (λ f. not (same_step f u))) split.is
          ∙ (filter-append (λ f. not (same_step f u)) split.before (does.last ∷ split.after)
          ∙ (ap (λ es. es ++ filter (λ f. not (same_step f u)) (does.last ∷ split.after)) (kept split.before split.none_before)
          ∙ (ap (λ t. split.before ++ cond (not t) (does.last ∷ filter (λ f. not (same_step f u)) split.after) (filter (λ f. not (same_step f u)) split.after)) does.same
          ∙ ap (λ es. split.before ++ es) (kept split.after split.none_after)))))

      pub taken_back : TakenBack h u
      taken_back = record {
        front = split.before;
        step = does.last;
        bs = split.after;
        is = split.is;
        taken = and_from u.undo (same_step does.last u) undo does.same;
        others = λ e is. ap (λ t. t && same_step e u) undo
            ∙ (same_step-symmetric e u ∙ (same_step-through u does.last e (same_step-symmetric u does.last ∙ does.same) ∙ out e split.before is split.none_before));
        can = can;
        after = left;
      }
        where
          out : (e : Entry) (es : List Entry) → Among e es → has_step does.last es ≡ false → same_step does.last e ≡ false
          out e [] is none = absurd is
          out e (f ∷ es) (inl here) none = ap (same_step does.last) (sym here) ∙ first (same_step does.last f) (has_step does.last es) none
            where
              first : (a b : Bool) → (a || b) ≡ false → a ≡ false
              first true b is = is
              first false b is = refl
          out e (f ∷ es) (inr later) none = out e es later (second (same_step does.last f) (has_step does.last es) none)
            where
              second : (a b : Bool) → (a || b) ≡ false → b ≡ false
              second true b is = absurd (false≢true (sym is))
              second false b is = is

    pub net-steps_only : (h : List Event) (e : Entry) → Among e (net h) → e.undo ≡ false
    net-steps_only h e is = All-contains (λ (f : Entry). f.undo ≡ false) (net h) e (net_acts-forward (acts h)) (contains-from_among e (net h) is)

    -- from what stands after a beginning, and the acts still to come, the phase leads to the net of the whole
    pub cancels-from : (n : ℕ) (g k : List Event) → undos (acts k) ≤ n → IsTrue (is_reducible table courses g) → IsTrue (each_passes (keeps_and_ends_clear table courses) g k)
        → LeadsTo table (net g ++ acts k) (net (g ++ k)) (cancel_phase n (net g ++ acts k))
    cancels-from n g [] few reducible all =
        let same : net g ++ [] ≡ net (g ++ []) = append-nil (net g) ∙ ap net (sym (append-nil g)) in
        subst (LeadsTo table (net g ++ []) (net (g ++ []))) (sym (no_undo n (net g ++ []) (λ e is. net-steps_only g e (subst (Among e) (append-nil (net g)) is))))
        (record { applies = ap Some same; list = same })
    cancels-from n g (Start i ∷ k) few reducible all =
        let parts = and_parts (keeps_and_ends_clear table courses g (Start i)) (each_passes (keeps_and_ends_clear table courses) (g ++ Start i ∷ []) k) all in
        let rest = cancels-from n (g ++ Start i ∷ []) k few (passes-push (keeps_and_ends_clear table courses) g (Start i) reducible parts.0) parts.1 in
        subst (λ h. LeadsTo table (net g ++ acts k) (net h) (cancel_phase n (net g ++ acts k))) (append_assoc g (Start i ∷ []) k)
        (subst (λ es. LeadsTo table (es ++ acts k) (net ((g ++ Start i ∷ []) ++ k)) (cancel_phase n (es ++ acts k))) (net-start g i) rest)
    cancels-from n g (End i ∷ k) few reducible all =
        let parts = and_parts (keeps_and_ends_clear table courses g (End i)) (each_passes (keeps_and_ends_clear table courses) (g ++ End i ∷ []) k) all in
        let rest = cancels-from n (g ++ End i ∷ []) k few (passes-push (keeps_and_ends_clear table courses) g (End i) reducible parts.0) parts.1 in
        subst (λ h. LeadsTo table (net g ++ acts k) (net h) (cancel_phase n (net g ++ acts k))) (append_assoc g (End i ∷ []) k)
        (subst (λ es. LeadsTo table (es ++ acts k) (net ((g ++ End i ∷ []) ++ k)) (cancel_phase n (es ++ acts k))) (net-end g i) rest)
    cancels-from n g (Act e ∷ k) few reducible all =
        let parts = and_parts (keeps_and_ends_clear table courses g (Act e)) (each_passes (keeps_and_ends_clear table courses) (g ++ Act e ∷ []) k) all in
        let now = passes-push (keeps_and_ends_clear table courses) g (Act e) reducible parts.0 in
        subst (λ h. LeadsTo table (net g ++ e ∷ acts k) (net h) (cancel_phase n (net g ++ e ∷ acts k))) (append_assoc g (Act e ∷ []) k)
        (by_undo n g e k few reducible parts.0 (λ m less. cancels-from m (g ++ Act e ∷ []) k less now parts.1) e.undo refl)
      where
        by_undo : (n : ℕ) (g : List Event) (e : Entry) (k : List Event) → undos (e ∷ acts k) ≤ n → IsTrue (is_reducible table courses g) → IsTrue (keeps_and_ends_clear table courses g (Act e))
            → ((m : ℕ) → undos (acts k) ≤ m → LeadsTo table (net (g ++ Act e ∷ []) ++ acts k) (net ((g ++ Act e ∷ []) ++ k)) (cancel_phase m (net (g ++ Act e ∷ []) ++ acts k)))
            → (u : Bool) → e.undo ≡ u → LeadsTo table (net g ++ e ∷ acts k) (net ((g ++ Act e ∷ []) ++ k)) (cancel_phase n (net g ++ e ∷ acts k))
        by_undo n g e k few reducible comes rest false is_step =
            let same : net (g ++ Act e ∷ []) ++ acts k ≡ net g ++ e ∷ acts k = ap (λ es. es ++ acts k) (net-do g e is_step) ∙ append_assoc (net g) (e ∷ []) (acts k) in
            let count : undos (e ∷ acts k) ≡ undos (acts k) = ap (λ u. cond u (undos (acts k) + 1) (undos (acts k))) is_step in
            subst (λ es. LeadsTo table es (net ((g ++ Act e ∷ []) ++ k)) (cancel_phase n es)) same (rest n (omega arith))
        by_undo zero g e k few reducible comes rest true undo =
            let count : undos (e ∷ acts k) ≡ undos (acts k) + 1 = ap (λ u. cond u (undos (acts k) + 1) (undos (acts k))) undo in absurd (omega arith)
        by_undo (suc n) g e k few reducible comes rest true undo =
            let count : undos (e ∷ acts k) ≡ undos (acts k) + 1 = ap (λ u. cond u (undos (acts k) + 1) (undos (acts k))) undo in
            let back = taken_back g e reducible comes undo in
            let after_is : net (g ++ Act e ∷ []) ++ acts k ≡ back.front ++ (back.bs ++ acts k) = ap (λ es. es ++ acts k) back.after ∙ append_assoc back.front back.bs (acts k) in
            let leads = subst (λ es. LeadsTo table es (net ((g ++ Act e ∷ []) ++ k)) (cancel_phase n es)) after_is (rest n (omega arith)) in
            subst (λ es. LeadsTo table (es ++ e ∷ acts k) (net ((g ++ Act e ∷ []) ++ k)) (cancel_phase (suc n) (es ++ e ∷ acts k))) (sym back.is)
            (cancels back.front back.step back.bs e (acts k) (λ f is. net-steps_only g f (subst (Among f) (sym back.is) is)) undo back.taken back.others back.can (cancel_phase n) (net ((g ++ Act e ∷ []) ++ k)) leads)

    undos_few : (es : List Entry) → undos es ≤ length es
    undos_few [] = omega arith
    undos_few (e ∷ es) = by_undo e.undo (undos_few es)
      where
        by_undo : (u : Bool) → undos es ≤ length es → cond u (undos es + 1) (undos es) ≤ length (e ∷ es)
        by_undo true le = omega arith
        by_undo false le = omega arith

    -- the cancel phase of a schedule leads to the net
    pub cancel-phase : (h : List Event) → IsTrue (is_reducible table courses h) → LeadsTo table (acts h) (net h) (cancel_phase (length (acts h)) (acts h))
    cancel-phase h reducible = cancels-from (length (acts h)) [] h (undos_few (acts h)) refl reducible
