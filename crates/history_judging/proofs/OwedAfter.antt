-- What is owed after a step, by the tables.
use Rattle.std.proofs.Common.{◌≡◌, ℕ, Bool, true, false, not, eqb, ltb, ◌&&◌, if◌then◌else◌, List, [], ◌∷◌, ◌++◌, map, filter, sym, refl, ap, ◌∙◌, subst, append-nil}
use Rattle.std.specs.Bool.{IsTrue}
use Rattle.std.specs.List.{list_all, list_any}
use Rattle.std.proofs.Math.Bool.{and_comm}
use Rattle.std.proofs.lemmas.Bool.{and_left, and_parts, eq-eqb, eqb-true}
use Rattle.process_tree.specs.Entries.{access_of}
use Rattle.process_tree.specs.declared.entry.Entry.{Entry}
use Rattle.process_tree.specs.declared.plan.Plan.{Plan}
use Rattle.process_tree.specs.Recovery.{class_by_kind, forward, reserved}
use Rattle.process_tree.specs.Shape.{commits, commits_after, goes_on_to, kind_of}
use Rattle.process_tree.proofs.Fixed.{commits_there}
use Rattle.process_tree.proofs.TreeLaws.{one_branch_to_a_step}
use Rattle.schedule_model.specs.declared.event.Event.{Event}
use Rattle.schedule_model.specs.declared.event.Event.TheVariants.{Act}
use Rattle.schedule_model.specs.Conflict.{ConflictRelation}
use Rattle.schedule_model.specs.Course.{Course, course, courses_of, shape, access_at}
use Rattle.schedule_model.specs.Histories.{doing, done_steps, is_active, net_steps, of_process, same_step}
use Rattle.schedule_model.specs.Laws.{AreGood}
use Rattle.schedule_model.specs.Legal.{class_in, is_legal}
use Rattle.schedule_model.specs.OwnOrder.{goes_on}
use Rattle.schedule_model.specs.Recovery.{owed, owed_after}
use Rattle.schedule_model.proofs.Behind.{same_step-itself}
use Rattle.schedule_model.proofs.ClassFacts.{facts, reserved_commits}
use Rattle.schedule_model.proofs.Conflicts.{same_either_way}
use Rattle.schedule_model.proofs.Entries.{doing-is}
use Rattle.schedule_model.proofs.GoodPlans.{HasGoodPlan, good_if_goes_on}
use Rattle.schedule_model.proofs.Recoveries.{owed-do}
use Rattle.schedule_model.proofs.Snoc.{filter_same, filter_through, filter_twice, is_active-do, of_process-append}
use Rattle.schedule_model.proofs.Undoing.{owed-stays}
use Rattle.history_judging.specs.Keeping.{IsKept, Tables, of_others, owed_with}
use Rattle.schedule_rules.specs.Recovering.{owed_by}
use Rattle.history_judging.proofs.OwedOnce.{not_owed_again, owed_others}
use Rattle.history_judging.proofs.Tables.{own-owed, own-steps, owed-class}
use Rattle.history_judging.proofs.Unchanged.{of_others-other, of_others-own, owed-other}

-- the steps of process i, of which none is of another
pub of_process-doing : (courses : List Course) (i : ℕ) (bs : List ℕ) → of_process i (map (doing courses i) bs) ≡ map (doing courses i) bs
of_process-doing courses i [] = refl
of_process-doing courses i (b ∷ bs) =
    ap (λ t. if t then doing courses i b ∷ of_process i (map (doing courses i) bs) else of_process i (map (doing courses i) bs)) (eq-eqb i i refl)
    ∙ ap (λ es. doing courses i b ∷ es) (of_process-doing courses i bs)

pub of_process-doing_other : (courses : List Course) (k i : ℕ) (bs : List ℕ) → eqb k i ≡ false → of_process i (map (doing courses k) bs) ≡ []
of_process-doing_other courses k i [] other = refl
of_process-doing_other courses k i (b ∷ bs) other =
    ap (λ t. if t then doing courses k b ∷ of_process i (map (doing courses k) bs) else of_process i (map (doing courses k) bs)) other
    ∙ of_process-doing_other courses k i bs other

module _ (table : ConflictRelation) (plans : List Plan) (good : AreGood plans) (h : List Event) (t : Tables) (legal : IsTrue (is_legal table (courses_of plans) h))
    (kept : IsKept (courses_of plans) h t) (e : Entry) (is_step : e.undo ≡ false) (goes : IsTrue (is_active h e.process)) (op : access_of e ≡ access_at (courses_of plans) e.process e.step)
    (on : IsTrue (goes_on (courses_of plans) h e.process e.step)) where
  abbrev cs : List Course
  cs = courses_of plans

  abbrev i : ℕ
  i = e.process

  abbrev b : ℕ
  b = e.step

  abbrev after : List Event
  after = h ++ Act e ∷ []

  along : goes_on_to (shape cs i) (net_steps h i) b ≡ true
  along = (and_parts (goes_on_to (shape cs i) (net_steps h i) b) (list_all (λ d. ltb d b) (done_steps h i)) on).0

  plan : HasGoodPlan cs i
  plan = good_if_goes_on plans i (net_steps h i) b good along

  there : commits_after (shape cs i) (net_steps h i) b ≡ commits (shape cs i) b
  there = commits_there (shape cs i) (net_steps h i) b (one_branch_to_a_step (shape cs i) plan.tree (net_steps h i) b along)

  the_step : e ≡ doing cs i b
  the_step = doing-is cs e op is_step

  -- An owed step.
  module _ (owes : list_any (same_step e) t.owed ≡ true) where
    is_reserved : class_in cs h i b ≡ reserved
    is_reserved =
        ap (λ r. if r then reserved else class_by_kind (kind_of (shape cs i) b)) (sym (owed-class table cs h t legal kept e goes) ∙ owes)

    shrinks : owed cs h i ≡ e ∷ owed cs after i
    shrinks =
        (facts cs h i b plan along).reserved_owes is_reserved
        ∙ (ap (λ x. x ∷ owed cs (h ++ Act (doing cs i b) ∷ []) i) (sym the_step) ∙ ap (λ x. e ∷ owed cs (h ++ Act x ∷ []) i) (sym the_step))

    others_stay : filter (λ s. not (same_step s e)) (owed cs after i) ≡ owed cs after i
    others_stay =
        let same = owed-do cs h e is_step in
        ap (filter (λ s. not (same_step s e))) same
        ∙ (owed_others cs e (forward (shape cs i) (net_steps h i ++ b ∷ [])) (not_owed_again (shape cs i) plan.tree (net_steps h i) b (reserved_commits cs h i b plan along is_reserved))
        ∙ sym same)

    own_left : of_process i (filter (λ s. not (same_step s e)) t.owed) ≡ owed cs after i
    own_left =
        filter_twice (λ s. not (same_step s e)) (λ s. eqb s.process i) t.owed
        ∙ (filter_same (λ s. not (same_step s e) && eqb s.process i) (λ s. eqb s.process i && not (same_step s e)) t.owed (λ s. and_comm (not (same_step s e)) (eqb s.process i))
        ∙ (sym (filter_twice (λ s. eqb s.process i) (λ s. not (same_step s e)) t.owed)
        ∙ (ap (filter (λ s. not (same_step s e))) (own-owed table cs h t legal kept i goes ∙ shrinks)
        ∙ (ap (λ t'. if not t' then e ∷ filter (λ s. not (same_step s e)) (owed cs after i) else filter (λ s. not (same_step s e)) (owed cs after i)) (same_step-itself e)
        ∙ others_stay))))

  other_left : (k : ℕ) → eqb i k ≡ false → of_process k (filter (λ s. not (same_step s e)) t.owed) ≡ of_process k t.owed
  other_left k other =
      filter_through (λ s. eqb s.process k) (λ s. not (same_step s e)) t.owed
      (λ s is. ap not (and_left (eqb s.process i) (eqb s.step b) (ap (λ n. eqb n i) (eqb-true s.process k is) ∙ same_either_way i k false other)))

  -- A new commit point.

  abbrev rest : List Entry
  rest = owed_after cs h i b

  own_rest : of_process i (of_others i t.owed ++ rest) ≡ owed cs after i
  own_rest =
      of_process-append i (of_others i t.owed) rest
      ∙ (ap (λ es. es ++ of_process i rest) (of_others-own i t.owed) ∙ (of_process-doing cs i (forward (shape cs i) (net_steps h i ++ b ∷ [])) ∙ sym (owed-do cs h e is_step)))

  other_rest : (k : ℕ) → eqb i k ≡ false → of_process k (of_others i t.owed ++ rest) ≡ of_process k t.owed
  other_rest k other =
      of_process-append k (of_others i t.owed) rest
      ∙ (ap (λ es. of_process k (of_others i t.owed) ++ es) (of_process-doing_other cs i k (forward (shape cs i) (net_steps h i ++ b ∷ [])) other)
      ∙ (append-nil (of_process k (of_others i t.owed)) ∙ of_others-other i k t.owed other))

  -- All of them.

  abbrev new_owed : Bool → Bool → List Entry
  new_owed r c = if r then filter (λ s. not (same_step s e)) t.owed else (if c then of_others i t.owed ++ rest else t.owed)

  own_by : (r c : Bool) → list_any (same_step e) t.owed ≡ r → commits (shape cs i) b ≡ c → of_process i (new_owed r c) ≡ owed cs after i
  own_by true c owes is = own_left owes
  own_by false true owes is = own_rest
  own_by false false owes is = own-owed table cs h t legal kept i goes ∙ sym (owed-stays cs h e is_step (there ∙ is))

  other_by : (k : ℕ) → eqb i k ≡ false → (r c : Bool) → of_process k (new_owed r c) ≡ of_process k t.owed
  other_by k other true c = other_left k other
  other_by k other false true = other_rest k other
  other_by k other false false = refl

  new_is : owed_with (course cs i) t.net t.owed e ≡ new_owed (list_any (same_step e) t.owed) (commits (shape cs i) b)
  new_is =
      ap (λ w. if list_any (same_step e) t.owed then filter (λ s. not (same_step s e)) t.owed
      else (if commits (shape cs i) b then of_others i t.owed ++ owed_by (course cs i) i (forward (shape cs i) (w ++ b ∷ [])) else t.owed))
      (own-steps table cs h t legal kept i goes)

  -- what each active process owes after the step
  pub owed-step : (k : ℕ) → of_process k (owed_with (course cs i) t.net t.owed e) ≡ (if is_active after k then owed cs after k else [])
  owed-step k = ap (of_process k) new_is ∙ by_process (eqb i k) refl
    where
      by_process : (s : Bool) → eqb i k ≡ s → of_process k (new_owed (list_any (same_step e) t.owed) (commits (shape cs i) b)) ≡ (if is_active after k then owed cs after k else [])
      by_process true same =
          subst (λ n. of_process n (new_owed (list_any (same_step e) t.owed) (commits (shape cs i) b)) ≡ (if is_active after n then owed cs after n else [])) (eqb-true i k same)
          (own_by (list_any (same_step e) t.owed) (commits (shape cs i) b) refl refl
          ∙ sym (ap (λ a. if a then owed cs after i else []) (is_active-do h e i ∙ goes)))
      by_process false other =
          other_by k other (list_any (same_step e) t.owed) (commits (shape cs i) b) ∙ owed-other cs h (Act e) k (of_process k t.owed) other (kept.owed k)
