-- What stands against a step or an end is the same without the entries of those that have ended.
use Rattle.std.proofs.Common.{◌≡◌, ℕ, Bool, true, false, eqb, ◌&&◌, if◌then◌else◌, List, [], ◌∷◌, ◌++◌, map, filter, sym, refl, ap, ◌∙◌}
use Rattle.std.specs.List.{flat_map, list_any}
use Rattle.process_tree.specs.declared.entry.Entry.{Entry}
use Rattle.process_tree.specs.Recovery.{StepClass, reserved, committing, undoable}
use Rattle.schedule_model.specs.Conflict.{ConflictRelation, conflict}
use Rattle.schedule_model.specs.Histories.{is_in}
use Rattle.schedule_model.specs.Graph.{leads}
use Rattle.schedule_model.specs.Holdings.{Holdings, active_net, all_reserved, all_running, running_steps, behind, holders, of_active}
use Rattle.schedule_model.specs.Blocking.{Clash, against, against_undo, against_step, in_front, in_a_circle, with_active, with_owed, with_running, with_reserved}
use Rattle.schedule_model.specs.Laws.{EndedAreAside, EndedDontBlockSteps}
use Rattle.schedule_model.proofs.Snoc.{filter_through, filter_twice}
use Rattle.schedule_model.proofs.Members.{Among, filter-agree}
use Rattle.schedule_model.proofs.Behind.{behind-filter, same_step-process}
use Rattle.std.proofs.Math.Bool.{and-false}
use Rattle.std.specs.Bool.{IsTrue}

module _ (table : ConflictRelation) (g : Holdings) where
  -- the net of the active processes is the same
  pub active_net-aside : active_net (of_active g) ≡ active_net g
  active_net-aside = filter_through (λ (e : Entry). is_in e.process (holders g)) (λ (e : Entry). is_in e.process (holders g)) g.net (λ x is. is)

  pub in_front-aside : (i : ℕ) → in_front table (of_active g) i ≡ in_front table g i
  in_front-aside i = ap (λ es. flat_map (λ x. flat_map (λ y. if eqb y.process i then against table y (x ∷ []) else []) (behind x es)) es) active_net-aside

  pub circle-aside : (b : Entry) → in_a_circle table (of_active g) b ≡ in_a_circle table g b
  circle-aside b = ap (λ es. filter (λ (c : Clash). leads (λ k i. list_any (λ (x : Entry). eqb x.process k && list_any (λ (y : Entry). eqb y.process i && conflict table x y) (behind x es ++ running_steps g)) es) (holders g) b.process c.other.process) (against table b es)) active_net-aside

  pub active-aside : (b : Entry) → with_active table (of_active g) b ≡ with_active table g b
  active-aside b = ap (λ es. against table b es ++ flat_map (λ x. flat_map (λ y. if eqb y.process b.process then against table y (x ∷ []) else []) (behind x es)) es) active_net-aside

  pub owed-aside : (owed : List Entry) → with_owed table (of_active g) owed ≡ with_owed table g owed
  owed-aside owed = ap (λ es. flat_map (λ s. against table s (es ++ all_running g ++ all_reserved g)) owed) active_net-aside

  aside-step : (class : StepClass) (b : Entry) (owed : List Entry) → against_step table (of_active g) class b owed ≡ against_step table g class b owed
  aside-step reserved b owed = refl
  aside-step undoable b owed = ap (λ cs. record { a0 = with_running table g b; a1 = with_reserved table g b; a2 = cs; a3 = []; a4 = []; a5 = [] }) (circle-aside b)
  aside-step committing b owed =
      ap (λ cs. record { a0 = with_running table g b; a1 = with_reserved table g b; a2 = []; a3 = cs; a4 = with_owed table (of_active g) owed; a5 = [] }) (active-aside b)
      ∙ ap (λ cs. record { a0 = with_running table g b; a1 = with_reserved table g b; a2 = []; a3 = with_active table g b; a4 = cs; a5 = [] }) (owed-aside owed)

  pub ended-aside : EndedAreAside table g
  ended-aside = record {
    steps = aside-step;
    to_end = λ i. ap (λ cs. record { a0 = []; a1 = []; a2 = []; a3 = cs; a4 = []; a5 = [] }) (in_front-aside i);
  }

-- so is what stands against an undo, where whatever stands behind its step and conflicts is of an active process
module _ (table : ConflictRelation) (g : Holdings) (x : Entry) (own : IsTrue (is_in x.process (holders g)))
    (theirs : (y : Entry) → Among y (behind x g.net) → conflict table x y ≡ true → IsTrue (is_in y.process (holders g))) where
  both_tests : (y : Entry) → Among y (behind x g.net) → (is_in y.process (holders g) && conflict table x y) ≡ conflict table x y
  both_tests y back = by_conflict (conflict table x y) refl
    where
      by_conflict : (c : Bool) → conflict table x y ≡ c → (is_in y.process (holders g) && conflict table x y) ≡ conflict table x y
      by_conflict true is = ap (λ t. t && conflict table x y) (theirs y back is)
      by_conflict false none = ap (λ t. is_in y.process (holders g) && t) none ∙ (and-false (is_in y.process (holders g)) ∙ sym none)

  pub undo-aside : against_undo table (of_active g) x ≡ against_undo table g x
  undo-aside =
      let p : Entry → Bool = λ (f : Entry). is_in f.process (holders g) in
      let same : filter (conflict table x) (behind x (filter p g.net)) ≡ filter (conflict table x) (behind x g.net) =
      ap (filter (conflict table x)) (behind-filter p x g.net (λ f same. ap (λ k. is_in k (holders g)) (sym (same_step-process x f same)) ∙ own))
      ∙ (filter_twice p (conflict table x) (behind x g.net) ∙ filter-agree (λ y. p y && conflict table x y) (conflict table x) (behind x g.net) both_tests) in
      ap (λ ys. record { a0 = []; a1 = []; a2 = []; a3 = []; a4 = []; a5 = map (λ y. record { own = x; other = y }) ys }) same

pub ended-dont_block_steps : EndedDontBlockSteps
ended-dont_block_steps = ended-aside
