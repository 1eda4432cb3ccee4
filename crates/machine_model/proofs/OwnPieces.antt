-- What is handed out is a step of its process, the undo of a step that can be undone, or the end.
use Rattle.std.proofs.Common.{◌≡◌, inl, inr, ⊎_elim, ℕ, ◌+◌, ◌≤◌, ◌<◌, Bool, true, false, not, if◌then◌else◌, ◌&&◌, List, [], ◌∷◌, ◌++◌, length, drop, Option, Some, None, is_none, sym, refl, ap, subst, ◌∙◌, eqb, length-append, arith}
use Rattle.std.proofs.lemmas.List.{drop-append-le}
use Rattle.std.proofs.lemmas.Option.{none-some, same_Some}
use Rattle.std.proofs.lemmas.Bool.{and_parts, cases_lt, eqb-true, false≢true}
use Rattle.process_tree.specs.declared.plan.Plan.{Plan}
use Rattle.process_tree.specs.declared.step.StepKind.{StepKind}
use Rattle.process_tree.specs.declared.step.StepKind.TheVariants.{C, P, R, Cr}
use Rattle.process_tree.specs.Order.{Each, has}
use Rattle.process_tree.specs.Recovery.{forward}
use Rattle.process_tree.specs.Shape.{Shape, can_be_undone, commits_after, commits_by_kind, first_of, fixed_len, goes_on_to, kind_of, last_of, IsBranch}
use Rattle.process_tree.proofs.Every.{Each-append}
use Rattle.process_tree.proofs.Fixed.{fixed_more}
use Rattle.process_tree.proofs.InTurn.{goes_within}
use Rattle.process_tree.proofs.TreeLaws.{paths_lie_in_order}
use Rattle.schedule_model.specs.Conflict.{ConflictRelation}
use Rattle.schedule_model.specs.Course.{Course, course, courses_of, shape}
use Rattle.schedule_model.specs.Histories.{is_active, net_steps}
use Rattle.schedule_model.specs.Laws.{AreGood}
use Rattle.schedule_model.specs.OwnOrder.{keeps_order}
use Rattle.schedule_model.proofs.GoodPlans.{good_if_goes_on}
use Rattle.schedule_model.proofs.NetPaths.{net-branch}
use Rattle.machine_model.specs.declared.kept.Kept.{Kept}
use Rattle.machine_model.specs.declared.kept.Kept.TheVariants.{Start, Hand, Effect, Refuse, Abort, Victim, Restart}
use Rattle.machine_model.specs.declared.kept.Work.{Work}
use Rattle.machine_model.specs.declared.kept.Work.TheVariants.{Forward, Undo, End}
use Rattle.machine_model.specs.Moment.{Moment, Piece}
use Rattle.machine_model.specs.Pieces.{hands, running_of}
use Rattle.machine_model.specs.Progress.{Progress, pending_steps, same_work, staying, step_or_end, undo_or, way_on}
use Rattle.machine_model.specs.State.{block_of, is_exhausted, next_of, progress}
use Rattle.machine_model.specs.Advance.{advance, event_by}
use Rattle.machine_model.specs.Runs.{may_be_kept}
use Rattle.machine_model.proofs.LastElements.{last_of-push}
use Rattle.machine_model.proofs.NextInOrder.{next_keeps}
use Rattle.machine_model.proofs.OwnOrder.{InOwnOrder, on_from, same_work-is}
use Rattle.machine_model.proofs.RunningNext.{hand_parts}
use Rattle.machine_model.proofs.Snoc.{advances, hands-append}
use Rattle.machine_model.proofs.WaysOn.{drop_past, staying-least}

-- work on step b is of process i: it has the step, what is undone can be undone, and an end has step 0
abbrev pub Belongs : List Course → ℕ → ℕ → Work → Type 0
Belongs courses i b Forward = b < length (course courses i).ops
Belongs courses i b Undo = (b < length (course courses i).ops) × (can_be_undone (kind_of (shape courses i) b) ≡ true)
Belongs courses i b End = b ≡ 0

-- a step that is no commit point can be undone
not_committed : (k : StepKind) (owed : Bool) → commits_by_kind k owed ≡ false → can_be_undone k ≡ true
not_committed C owed is = refl
not_committed P owed is = absurd (false≢true (sym is))
not_committed R owed is = absurd (false≢true (sym is))
not_committed Cr owed is = refl

-- what stands behind the fixed steps and is the last of all can be undone
undone_kind : (t : Shape) (v : List ℕ) (a b k : ℕ) → fixed_len t (v ++ a ∷ []) ≤ k → last_of (drop k (v ++ a ∷ [])) ≡ Some b → (a ≡ b) × (can_be_undone (kind_of t a) ≡ true)
undone_kind t v a b k most last = by_commit (commits_after t v a) refl
  where
    past : length v + 1 ≤ k → ⊥
    past few = let whole = length-append v (a ∷ []) in none-some b (sym (ap last_of (drop_past k (v ++ a ∷ []) (omega arith))) ∙ last)

    its : k ≤ length v → a ≡ b
    its few = same_Some a b (sym (ap last_of (drop-append-le k v (a ∷ []) few) ∙ last_of-push (drop k v) a) ∙ last)

    by_commit : (c : Bool) → commits_after t v a ≡ c → (a ≡ b) × (can_be_undone (kind_of t a) ≡ true)
    by_commit true is = let all = fixed_more t v a ∙ ap (λ c. if c then length v + 1 else fixed_len t v) is in absurd (past (omega arith))
    by_commit false is =
        (⊎_elim (λ (less : length v < k). absurd (past (omega arith))) its (cases_lt (length v) k), not_committed (kind_of t a) (has a (forward t v)) is)

module _ (table : ConflictRelation) (plans : List Plan) (good : AreGood plans) where
  abbrev cs : List Course
  cs = courses_of plans

  -- a step that goes on is one of the process's
  within : (i : ℕ) (w : List ℕ) (b : ℕ) → goes_on_to (shape cs i) w b ≡ true → b < length (course cs i).ops
  within i w b on =
      let plan = good_if_goes_on plans i w b good on in
      let few = goes_within (shape cs i) (length (shape cs i).kinds) w b (paths_lie_in_order (shape cs i) plan.tree).within on in
      let same = plan.operations in
      omega arith

  module _ (m : Moment) (own : InOwnOrder table plans good m) (i : ℕ) where
    abbrev t : Shape
    t = shape (courses_of plans) i

    abbrev s : Progress
    s = progress (courses_of plans) m i

    undo_belongs : (b : ℕ) → last_of (pending_steps s) ≡ Some b → (w : List ℕ) → net_steps m.events i ≡ w → IsBranch t w → Belongs cs i b Undo
    undo_belongs b last w same (inl none) = absurd (none-some b (sym (ap (λ v. last_of (drop (staying s) v)) (same ∙ none) ∙ ap last_of (drop_past {X = ℕ} (staying s) [] (omega arith))) ∙ last))
    undo_belongs b last w same (inr is) =
        let net = same ∙ is.2 in
        let least = staying-least s in
        let fixed = ap (fixed_len t) net in
        let kind = undone_kind t is.0 is.1 b (staying s) (omega arith) (sym (ap (λ v. last_of (drop (staying s) v)) net) ∙ last) in
        (subst (λ c. c < length (course cs i).ops) kind.0 (within i is.0 is.1 is.3), subst (λ c. can_be_undone (kind_of t c) ≡ true) kind.0 kind.1)

    by_parts : (o q : Option ℕ) → last_of (pending_steps s) ≡ o
        → (let x = undo_or (step_or_end q) o in keeps_order cs m.events (event_by cs i x.step x.work) ≡ true)
        → let x = undo_or (step_or_end q) o in Belongs cs i x.step x.work
    by_parts (Some b) q last keeps = undo_belongs b last (net_steps m.events i) refl (net-branch cs i m.events own.legal)
    by_parts None (Some d) last keeps = within i (net_steps m.events i) d (on_from table plans good m i d keeps)
    by_parts None None last keeps = refl

    -- the next piece of an active process is its own
    next_belongs : is_active m.events i ≡ true → let x = next_of cs m i in Belongs cs i x.step x.work
    next_belongs active' = by_parts (last_of (pending_steps s)) (if s.begun then first_of (forward s.shape s.net) else way_on s) refl (next_keeps plans good m own.legal i (own.ahead i) active')

  -- each piece that was handed out is of its process
  abbrev pub AllBelong : Moment → Type 0
  AllBelong m = Each (λ (p : Piece). Belongs cs p.process p.step p.work) (hands m.kept)

  hand_belongs : (m : Moment) (p : Piece) → InOwnOrder table plans good m → may_be_kept table cs m (Hand p.number p.process p.step p.work) ≡ true → Belongs cs p.process p.step p.work
  hand_belongs m p own may =
      let parts = hand_parts table cs m p may in
      let t = next_of cs m p.process in
      let its = and_parts (same_work p.work t.work) (eqb p.step t.step) parts.task in
      let free = and_parts (is_active m.events p.process && is_none (running_of m p.process)) (not (is_exhausted cs m p.process))
      (and_parts ((is_active m.events p.process && is_none (running_of m p.process)) && not (is_exhausted cs m p.process)) (is_none (block_of table cs m p.process)) parts.free).0 in
      subst (Belongs cs p.process p.step) (sym (same_work-is p.work t.work its.0))
      (subst (λ b. Belongs cs p.process b t.work) (sym (eqb-true p.step t.step its.1))
      (next_belongs m own p.process (and_parts (is_active m.events p.process) (is_none (running_of m p.process)) free.0).0))

  new_belong : (m : Moment) (k : Kept) → InOwnOrder table plans good m → may_be_kept table cs m k ≡ true → Each (λ (p : Piece). Belongs cs p.process p.step p.work) (hands (k ∷ []))
  new_belong m (Start j) own may = tt
  new_belong m (Hand a b c d) own may = (hand_belongs m (record { number = a; process = b; step = c; work = d }) own may, tt)
  new_belong m (Effect n) own may = tt
  new_belong m (Refuse n) own may = tt
  new_belong m (Abort j) own may = tt
  new_belong m (Victim j) own may = tt
  new_belong m Restart own may = tt

  pub advance-belong : (m : Moment) (k : Kept) → InOwnOrder table plans good m → AllBelong m → may_be_kept table cs m k ≡ true → AllBelong (advance table cs m k)
  advance-belong m k own all may =
      subst (Each (λ (p : Piece). Belongs cs p.process p.step p.work)) (sym (ap hands (advances table cs m k).kept ∙ hands-append m.kept (k ∷ [])))
      (Each-append (λ (p : Piece). Belongs cs p.process p.step p.work) (hands m.kept) (hands (k ∷ [])) all (new_belong m k own may))
