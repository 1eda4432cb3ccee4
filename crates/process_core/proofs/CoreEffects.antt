-- What a core has of a piece that takes effect, and what it answers.
use Rattle.std.proofs.Common.{◌≡◌, ◌∙◌, ℕ, zero, suc, ◌+◌, ◌-◌, ◌≤◌, ◌<◌, true, false, Bool, if◌then◌else◌, List, [], ◌∷◌, ◌++◌, length, slice_index_or, Some, is_some, sym, refl, ap, subst, arith}
use Rattle.std.proofs.lemmas.Bool.{false≢true}
use Rattle.std.proofs.lemmas.List.{length-map}
use Rattle.process_tree.specs.declared.plan.Plan.{Plan}
use Rattle.process_tree.specs.declared.play.Outcome.TheVariants.{Done}
use Rattle.process_tree.specs.declared.step.Step.{Step}
use Rattle.process_tree.specs.Blocks.{outline}
use Rattle.process_tree.specs.Conflicts.{operations_in}
use Rattle.process_tree.specs.Order.{Each}
use Rattle.process_tree.specs.Shape.{commits, shape_of}
use Rattle.schedule_model.specs.declared.event.Event.{Event}
use Rattle.schedule_model.specs.Course.{Course, course, course_of}
use Rattle.schedule_model.specs.Histories.{active, doing, net}
use Rattle.schedule_model.specs.Laws.{IsGoodPlan}
use Rattle.schedule_model.proofs.Members.{contains-from_among}
use Rattle.machine_model.specs.declared.kept.Kept.TheVariants.{Effect}
use Rattle.machine_model.specs.declared.kept.Work.{Work}
use Rattle.machine_model.specs.declared.kept.Work.TheVariants.{End, Forward, Undo}
use Rattle.machine_model.specs.declared.replies.PieceState.TheVariants.{Out}
use Rattle.machine_model.specs.Calls.{finish}
use Rattle.machine_model.specs.Moment.{Moment, Piece}
use Rattle.machine_model.specs.Pieces.{dropped_at, piece_of, runs, state_of}
use Rattle.machine_model.specs.Progress.{same_work}
use Rattle.machine_model.specs.Replies.{effected, finish_by, finish_kept, finish_piece, finish_reply, out_finish}
use Rattle.machine_model.specs.State.{entry_by, entry_of}
use Rattle.machine_model.proofs.CallsKept.{out_runs}
use Rattle.machine_model.proofs.Snoc.{now-kept}
use Rattle.hold_tables.specs.Changes.{all_fixed, changed, took_effect, with_pending, with_reserved}
use Rattle.hold_tables.specs.Tables.{OpenProcess, Tables, is_open, kept_of}
use Rattle.process_core.specs.Answers.{after_call}
use Rattle.core_state.specs.Cores.{CoreState, IsCore, courses_in, history_of, machine_of, moment_of, relation}
use Rattle.core_state.specs.Effects.{HoldsWork, tables_effected}
use Rattle.core_state.specs.OpenTables.{planned_behind, row_of}
use Rattle.core_state.specs.Seats.{SeatState, Stands}
use Rattle.core_state.proofs.EffectRows.{its_row, listed, runs_it}
use Rattle.core_state.proofs.EffectSteps.{goes}
use Rattle.core_state.proofs.HandStands.{with_event}
use Rattle.core_state.proofs.MayStand.{among_at}
use Rattle.core_state.proofs.NetEntries.{step_is_one}
use Rattle.core_state.proofs.PendedRows.{listed_open}
use Rattle.core_state.proofs.StartedProcesses.{course_at}
use Rattle.core_state.proofs.SeatFacts.{handed_has_plan}

-- an effect leaves the table of conflicts
pub same_conflicts : (p : Plan) (i b : ℕ) (w : Work) (n : ℕ) (t : Tables) → (tables_effected p i b w n t).conflicts ≡ t.conflicts
same_conflicts p i b Forward n t = by_kind (commits (shape_of p.tree) b)
  where
    by_kind : (k : Bool) → (changed (with_pending n) i (if k then changed (with_reserved (planned_behind p b)) i (all_fixed i (took_effect i t)) else took_effect i t)).conflicts ≡ t.conflicts
    by_kind true = refl
    by_kind false = refl
same_conflicts p i b Undo n t = refl
same_conflicts p i b End n t = refl

-- what stands at a place
there : {X : Type 0} (xs : List X) (n : ℕ) → n < length xs → (x : X) × (x ≡ slice_index_or xs n x)
there [] n within = absurd (omega arith)
there (x ∷ xs) zero within = (x, refl)
there (x ∷ xs) (suc n) within = there xs n (omega arith)

module _ (c : CoreState) (d : Piece) (found : piece_of c.kept d.number ≡ Some d) where
  -- a piece that is out runs
  pub takes_effect : state_of (moment_of c) d.number ≡ Out → runs (moment_of c) d.number ≡ true
  takes_effect out = out_runs (runs (moment_of c) d.number) (dropped_at (moment_of c) d.number) out

  -- what is answered
  pub reply_is : state_of (moment_of c) d.number ≡ Out → finish_reply (relation c) (courses_in c) (moment_of c) d.number Done ≡ effected (length (history_of c) + 1)
  reply_is out =
      ap (finish_piece (relation c) (courses_in c) (moment_of c) Done) (ap (λ ks. piece_of ks d.number) (now-kept (relation c) (machine_of c)) ∙ found)
      ∙ ap (finish_by (out_finish (relation c) (courses_in c) (moment_of c) d Done)) out

  -- and the core after it
  pub effected_after : state_of (moment_of c) d.number ≡ Out → after_call c (finish d.number Done) ≡ with_event c (Effect d.number)
  effected_after out = ap (λ r. record { conflicts = c.conflicts; plans = c.plans; opening = c.opening; kept = c.kept ++ finish_kept d.number r; served = c.served }) (reply_is out)

  -- its process has a plan
  pub has_its_plan : IsCore c → (p : Plan) × (p ≡ slice_index_or c.plans (d.process - 1) p)
  has_its_plan core = let bounds = handed_has_plan c core d found in let low = bounds.0 in let high = bounds.1 in there c.plans (d.process - 1) (omega arith)

  module _ (out : runs (moment_of c) d.number ≡ true) (h : List Event) (ss : List SeatState) (ts : Tables) (stands : Stands c h ss ts)
      (p : Plan) (its : p ≡ slice_index_or c.plans (d.process - 1) p) where
    abbrev cs : List Course
    cs = courses_in c

    abbrev m : Moment
    m = moment_of c

    abbrev i : ℕ
    i = d.process

    bounds_now : (1 ≤ i) × (i ≤ length c.plans)
    bounds_now = handed_has_plan c stands.core d found

    -- the plan is that of its process
    pub plan_is : course (courses_in c) d.process ≡ course_of p
    plan_is =
        let low = bounds_now.0 in
        let high = bounds_now.1 in
        let e : i - 1 + 1 ≡ i = omega arith in
        ap (course cs) (sym e) ∙ (course_at c.plans (i - 1) p (omega arith) ∙ ap course_of (sym its))

    its_plan : IsGoodPlan p × Each (λ op. op < operations_in c.conflicts) p.ops
    its_plan =
        let low = bounds_now.0 in
        let high = bounds_now.1 in
        let q = slice_index_or c.plans (i - 1) p in
        let among = contains-from_among q c.plans (among_at c.plans (i - 1) p (omega arith)) in
        subst (λ (x : Plan). IsGoodPlan x × Each (λ op. op < operations_in c.conflicts) x.ops) (sym its) (stands.core.session.good q among, stands.core.known q among)

    its_steps : length (course cs i).shape.kinds ≡ length (outline p.tree).steps
    its_steps = ap (λ (x : Course). length x.shape.kinds) plan_is ∙ length-map (outline p.tree).steps (λ (s : Step). s.kind)

    row_is : kept_of ts i ≡ row_of cs m i
    row_is = ap (λ (t : Tables). kept_of t i) stands.tables ∙ its_row c stands.core d found out

    some_entry : (w : Work) → same_work w End ≡ false → is_some (entry_by cs i d.step w) ≡ true
    some_entry Forward no_end = refl
    some_entry Undo no_end = refl
    some_entry End no_end = absurd (false≢true (sym no_end))

    -- so the tables hold it
    pub holds_work : HoldsWork p d.process d.step d.work ts
    holds_work = record {
      held = ap (λ (t : Tables). is_open t i) stands.tables ∙ listed_open (row_of cs m) i (active m.events) (λ k. refl) (listed c stands.core d found out);
      running = λ no_end. ap (λ (r : OpenProcess). is_some r.running) row_is ∙ (ap (λ o. is_some (entry_of cs o)) (runs_it c stands.core d found out) ∙ some_entry d.work no_end);
      steps = ap (λ (r : OpenProcess). r.steps) row_is ∙ its_steps;
      step = λ is.
          let less = step_is_one c.plans stands.core.session.good (net m.events) (doing cs i d.step) (record { goes = goes c stands.core d found out is p plan_is; forward = refl; access = refl }) in
          let same = its_steps in
          omega arith;
      good = its_plan.0.tree;
      operations = its_plan.0.operations;
      known = subst (λ (t : Tables). Each (λ op. op < operations_in t.conflicts) p.ops) (sym stands.tables) its_plan.1;
    }
