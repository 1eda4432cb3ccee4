-- What a core finds of the next piece of a process is what the machine replies.
use Rattle.std.proofs.Common.{◌≡◌, ℕ, ◌+◌, true, List, length, filter, find, slice_index_or, Option, Some, None, sym, refl, ap, ◌∙◌, arith}
use Rattle.process_tree.specs.declared.entry.Entry.{Entry}
use Rattle.process_tree.specs.declared.plan.Plan.{Plan}
use Rattle.schedule_model.specs.Blocking.{Clashes}
use Rattle.schedule_model.specs.Course.{Course, usual}
use Rattle.schedule_model.specs.Histories.{is_active, is_in, net}
use Rattle.schedule_model.proofs.Active.{is_active-is_in}
use Rattle.machine_model.specs.declared.blocked.Admitted.TheVariants.{Free, Blocked as BlockedBy}
use Rattle.machine_model.specs.declared.blocked.Blocked.{Blocked}
use Rattle.machine_model.specs.declared.kept.Work.{Work}
use Rattle.machine_model.specs.declared.kept.Work.TheVariants.{Forward, Undo, End}
use Rattle.machine_model.specs.Blocks.{blocks_of, least_block}
use Rattle.machine_model.specs.Moment.{Moment}
use Rattle.machine_model.specs.Pieces.{hands, running_of}
use Rattle.machine_model.specs.ProcessState.{told_task}
use Rattle.machine_model.specs.State.{against_work, block_of, next_of, progress, tried}
use Rattle.machine_model.specs.Replies.{hand_to, refuse_by}
use Rattle.machine_model.proofs.OpenHoldings.{holders-active}
use Rattle.machine_model.proofs.OpenRuns.{open_holdings_are_enough}
use Rattle.hold_tables.specs.Tables.{Tables, holdings_of}
use Rattle.admission.specs.Admission.{IsWithin, admission, admitted, against_todo, against_undo_of, is_of_step}
use Rattle.core_state.specs.Cores.{CoreState, IsCore, courses_in, machine_of, moment_of, relation}
use Rattle.process_core.specs.Handing.{IsOfPlan, piece_for, piece_told}
use Rattle.core_state.specs.OpenTables.{tables_of}
use Rattle.core_state.proofs.Admissions.{against_forward}
use Rattle.core_state.proofs.NextTasks.{end_step, next_branch, next_within, undone_is, undone_within}
use Rattle.core_state.proofs.OwnPlans.{OwnPlan, own_steps}
use Rattle.core_state.proofs.TablesHoldings.{tables_stand_for}

pub admitted_blocked : (o : Option Blocked) (b : Blocked) → admitted o ≡ BlockedBy b → o ≡ Some b
admitted_blocked None b is = absurd (cc)
admitted_blocked (Some a) b is = cc

pub admitted_free : (o : Option Blocked) → admitted o ≡ Free → o ≡ None
admitted_free None is = refl
admitted_free (Some a) is = absurd (cc)

module _ (v : CoreState) (core : IsCore v) (i : ℕ) (active' : is_active (moment_of v).events i ≡ true) (p : Plan) (own : OwnPlan v i p) where
  abbrev cs : List Course
  cs = courses_in v

  abbrev m : Moment
  m = moment_of v

  abbrev ts : Tables
  ts = tables_of v.conflicts (courses_in v) (moment_of v)

  -- a step that comes next is one of the plan, and so is one that is to be undone
  pub step_of_plan : (w : Work) (b : ℕ) → next_of (courses_in v) (moment_of v) i ≡ record { work = w; step = b } → IsOfPlan p (told_task w b)
  step_of_plan Forward b next = let within = next_within v core i active' b next in let same = own_steps v i p own in omega arith
  step_of_plan Undo b next = let within = undone_within v core i active' b next in let same = own_steps v i p own in omega arith
  step_of_plan End b next = tt

  pub within_plan : (w : Work) (b : ℕ) → next_of (courses_in v) (moment_of v) i ≡ record { work = w; step = b } → IsWithin p (told_task w b)
  within_plan Forward b next = step_of_plan Forward b next
  within_plan Undo b next = tt
  within_plan End b next = tt

  -- the piece that is handed out
  piece_by : (n tries : ℕ) (w : Work) (b : ℕ) → (w ≡ End → b ≡ 0) → piece_told p n i tries (told_task w b) ≡ piece_for n i w b tries (refuse_by (courses_in v) i b w)
  piece_by n tries Forward b end = ap (λ (c : Course). piece_for n i Forward b tries (slice_index_or c.allowances b usual).refuse) (sym own.course')
  piece_by n tries Undo b end = ap (λ (c : Course). piece_for n i Undo b tries (slice_index_or c.allowances b usual).undo_refuse) (sym own.course')
  piece_by n tries End b end = ap (λ k. piece_for n i End k tries 0) (sym (end refl))

  pub piece_is : (n tries : ℕ) → n ≡ length (hands (moment_of v).kept) + 1 → tried (moment_of v) i (next_of (courses_in v) (moment_of v) i) ≡ tries
      → piece_told p n i tries (told_task (next_of (courses_in v) (moment_of v) i).work (next_of (courses_in v) (moment_of v) i).step) ≡ hand_to (courses_in v) (moment_of v) i
  piece_is n tries number often =
      let t = next_of cs m i in
      piece_by n tries t.work t.step (end_step (progress cs m i))
      ∙ (ap (λ k. piece_for k i t.work t.step tries (refuse_by cs i t.step t.work)) number
      ∙ ap (λ k. piece_for (length (hands m.kept) + 1) i t.work t.step k (refuse_by cs i t.step t.work)) (sym often))

  module _ (idle : running_of (moment_of v) i ≡ None) where
    -- what stands against it
    against_by : (w : Work) (b : ℕ) → next_of cs m i ≡ record { work = w; step = b } → against_todo ts p i (told_task w b) ≡ against_work (relation v) cs (holdings_of ts) m.events i b w
    against_by Forward b next = against_forward v.conflicts cs m i p (is_active-is_in m.events i ∙ active') own.course' idle b (next_branch v core i active' b next)
    against_by Undo b next = ap (against_undo_of ts) (ap (λ is. find (is_of_step i b) (filter (λ (e : Entry). is_in e.process is) (net m.events))) (holders-active cs m) ∙ undone_is v core i active' b next)
    against_by End b next = refl

    -- so it is blocked alike
    pub admission_is : let t = next_of (courses_in v) (moment_of v) i in
        admission (tables_of v.conflicts (courses_in v) (moment_of v)) p i (told_task t.work t.step) ≡ admitted (block_of (relation v) (courses_in v) (moment_of v) i)
    admission_is =
        let t = next_of cs m i in
        ap (λ (x : Clashes). admitted (least_block (blocks_of x)))
        (against_by t.work t.step refl
        ∙ (ap (λ g. against_work (relation v) cs g m.events i t.step t.work) (tables_stand_for v.conflicts cs m)
        ∙ (open_holdings_are_enough (relation v) v.plans (machine_of v) i core.session active').0))
