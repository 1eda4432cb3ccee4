-- The end of a process that has nothing left to undo is never blocked: whatever it has done is fixed.
use Rattle.std.proofs.Common.{◌≡◌, ℕ, Bool, true, List, [], length, None, sym, refl, ap, subst, ◌∙◌}
use Rattle.std.proofs.lemmas.Bool.{eqb-true}
use Rattle.process_tree.specs.declared.entry.Entry.{Entry}
use Rattle.process_tree.specs.declared.plan.Plan.{Plan}
use Rattle.schedule_model.specs.Course.{Course, courses_of}
use Rattle.schedule_model.specs.Conflict.{ConflictRelation, IsSymmetric}
use Rattle.schedule_model.specs.Histories.{is_active, is_in, net}
use Rattle.schedule_model.specs.Holdings.{Holdings, behind, holders}
use Rattle.schedule_model.specs.Blocking.{against_end, all_clashes}
use Rattle.schedule_model.specs.Laws.{AreGood}
use Rattle.schedule_model.specs.Recovery.{backward_entries}
use Rattle.schedule_model.proofs.Behind.{among_behind, behind-filter, has_step, same_step-process}
use Rattle.schedule_model.proofs.Clear.{FrontApart, clear-from_nothing, front-none}
use Rattle.schedule_model.proofs.Conflicts.{conflict-flipped}
use Rattle.schedule_model.proofs.Members.{Among, among-filter}
use Rattle.machine_model.specs.declared.kept.Work.TheVariants.{End}
use Rattle.machine_model.specs.Moment.{Moment}
use Rattle.machine_model.specs.State.{against_work, block_of, holdings, next_of}
use Rattle.machine_model.specs.Runs.{now}
use Rattle.machine_model.specs.Laws.{EndsAreFree}
use Rattle.machine_model.proofs.Clear.{clear-none}
use Rattle.machine_model.proofs.FixedFree.{FixedFacts, session-fixed_free}
use Rattle.machine_model.proofs.OpenHoldings.{holds-active}

module _ (table : ConflictRelation) (symmetric : IsSymmetric table) (plans : List Plan) (good : AreGood plans) (m : Moment) (facts : FixedFacts table symmetric plans good m) where
  abbrev cs : List Course
  cs = courses_of plans

  abbrev g : Holdings
  g = holdings (courses_of plans) m

  -- nothing of other active processes stands in front of what is fixed
  front_apart : (i : ℕ) → is_active m.events i ≡ true → backward_entries cs m.events i ≡ [] → FrontApart table g i
  front_apart i goes none x y front back its =
      let keep : Entry → Bool = λ (e : Entry). is_in e.process (holders g) in
      let one = among-filter keep x (net m.events) front in
      let x_goes = sym (holds-active cs m x.process) ∙ one.1 in
      let same = behind-filter keep x (net m.events) (λ f is. ap (λ j. is_in j (holders g)) (sym (same_step-process x f is)) ∙ one.1) in
      let back' = (among-filter keep y (behind x (net m.events)) (subst (Among y) same back)).0 in
      conflict-flipped table symmetric x y
      (facts.free x y one.0 x_goes (among_behind x y (net m.events) back') (ap (is_active m.events) its ∙ goes) (ap (λ j. has_step y (backward_entries cs m.events j)) its ∙ ap (has_step y) none) back')

  pub end_unblocked : (i : ℕ) → is_active m.events i ≡ true → (next_of cs m i).work ≡ End → backward_entries cs m.events i ≡ [] → block_of table cs m i ≡ None
  end_unblocked i goes work none =
      let t = next_of cs m i in
      let clear = clear-from_nothing (against_end table g i) (record { a0 = refl; a1 = refl; a2 = refl; a3 = front-none table g i (front_apart i goes none); a4 = refl; a5 = refl }) in
      clear-none (against_work table cs g m.events i t.step t.work)
      (ap (λ w. length (all_clashes (against_work table cs g m.events i t.step w))) work ∙ eqb-true (length (all_clashes (against_end table g i))) 0 clear)

pub ends_are_free : EndsAreFree
ends_are_free table plans s session i goes work none =
    let m = now table s in
    subst (λ xs. block_of table xs m i ≡ None) (sym session.courses)
    (end_unblocked table session.symmetric plans session.good m (session-fixed_free table plans s session) i goes (ap (λ xs. (next_of xs m i).work) (sym session.courses) ∙ work)
    (ap (λ xs. backward_entries xs m.events i) (sym session.courses) ∙ none))
