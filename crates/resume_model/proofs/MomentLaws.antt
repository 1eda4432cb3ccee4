-- The laws at each moment of a session that opens at a sound moment.
use Rattle.std.proofs.Common.{◌≡◌, ◌↔◌, inl, ℕ, ◌≤◌, Bool, true, false, List, length, map, Some, None, sym, refl, ap, ◌∙◌, arith}
use Rattle.std.specs.List.{sum_by}
use Rattle.process_tree.specs.declared.plan.Plan.{Plan}
use Rattle.schedule_model.specs.Course.{Course, courses_of}
use Rattle.schedule_model.specs.Conflict.{ConflictRelation, IsSymmetric}
use Rattle.schedule_model.specs.Histories.{active, net, starts}
use Rattle.schedule_model.specs.Holdings.{arrow, behind, holders, reaches}
use Rattle.schedule_model.specs.Laws.{AreGood}
use Rattle.schedule_model.proofs.Entries.{acts-of_plans}
use Rattle.schedule_model.proofs.Members.{among-from_contains}
use Rattle.schedule_model.proofs.Walks.{walk-from_leads}
use Rattle.machine_model.specs.Moment.{Lost, Moment}
use Rattle.machine_model.specs.Pieces.{hands, is_try_of}
use Rattle.machine_model.specs.State.{block_of, holdings, pending_of}
use Rattle.machine_model.specs.Advance.{advance_all}
use Rattle.machine_model.specs.Calls.{answer_next, next_is}
use Rattle.machine_model.specs.CallLaws.{IsStuck}
use Rattle.machine_model.specs.Laws.{AllHaveBegun, next_in_restart, pieces_for}
use Rattle.machine_model.specs.Replies.{all_victims, stuck}
use Rattle.machine_model.proofs.CallsKept.{victims-kept}
use Rattle.machine_model.proofs.Clear.{undos_wait_by_a5}
use Rattle.machine_model.proofs.Counting.{count, count-map}
use Rattle.machine_model.proofs.FreeEnds.{end_unblocked}
use Rattle.machine_model.proofs.Going.{NoneExhausted, nobody_stuck, says_stuck, stuck_exhausted, victims_none}
use Rattle.machine_model.proofs.HandsBound.{hands_within}
use Rattle.machine_model.proofs.HandsSum.{process_bound}
use Rattle.machine_model.proofs.HandSums.{by_process}
use Rattle.machine_model.proofs.LastPending.{last_free}
use Rattle.machine_model.proofs.NextInOrder.{next_keeps}
use Rattle.machine_model.proofs.NoCircle.{path_from_walk}
use Rattle.machine_model.proofs.OneOut.{is_of}
use Rattle.machine_model.proofs.OwedSteps.{owed_unblocked}
use Rattle.machine_model.proofs.Restart.{follows_completion}
use Rattle.machine_model.proofs.RestartFree.{turn_free}
use Rattle.machine_model.proofs.RunInduction.{goes_on-keeps}
use Rattle.machine_model.proofs.SessionCalls.{starts-still, victims_start}
use Rattle.machine_model.proofs.Stuck.{stuck-if}
use Rattle.machine_model.proofs.Sums.{sum-most}
use Rattle.resume_model.specs.MomentLaws.{MomentLawsHold}
use Rattle.resume_model.specs.Resumed.{now_of}
use Rattle.resume_model.proofs.Standing.{Stands, advance-stands, now-stands}

module _ (table : ConflictRelation) (symmetric : IsSymmetric table) (plans : List Plan) (good : AreGood plans) where
  abbrev cs : List Course
  cs = courses_of plans

  module _ (m : Moment) (facts : Stands table symmetric plans good m) where
    circle_free : (i : ℕ) → reaches table (holdings cs m) i i ≡ false
    circle_free i = by_test (reaches table (holdings cs m) i i) refl
      where
        by_test : (t : Bool) → reaches table (holdings cs m) i i ≡ t → reaches table (holdings cs m) i i ≡ false
        by_test false is = is
        by_test true is =
            absurd (facts.legal.circle.none i (path_from_walk table cs m facts.within.own.active i i (walk-from_leads (arrow table (holdings cs m)) (holders (holdings cs m)) i i is)))

    turn : length plans ≡ length (starts m.events) → AllHaveBegun m → (i : ℕ) → next_in_restart cs m ≡ Some i → block_of table cs m i ≡ None
    turn one_each = turn_free table symmetric plans good m facts.closed.fixed.reserved one_each facts.legal.legal

    -- no more pieces of a process than it can take
    its_hands : (i : ℕ) → count (is_of i) (hands m.kept) ≤ pieces_for cs i
    its_hands i =
        process_bound cs i (hands m.kept) (map (λ (l : Lost). l.piece) m.lost)
        (λ b w. let few = hands_within table plans good m facts.hands i b w in let l = count-map (is_try_of i b w) (λ (x : Lost). x.piece) m.lost in omega arith)
        facts.pieces.belong (let one = facts.lost.one i in let l = count-map (is_of i) (λ (x : Lost). x.piece) m.lost in omega arith)

    all_hands : length (hands m.kept) ≤ sum_by (pieces_for cs) (starts m.events)
    all_hands =
        let all = by_process (hands m.kept) (starts m.events) facts.pieces.started in
        let each = sum-most (λ i. count (is_of i) (hands m.kept)) (pieces_for cs) (starts m.events) (λ i among. its_hands i) in
        omega arith

  -- where all have begun after the victims of a request, whoever comes next is free
  turn_later : (m : Moment) → Stands table symmetric plans good m → length plans ≡ length (starts m.events) → AllHaveBegun (advance_all table cs m (all_victims table cs m)) → (i : ℕ)
      → next_in_restart cs (advance_all table cs m (all_victims table cs m)) ≡ Some i → block_of table cs (advance_all table cs m (all_victims table cs m)) i ≡ None
  turn_later m facts one_each =
      let vs = all_victims table cs m in
      let facts' = goes_on-keeps table cs (Stands table symmetric plans good) (advance-stands table symmetric plans good) m vs (victims-kept table cs (length (active m.events)) m) facts in
      let same = starts-still table cs m vs (victims_start table cs (length (active m.events)) m) in
      turn (advance_all table cs m vs) facts' (one_each ∙ sym (ap length same))

  -- a request for any piece is answered that one is stuck only where one is exhausted
  goes : (m : Moment) → Stands table symmetric plans good m → length plans ≡ length (starts m.events) → NoneExhausted cs m → (served k : ℕ) → (answer_next table cs m served).reply ≡ next_is (stuck k) → ⊥
  goes m facts one_each none served k answered =
      nobody_stuck table cs (advance_all table cs m (all_victims table cs m)) (victims_none table plans good (length (active m.events)) m facts.hands.counts none)
      (turn_later m facts one_each) k (says_stuck table cs m served k answered)

  exact : (m : Moment) → Stands table symmetric plans good m → length plans ≡ length (starts m.events) → (served i : ℕ)
      → ((answer_next table cs m served).reply ≡ next_is (stuck i)) ↔ IsStuck table cs (advance_all table cs m (all_victims table cs m)) i
  exact m facts one_each served i = (
    λ is. stuck_exhausted table cs (advance_all table cs m (all_victims table cs m)) (turn_later m facts one_each) i (says_stuck table cs m served i is),
    λ is. ap next_is (stuck-if table cs (advance_all table cs m (all_victims table cs m)) served i is),
  )

pub moment_laws_hold : MomentLawsHold
moment_laws_hold table plans s session =
    let m = now_of table s in
    let c = courses_of plans in
    let good = session.good in
    let symmetric = session.symmetric in
    let facts = now-stands table plans s session in
    record {
      legal = facts.legal.legal;
      within = facts.within.within;
      next_keeps = λ i active'. next_keeps plans good m facts.within.own.legal i (facts.within.own.ahead i) active';
      no_circle = circle_free table symmetric plans good m facts;
      undo_by_rule = undos_wait_by_a5 table c m;
      owed_is_free = owed_unblocked table symmetric plans good m facts.closed.fixed.reserved;
      end_is_free = end_unblocked table symmetric plans good m facts.closed.fixed;
      pending_is_closed = λ x e active' pend back conflicts.
          facts.closed.closed (inl refl) x e active' (among-from_contains x (pending_of c m x.process) pend) (among-from_contains e (behind x (net m.events)) back) conflicts;
      last_pending_is_free = last_free table plans m facts.within.own.legal (acts-of_plans table c m.events facts.legal.legal) (facts.closed.closed (inl refl));
      follows_completion = follows_completion c m (acts-of_plans table c m.events facts.legal.legal);
      turn_is_free = turn table symmetric plans good m facts session.one_each;
      stuck_is_exact = exact table symmetric plans good m facts session.one_each;
      goes_on = goes table symmetric plans good m facts session.one_each;
      few_hands = all_hands table symmetric plans good m facts;
    }
