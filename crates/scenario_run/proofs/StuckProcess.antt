-- A process that is stuck has no try left, and a request for its piece says so.
use Rattle.std.proofs.Common.{◌≡◌, ◌∙◌, ℕ, true, eqb, List, ◌++◌, filter, find, None, ap, sym, append-nil}
use Rattle.std.proofs.lemmas.Bool.{and_parts}
use Rattle.process_tree.proofs.Numbers.{least_is}
use Rattle.schedule_model.specs.Course.{Course}
use Rattle.schedule_model.specs.Histories.{active, is_active, is_in}
use Rattle.schedule_model.proofs.Active.{is_active-is_in, is_in-filter}
use Rattle.machine_model.specs.Calls.{admit, admit_kept, admitted}
use Rattle.machine_model.specs.CallLaws.{IsStuck}
use Rattle.machine_model.specs.Moment.{Moment, Piece}
use Rattle.machine_model.specs.Replies.{exhausted}
use Rattle.machine_model.specs.State.{is_exhausted}
use Rattle.process_core.specs.Answers.{after_call, answer_in}
use Rattle.process_core.specs.Cores.{CoreState, courses_in, moment_of, relation}
use Rattle.process_core.specs.Handing.{admit_reply_of}
use Rattle.process_core.specs.declared.replies.Admit.{Admit as Reply'}
use Rattle.process_core.specs.declared.replies.Admit.TheVariants.{Piece as IsPiece, Blocked as IsBlocked, Running as IsRunning, Unknown as IsUnknown, Ended as IsEnded, Exhausted as IsExhausted}
use Rattle.process_core.proofs.SeatReplies.{reply_parts, started_if}
use Rattle.scenario_run.specs.Reports.{step_due}

module _ (core : CoreState) (i : ℕ) (stays : IsStuck (relation core) (courses_in core) (moment_of core) i) where
  abbrev m : Moment
  m = moment_of core

  abbrev cs : List Course
  cs = courses_in core

  -- it is active, and it has no try left
  pub spent : (is_active m.events i ≡ true) × (is_exhausted cs m i ≡ true)
  spent =
      let listed = (least_is (filter (is_exhausted cs m) (active m.events)) i stays.is_least).0 in
      let both = and_parts (is_in i (active m.events)) (is_exhausted cs m i) (sym (is_in-filter (is_exhausted cs m) i (active m.events)) ∙ listed) in
      (sym (is_active-is_in m.events i) ∙ both.0, both.1)

  nothing_runs : find (λ (p : Piece). eqb p.process i) m.out ≡ None
  nothing_runs = ap (λ (ps : List Piece). find (λ (p : Piece). eqb p.process i) ps) stays.nothing_runs

  -- It is replied that the tries of its next step are used up,
  pub stuck_admits : (answer_in core (admit i)).reply ≡ admitted (exhausted (step_due core i))
  stuck_admits = ap admitted (reply_parts cs m i (relation core) (started_if m.events i spent.0) true None true spent.0 nothing_runs spent.1)

  -- and nothing is kept.
  pub admits_nothing : after_call core (admit i) ≡ core
  admits_nothing =
      ap (λ (ks : List _). record { conflicts = core.conflicts; plans = core.plans; opening = core.opening; kept = core.kept ++ ks; served = core.served })
      (ap admit_kept (reply_parts cs m i (relation core) (started_if m.events i spent.0) true None true spent.0 nothing_runs spent.1))
      ∙ ap (λ ks. record { conflicts = core.conflicts; plans = core.plans; opening = core.opening; kept = ks; served = core.served }) (append-nil core.kept)

-- a reply that says so says it of this step
pub exhausted_is : (reply : Reply') (b : ℕ) → admitted (admit_reply_of reply) ≡ admitted (exhausted b) → reply ≡ IsExhausted b
exhausted_is (IsPiece d) b is = absurd cc
exhausted_is (IsBlocked x) b is = absurd cc
exhausted_is IsRunning b is = absurd cc
exhausted_is IsUnknown b is = absurd cc
exhausted_is IsEnded b is = absurd cc
exhausted_is (IsExhausted n) b is = let same : n ≡ b = cc in ap IsExhausted same
