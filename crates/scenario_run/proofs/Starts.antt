-- Processes that start in a core, one after another.
use Rattle.std.proofs.Common.{◌≡◌, ◌∙◌, ℕ, ◌+◌, List, [], ◌∷◌, ◌++◌, length, None, ap, sym, arith, append_assoc, append-nil, length-append}
use Rattle.process_tree.specs.declared.plan.Plan.{Plan}
use Rattle.schedule_model.specs.Course.{course_of}
use Rattle.schedule_model.specs.Histories.{starts}
use Rattle.machine_model.specs.declared.kept.Kept.TheVariants.{Start}
use Rattle.machine_model.specs.Calls.{Answer, start, start_unless}
use Rattle.process_core.specs.Answers.{after_start, answer_in}
use Rattle.process_core.specs.Cores.{CoreState, IsCore, history_of}
use Rattle.engine_steps.specs.Beginning.{IsFree}
use Rattle.scenario_run.specs.Starting.{starts_from, with_started}

-- one more start is the last
starts_from-push : (n : ℕ) (ps : List Plan) (p : Plan) → starts_from n (ps ++ p ∷ []) ≡ starts_from n ps ++ Start (n + length ps) ∷ []
starts_from-push n [] p = ap (λ k. Start k ∷ []) (omega arith)
starts_from-push n (q ∷ ps) p = ap (λ ks. Start n ∷ ks) (starts_from-push (n + 1) ps p ∙ ap (λ k. starts_from (n + 1) ps ++ Start k ∷ []) (omega arith))

-- none started
pub none_started : (core : CoreState) → with_started core [] ≡ core
none_started core = ap (λ ps. record { conflicts = core.conflicts; plans = ps; opening = core.opening; kept = core.kept ++ []; served = core.served }) (append-nil core.plans)
    ∙ ap (λ ks. record { conflicts = core.conflicts; plans = core.plans; opening = core.opening; kept = ks; served = core.served }) (append-nil core.kept)

module _ (mid : CoreState) (is : IsCore mid) (p : Plan) (free : IsFree mid p) where
  abbrev next_start : Answer
  next_start = start_unless (length mid.plans + 1) mid.served (course_of p) None

  answer_is : answer_in mid (start (course_of p)) ≡ next_start
  answer_is =
      ap (λ o. start_unless (length (starts (history_of mid)) + 1) mid.served (course_of p) o) free
      ∙ ap (λ n. start_unless (n + 1) mid.served (course_of p) None) (sym is.session.one_each)

  started_next : after_start mid p ≡ with_started mid (p ∷ [])
  started_next = ap (λ (a : Answer). record { conflicts = mid.conflicts; plans = mid.plans ++ p ∷ []; opening = mid.opening; kept = mid.kept ++ a.kept; served = a.served }) answer_is

  -- and one more
  pub one_more_started : (old : CoreState) (done : List Plan) → mid ≡ with_started old done → after_start mid p ≡ with_started old (done ++ p ∷ [])
  one_more_started old done before =
      started_next
      ∙ (ap (λ (core : CoreState). with_started core (p ∷ [])) before
      ∙ (ap (λ ps. record { conflicts = old.conflicts; plans = ps; opening = old.opening; kept = (old.kept ++ starts_from (length old.plans + 1) done) ++ Start (length (old.plans ++ done) + 1) ∷ []; served = old.served })
      (append_assoc old.plans done (p ∷ []))
      ∙ ap (λ ks. record { conflicts = old.conflicts; plans = old.plans ++ (done ++ p ∷ []); opening = old.opening; kept = ks; served = old.served })
      (append_assoc old.kept (starts_from (length old.plans + 1) done) (Start (length (old.plans ++ done) + 1) ∷ [])
      ∙ ap (λ ks. old.kept ++ ks)
      (ap (λ n. starts_from (length old.plans + 1) done ++ Start n ∷ []) (let count = length-append old.plans done in omega arith) ∙ sym (starts_from-push (length old.plans + 1) done p)))))
