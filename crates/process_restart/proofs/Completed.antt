-- What comes next where all complete leaves the completed history the same.
use Rattle.std.proofs.Common.{◌≡◌, ◌∙◌, ℕ, List, [], ◌∷◌, ◌++◌, Some, ap, sym, append-nil, append_assoc}
use Rattle.schedule_model.specs.declared.event.Event.{Event}
use Rattle.schedule_model.specs.Completion.{completed}
use Rattle.schedule_model.specs.Histories.{active}
use Rattle.schedule_model.proofs.Active.{completion-none}
use Rattle.schedule_model.proofs.CompletionLaws.{completion-stable}
use Rattle.machine_model.specs.Advance.{event_by}
use Rattle.machine_model.specs.Laws.{AllHaveBegun, next_in_restart}
use Rattle.machine_model.specs.State.{next_of}
use Rattle.machine_model.proofs.OwnOrderLaws.{runs_keep_own_order}
use Rattle.machine_model.proofs.Restart.{restart_follows_completion}
use Rattle.process_core.specs.Cores.{CoreState, IsCore, courses_in, history_of, machine_of, moment_of, relation}

module _ (c : CoreState) (core : IsCore c) (begun : AllHaveBegun (moment_of c)) (i : ℕ) (turn : next_in_restart (courses_in c) (moment_of c) ≡ Some i) where
  -- the event of the piece of the process whose turn it is
  abbrev pub next_event : Event
  next_event = let t = next_of (courses_in c) (moment_of c) i in event_by (courses_in c) i t.step t.work

  -- It comes next in the completion,
  pub comes_next : (rest : List Event) × (completed (courses_in c) (history_of c) ≡ history_of c ++ next_event ∷ rest)
  comes_next = let next = restart_follows_completion (relation c) c.plans (machine_of c) core.session begun i turn in (next.0, ap (λ es. history_of c ++ es) next.1)

  -- and with it the history is completed to the same.
  pub same_completed : completed (courses_in c) (history_of c ++ next_event ∷ []) ≡ completed (courses_in c) (history_of c)
  same_completed = completion-stable c.plans (history_of c) (next_event ∷ []) comes_next.0 core.session.good (runs_keep_own_order (relation c) c.plans (machine_of c) core.session) (comes_next.1 ∙ sym (append_assoc (history_of c) (next_event ∷ []) comes_next.0))

-- Where nobody is active the history is completed.
pub nothing_adds : (c : CoreState) → active (history_of c) ≡ [] → history_of c ≡ completed (courses_in c) (history_of c)
nothing_adds c none = sym (append-nil (history_of c)) ∙ ap (λ es. history_of c ++ es) (sym (completion-none (courses_in c) (history_of c) none))
