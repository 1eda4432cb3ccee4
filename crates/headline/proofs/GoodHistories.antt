-- A history that a journal may have.
use Rattle.std.proofs.Common.{◌≡◌, ◌∙◌, [], ◌++◌, ap, subst, append-nil}
use Rattle.process_tree.specs.Conflicts.{do_conflict}
use Rattle.schedule_model.specs.declared.history.History.{History}
use Rattle.schedule_model.specs.Completion.{completed}
use Rattle.schedule_model.specs.Course.{courses_of}
use Rattle.schedule_model.specs.Histories.{active}
use Rattle.schedule_model.specs.Laws.{AllAtEnds, IsGood}
use Rattle.schedule_model.proofs.Active.{completion-none}
use Rattle.schedule_model.proofs.StandingLaws.{completion-law}
use Rattle.machine_model.proofs.RunsWithin.{runs_are_legal}
use Rattle.process_core.specs.Cores.{CoreState, IsCore, history_of}
use Rattle.commute_table.specs.declared.catalog.Catalog.{Catalog}
use Rattle.process_journal.specs.Journals.{IsHistoryUnder}
use Rattle.process_journal.specs.Laws.{beginning}
use Rattle.engine_steps.proofs.OpenedEngine.{core_of_history}
use Rattle.engine_calls.proofs.Beginnings.{continues_none, is_beginning}

-- It is good
pub good_history : (c : Catalog) (h : History) → IsHistoryUnder c h → IsGood (do_conflict c.conflicts) h.plans h.events
good_history c h under =
    let core = core_of_history c h under in
    record { symmetric = core.session.symmetric; good = core.session.good; one_each = core.session.one_each; legal = core.session.legal }

-- and is its own beginning
pub whole_beginning : (c : Catalog) (h : History) → IsHistoryUnder c h → h ≡ beginning h h.events
whole_beginning c h under = is_beginning h h under.one_each (continues_none h)

-- That of a machine is good,
pub good_machine : (now : CoreState) → IsCore now → IsGood (do_conflict now.conflicts) now.plans (history_of now)
good_machine now core = record {
  symmetric = core.session.symmetric;
  good = core.session.good;
  one_each = core.session.one_each;
  legal = (runs_are_legal (do_conflict now.conflicts) now.plans _ core.session).0;
}

-- and where nobody is active in it, each process is at an end.
pub machine_at_ends : (now : CoreState) → IsCore now → active (history_of now) ≡ [] → AllAtEnds (courses_of now.plans) (history_of now)
machine_at_ends now core none =
    let same : completed (courses_of now.plans) (history_of now) ≡ history_of now =
    ap (λ es. history_of now ++ es) (completion-none (courses_of now.plans) (history_of now) none) ∙ append-nil (history_of now) in
    let law = completion-law (do_conflict now.conflicts) now.plans (history_of now) (good_machine now core) in
    subst (AllAtEnds (courses_of now.plans)) same law.2
