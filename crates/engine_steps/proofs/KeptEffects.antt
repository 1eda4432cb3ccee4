-- A piece of any kind that takes effect: the record of its event, and the history with it.
use Rattle.std.proofs.Common.{◌≡◌, ◌∙◌, ◌<◌, ◌^◌, ℕ, List, refl, sym, ap, subst}
use Rattle.process_tree.specs.declared.plan.Plan.{Plan}
use Rattle.process_tree.specs.declared.play.Outcome.TheVariants.{Done}
use Rattle.schedule_model.specs.Course.{courses_of}
use Rattle.schedule_model.specs.declared.history.History.{History}
use Rattle.commute_table.specs.declared.catalog.Catalog.{Catalog}
use Rattle.journal_records.specs.Laws.{FitsItsBytes}
use Rattle.machine_model.specs.declared.kept.Work.{Work}
use Rattle.machine_model.specs.declared.kept.Work.TheVariants.{Forward, Undo, End}
use Rattle.machine_model.specs.declared.replies.PieceState.TheVariants.{Out}
use Rattle.machine_model.specs.Advance.{event_by, event_of}
use Rattle.machine_model.specs.Calls.{finish}
use Rattle.machine_model.specs.Moment.{Piece}
use Rattle.machine_model.specs.Pieces.{state_of}
use Rattle.process_core.specs.Answers.{after_call}
use Rattle.process_core.specs.Cores.{CoreState, IsCore, IsHandedBy, courses_in, moment_of}
use Rattle.process_journal.specs.Bodies.{with_event}
use Rattle.process_journal.specs.Journals.{IsHistoryUnder, IsMadeBy}
use Rattle.process_journal.specs.Laws.{RecordsMakeHistories}
use Rattle.engine_steps.specs.Engines.{IsUnder, full_history}
use Rattle.engine_steps.specs.Groups.{record_for}
use Rattle.engine_steps.specs.Pieces.{history_with}
use Rattle.engine_steps.proofs.NextHistory.{history_is, next_allowed}

-- the record of a piece's event makes the history with it,
made_by : (c : Catalog) (plans : List Plan) (h : History) (i b : ℕ) (w : Work) → IsMadeBy c (record_for (event_by (courses_of plans) i b w)) h (with_event h (event_by (courses_of plans) i b w))
made_by c plans h i b Forward = refl
made_by c plans h i b Undo = refl
made_by c plans h i b End = refl

fits_by : (plans : List Plan) (i b : ℕ) (w : Work) → (i < 2 ^ 32) × (b < 2 ^ 16) → FitsItsBytes (record_for (event_by (courses_of plans) i b w))
fits_by plans i b Forward fits = fits
fits_by plans i b Undo fits = fits
fits_by plans i b End fits = fits.0

module _ (law : RecordsMakeHistories) (c : Catalog) (core : CoreState) (is : IsCore core) (under : IsUnder c core) (p : Piece) (handed : IsHandedBy core p)
    (out : state_of (moment_of core) p.number ≡ Out) (fits : (p.process < 2 ^ 32) × (p.step < 2 ^ 16)) where
  pub piece_made : IsMadeBy c (record_for (event_of (courses_in core) p)) (full_history core) (history_with core p)
  piece_made = made_by c core.plans (full_history core) p.process p.step p.work

  -- a journal may have that history,
  pub piece_under : IsHistoryUnder c (history_with core p)
  piece_under = law c (record_for (event_of (courses_in core) p)) (full_history core) (history_with core p) under.history piece_made (fits_by core.plans p.process p.step p.work fits) (next_allowed core is p handed out c under.table)

  -- and the core is under the catalog once it has kept the effect
  pub core_under : (new : CoreState) → new ≡ after_call core (finish p.number Done) → IsUnder c new
  core_under new after = record {
    table = ap (λ (x : CoreState). x.conflicts) after ∙ under.table;
    history = subst (IsHistoryUnder c) (sym (ap full_history after ∙ history_is core is p handed out)) piece_under;
  }
