-- A journal may have the history with the events of a group, one after another.
use Rattle.std.proofs.Common.{◌≡◌, List, [], ◌∷◌, map, refl, subst}
use Rattle.process_tree.specs.Order.{Each}
use Rattle.process_tree.specs.declared.play.Outcome.TheVariants.{Done}
use Rattle.commute_table.specs.declared.catalog.Catalog.{Catalog}
use Rattle.machine_model.specs.Calls.{finish}
use Rattle.machine_model.specs.Moment.{Piece}
use Rattle.process_core.specs.Answers.{after_call}
use Rattle.core_state.specs.Cores.{CoreState, IsCore, courses_in}
use Rattle.process_journal.specs.Journals.{AreMadeBy}
use Rattle.process_journal.specs.Laws.{RecordsMakeHistories}
use Rattle.engine_steps.specs.Engines.{IsUnder, full_history}
use Rattle.engine_steps.specs.Groups.{record_for, with_events}
use Rattle.engine_steps.specs.Pieces.{history_with}
use Rattle.engine_steps.proofs.KeptEffects.{core_under, piece_made, piece_under}
use Rattle.engine_steps.proofs.NextHistory.{history_is}
use Rattle.history_files.specs.NextGroups.{GoesOnBy}
use Rattle.process_engine.specs.Pieces.{AreDistinct, FitsItsBytes, IsOut, after_all, events_of, numbers_of}
use Rattle.process_engine.proofs.GroupCores.{all_out, apart_from, next_core}

module _ (law : RecordsMakeHistories) (c : Catalog) where
  -- The core is under the catalog once the pieces have taken effect; a journal may have the history with each of their events, one after another, and the records of these make it.
  pub record GroupUnder (core : CoreState) (ps : List Piece) : Type 0 where
    pub under : IsUnder c (after_all core ps)
    pub goes : GoesOnBy c (full_history core) (events_of (courses_in core) ps)
    pub made : AreMadeBy c (map record_for (events_of (courses_in core) ps)) (full_history core) (with_events (full_history core) (events_of (courses_in core) ps))

  pub group_under : (core : CoreState) → IsCore core → IsUnder c core → (ps : List Piece) → Each (IsOut core) ps → AreDistinct (numbers_of ps) → Each FitsItsBytes ps → GroupUnder core ps
  group_under core is under [] outs distinct fits = record { under = under; goes = tt; made = refl }
  group_under core is under (p ∷ ps) outs distinct fits =
      let next : CoreState = after_call core (finish p.number Done) in
      let may = piece_under law c core is under p outs.0.handed outs.0.out fits.0 in
      let same : full_history next ≡ history_with core p = history_is core is p outs.0.handed outs.0.out in
      let rest = group_under next (next_core core is p outs.0) (core_under law c core is under p outs.0.handed outs.0.out fits.0 next refl) ps
      (all_out core is p outs.0 ps (apart_from p.number ps distinct.0) outs.1) distinct.1 fits.1 in
      record {
        under = rest.under;
        goes = (may, subst (λ h. GoesOnBy c h (events_of (courses_in core) ps)) same rest.goes);
        made = (
          history_with core p,
          piece_made law c core is under p outs.0.handed outs.0.out fits.0,
          may,
          subst (λ h. AreMadeBy c (map record_for (events_of (courses_in core) ps)) h (with_events h (events_of (courses_in core) ps))) same rest.made,
        );
      }
