-- What is queued, and which of it may take effect together.
use Rattle.std.proofs.Common.{◌==◌, ◌≡◌, ◌≢◌, ◌∙◌, ℕ, Bool, true, false, cond, List, [], ◌∷◌, length, Option, refl, sym, ap, arith}
use Rattle.std.proofs.lemmas.Bool.{false≢true}
use Rattle.process_tree.specs.Order.{Each}
use Rattle.process_tree.proofs.Every.{Each-both, Each-weaker}
use Rattle.schedule_model.specs.Course.{Course}
use Rattle.schedule_model.specs.declared.event.Event.{Event}
use Rattle.machine_model.specs.declared.replies.PieceState.TheVariants.{Out}
use Rattle.machine_model.specs.Moment.{Piece}
use Rattle.machine_model.specs.Pieces.{dropped_at, dropped_or_over, runs}
use Rattle.machine_model.specs.Replies.{Handed}
use Rattle.process_core.specs.Cores.{CoreState, IsCore, courses_in, moment_of}
use Rattle.engine_steps.specs.Engines.{EngineState, full_history}
use Rattle.engine_steps.specs.Groups.{with_events}
use Rattle.process_engine.specs.Pieces.{AreDistinct, FitsItsBytes, IsOut, after_all, events_of, numbers_of}
use Rattle.process_engine.specs.Queues.{AreQueued, HasRoomFor, IsGroup, IsUnfinished, is_step_on, pieces_of, running_of}
use Rattle.process_engine.proofs.GroupCores.{group_taken}
use Rattle.process_engine.proofs.Running.{each_of_some, each_passes, some_distinct, some_fewer_pass}

-- what runs is out
runs_out : (m : Bool) (d : Option ℕ) → m ≡ true → cond m Out (dropped_or_over d) ≡ Out
runs_out m d is = ap (λ b. cond b Out (dropped_or_over d)) is

module _ (core : CoreState) (group : List Handed) (unfinished : Each (IsUnfinished core) (pieces_of group)) (distinct : AreDistinct (numbers_of (pieces_of group))) where
  -- those that run are out
  pub all_out : Each (IsOut core) (running_of core group)
  all_out =
      Each-weaker (λ p. IsUnfinished core p × (runs (moment_of core) p.number ≡ true)) (IsOut core)
      (λ p both. record { handed = both.0.handed; out = runs_out (runs (moment_of core) p.number) (dropped_at (moment_of core) p.number) both.1 })
      (running_of core group)
      (Each-both (IsUnfinished core) (λ p. runs (moment_of core) p.number ≡ true) (running_of core group)
      (each_of_some (IsUnfinished core) (λ p. runs (moment_of core) p.number) (pieces_of group) unfinished)
      (each_passes (λ p. runs (moment_of core) p.number) (pieces_of group)))

  -- once they are kept the history has their events
  pub history_kept : IsCore core → (new : CoreState) → new ≡ after_all core (running_of core group)
      → full_history new ≡ with_events (full_history core) (events_of (courses_in core) (running_of core group))
  history_kept is new same = ap full_history same ∙ (group_taken core is (running_of core group) all_out (some_distinct (λ p. runs (moment_of core) p.number) (pieces_of group) distinct)).history

-- the pieces that run may take effect together
pub may_together : {R B : Type 0} (e : EngineState R B) (group : List Handed) → AreQueued e group → Each FitsItsBytes (pieces_of group) → running_of e.core group ≢ [] → IsGroup e (running_of e.core group)
may_together e group queued fits some =
    let test = λ (p : Piece). runs (moment_of e.core) p.number in
    record {
      out = all_out e.core group queued.unfinished queued.distinct;
      distinct = some_distinct test (pieces_of group) queued.distinct;
      fits = each_of_some FitsItsBytes test (pieces_of group) fits;
      room = each_of_some (HasRoomFor e) test (pieces_of group) queued.room;
      some = some;
      places = λ q s at. let fewer = some_fewer_pass test (is_step_on e.catalog.ops e.core.plans q) (pieces_of group) in let places = queued.places q s at in omega (arith, fewer, places);
    }

-- no event is listed where none runs
pub some_run : (courses : List Course) (ps : List Piece) (events : List Event) → events ≡ events_of courses ps → events ≢ [] → ps ≢ []
some_run courses [] events is some none = some is
some_run courses (p ∷ ps) events is some none = cc

pub none_run : (courses : List Course) (ps : List Piece) (events : List Event) → events ≡ events_of courses ps → events ≡ [] → ps ≡ []
none_run courses [] events is none = refl
none_run courses (p ∷ ps) events is none = cc

-- a list that isn't found empty isn't
pub found_some : (events : List Event) (b : Bool) → b ≡ (length events == 0) → b ≡ false → events ≢ []
found_some [] b is none = absurd (false≢true (sym none ∙ is))
found_some (e ∷ events) b is none = λ same. cc
