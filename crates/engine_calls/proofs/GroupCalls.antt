-- What the calls of groups make of a settled engine: it goes on.
use Rattle.std.proofs.Common.{◌≡◌, ◌≢◌, ◌∙◌, ◌≤◌, List, [], ◌∷◌, ◌++◌, inl, inr, ⊎_elim, refl, ap, subst, sym, append-nil, append_assoc}
use Rattle.process_disk.specs.declared.rack.Rack.{Ghosts as Racks}
use Rattle.process_disk.specs.Disk.{FileSet, Told}
use Rattle.process_disk.specs.Images.{EachImage, ImagesFollow}
use Rattle.process_disk.proofs.Images.{still_told}
use Rattle.process_tree.specs.declared.plan.Plan.{Plan}
use Rattle.process_tree.specs.declared.play.Outcome.TheVariants.{Done as Succeeds, Refused as Fails}
use Rattle.schedule_model.specs.declared.event.Event.{Event}
use Rattle.schedule_model.specs.declared.history.History.{History}
use Rattle.machine_model.specs.declared.kept.Kept.{Kept}
use Rattle.machine_model.specs.Calls.{finish}
use Rattle.machine_model.specs.Moment.{Piece}
use Rattle.machine_model.specs.Pieces.{runs}
use Rattle.machine_model.specs.Replies.{Handed}
use Rattle.process_core.specs.Answers.{after_call, answer_in}
use Rattle.process_core.specs.Cores.{CoreState, IsCore, courses_in, history_of, moment_of}
use Rattle.process_journal.specs.Bodies.{with_event}
use Rattle.process_journal.specs.Laws.{beginning}
use Rattle.history_files.specs.Sound.{IsSound, IsSoundForEither}
use Rattle.engine_steps.specs.Engines.{EngineState, full_history}
use Rattle.engine_steps.specs.Groups.{with_events}
use Rattle.engine_steps.specs.Rooms.{MakesRoomFor}
use Rattle.engine_steps.specs.declared.engines.Phase.TheVariants as phase
use Rattle.engine_steps.proofs.SameHistory.{refused_same}
use Rattle.process_engine.specs.declared.gates.Answer.{Answer}
use Rattle.process_engine.specs.Flushing.{Flushes, history_with_group}
use Rattle.process_engine.specs.Pieces.{after_all, events_of}
use Rattle.process_engine.specs.Queueing.{IsRefusedIn, Queues}
use Rattle.process_engine.specs.Queues.{AreQueued, pieces_of, running_of}
use Rattle.process_engine.specs.declared.group.Flush.{Flush}
use Rattle.process_engine.specs.declared.group.Flush.TheVariants as flushes
use Rattle.process_engine.specs.declared.group.Flush.TheVariants.{Flushed, DiskFault}
use Rattle.process_engine.specs.declared.replies.Queue.{Queue}
use Rattle.process_engine.specs.declared.replies.Queue.TheVariants.{Queued, Full, Retry, Failed, Over, Dropped, Exhausted, NoMemory, Closed}
use Rattle.process_engine.proofs.GroupKept.{all_out}
use Rattle.process_engine.proofs.Running.{some_distinct}
use Rattle.engine_calls.specs.Acknowledged.{AreOut}
use Rattle.engine_calls.specs.Runs.{GoesOn}
use Rattle.engine_calls.proofs.Ends.{called_goes, events_goes, fault_goes, still_goes}
use Rattle.engine_calls.proofs.Goes.{goes_none, sound_now}

-- a history with more events has these behind its own, and its plans
pub events_with : (h : History) (es : List Event) → (with_events h es).events ≡ h.events ++ es
events_with h [] = sym (append-nil h.events)
events_with h (e ∷ es) = events_with (with_event h e) es ∙ append_assoc h.events (e ∷ []) es

pub plans_with : (h : History) (es : List Event) → (with_events h es).plans ≡ h.plans
plans_with h [] = refl
plans_with h (e ∷ es) = plans_with (with_event h e) es

-- what a core has kept once pieces have taken effect one after another
record KeepsAll (old new : CoreState) : Type 0 where
  pub conflicts : new.conflicts ≡ old.conflicts
  pub opening : new.opening ≡ old.opening
  pub added : List Kept
  pub kept : new.kept ≡ old.kept ++ added

keeps_all : (core : CoreState) (ps : List Piece) → KeepsAll core (after_all core ps)
keeps_all core [] = record { conflicts = refl; opening = refl; added = []; kept = sym (append-nil core.kept) }
keeps_all core (p ∷ ps) =
    let call = finish p.number Succeeds in
    let rest = keeps_all (after_call core call) ps in
    record {
      conflicts = rest.conflicts;
      opening = rest.opening;
      added = (answer_in core call).kept ++ rest.added;
      kept = rest.kept ∙ append_assoc core.kept (answer_in core call).kept rest.added;
    }

module _ {R B : Type 0} (racks : Racks R) (may_start : List Plan) (old new : EngineState R B) (core : IsCore old.core)
    (each : Told (racks.disk old.files.rack) → EachImage (racks.disk old.files.rack) (racks.disk old.files.rack).moment (IsSound old.catalog (full_history old.core))) where
  room_goes : (p : Handed) → MakesRoomFor old new p.piece → GoesOn racks may_start old new
  room_goes p room = still_goes racks may_start old new core each old.core [] room.core refl refl (sym (append-nil old.core.kept)) refl room.catalog room.rack

  none_goes : new ≡ old → GoesOn racks may_start old new
  none_goes same = subst (λ e. GoesOn racks may_start old e) (sym same) (goes_none racks may_start old core each)

  refused_goes : (p : Handed) → IsRefusedIn old new p → GoesOn racks may_start old new
  refused_goes p is = called_goes racks may_start old new core each (finish p.piece.number Fails) is (refused_same old.core p.piece.number)

  -- The queueing of a piece, whatever it answers,
  pub queue_goes : (group rest : List Handed) (p : Handed) (answer : Answer) (a : Queue) → Queues old new group rest p answer a → GoesOn racks may_start old new
  queue_goes group rest p answer Queued q = ⊎_elim (room_goes p) none_goes q.left.0
  queue_goes group rest p answer (Full d) q = none_goes q.left.0
  queue_goes group rest p answer (Retry k) q = refused_goes p q.left.0
  queue_goes group rest p answer Failed q = refused_goes p q.left.0
  queue_goes group rest p answer Over q = none_goes q.left.0
  queue_goes group rest p answer (Dropped k) q = none_goes q.left.0
  queue_goes group rest p answer Exhausted q = refused_goes p q.left.0
  queue_goes group rest p answer (NoMemory d) q = room_goes p q.left.0
  queue_goes group rest p answer (Closed n) q = absurd q.left

  -- and a flush.
  module _ (tells : (racks.disk new.files.rack).tells ≡ (racks.disk old.files.rack).tells) (later : racks.faults old.files.rack ≤ racks.faults new.files.rack)
      (follow : Told (racks.disk old.files.rack) → ImagesFollow (racks.disk old.files.rack) (racks.disk new.files.rack)) (group rest : List Handed) (queued : AreQueued old group) where
    abbrev running : List Piece
    running = running_of old.core group

    abbrev WithoutOrWith : History → Type 0
    WithoutOrWith k = Told (racks.disk old.files.rack) → EachImage (racks.disk new.files.rack) (racks.disk old.files.rack).moment (IsSoundForEither old.catalog (full_history old.core) k)

    are_out : running ≢ [] → AreOut old.core running
    are_out some = record {
      some = some;
      out = all_out old.core group queued.unfinished queued.distinct;
      distinct = some_distinct (λ p. runs (moment_of old.core) p.number) (pieces_of group) queued.distinct;
    }

    -- Where none runs nothing came,
    none_flushed : new.core ≡ old.core → new.catalog ≡ old.catalog → WithoutOrWith (full_history old.core) → GoesOn racks may_start old new
    none_flushed same catalog either = record {
      catalog = catalog;
      conflicts = ap (λ (c : CoreState). c.conflicts) same;
      opening = ap (λ (c : CoreState). c.opening) same;
      added = [];
      kept = ap (λ (c : CoreState). c.kept) same ∙ sym (append-nil old.core.kept);
      started = [];
      plans = ap (λ (c : CoreState). c.plans) same ∙ sym (append-nil old.core.plans);
      came = [];
      events = ap history_of same ∙ sym (append-nil (history_of old.core));
      tells = tells;
      later = later;
      follow = follow;
      images = λ told. record { has = λ files left. inl (⊎_elim (sound_still files) (sound_still files) ((either told).has files left)) };
    }
      where
        sound_still : (files : FileSet) → IsSound old.catalog (full_history old.core) files → IsSound new.catalog (beginning (full_history new.core) (history_of old.core)) files
        sound_still files sound =
            subst (λ c. IsSound c (beginning (full_history new.core) (history_of old.core)) files) (sym catalog)
            (subst (λ x. IsSound old.catalog (beginning (full_history x) (history_of old.core)) files) (sym same) (sound_now old.catalog old.core core.session.one_each files sound))

    -- and where some do their events came together.
    flushed_goes : (ps : List Piece) → IsCore new.core → new.core ≡ after_all old.core ps → new.catalog ≡ old.catalog → full_history new.core ≡ with_events (full_history old.core) (events_of (courses_in old.core) ps)
        → WithoutOrWith (with_events (full_history old.core) (events_of (courses_in old.core) ps))
        → (Told (racks.disk old.files.rack) → EachImage (racks.disk new.files.rack) (racks.disk new.files.rack).moment (IsSound new.catalog (full_history new.core))) → GoesOn racks may_start old new
    flushed_goes [] now is catalog history either at_end = none_flushed is catalog either
    flushed_goes (p ∷ ps) now is catalog history either at_end =
        let events = events_of (courses_in old.core) (p ∷ ps) in
        let keeps = keeps_all old.core (p ∷ ps) in
        events_goes racks may_start old new core each tells later follow (with_events (full_history old.core) events) events [] keeps.added (λ none. cc) (events_with (full_history old.core) events)
        (plans_with (full_history old.core) events ∙ sym (append-nil old.core.plans)) now (ap (λ (c : CoreState). c.conflicts) is ∙ keeps.conflicts) (ap (λ (c : CoreState). c.opening) is ∙ keeps.opening)
        (ap (λ (c : CoreState). c.kept) is ∙ keeps.kept) catalog history either at_end

    pub flush_goes : IsCore new.core → (a : Flush) → Flushes racks.disk old new group rest a
        → (Told (racks.disk new.files.rack) → new.phase ≡ phase.Settled → EachImage (racks.disk new.files.rack) (racks.disk new.files.rack).moment (IsSound new.catalog (full_history new.core))) → GoesOn racks may_start old new
    flush_goes now (Flushed ends) flush at_end =
        flushed_goes running now flush.left.core flush.left.catalog flush.acknowledged.0 flush.any_moment (λ told. at_end (still_told (racks.disk old.files.rack) (racks.disk new.files.rack) tells told) flush.left.phase)
    flush_goes now DiskFault flush at_end =
        fault_goes racks may_start old new core each tells later follow (history_with_group old group) (inr (inr (running, are_out flush.left.some, refl))) flush.left.core flush.left.catalog flush.left.phase flush.any_moment
    flush_goes now (flushes.Closed n) flush at_end = absurd flush.left
