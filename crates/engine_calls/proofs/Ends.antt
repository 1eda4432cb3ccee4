-- What each call of a settled engine makes of it: it goes on.
use Rattle.std.proofs.Common.{◌≡◌, ◌≢◌, ◌∙◌, ◌≤◌, ◌+◌, ℕ, List, [], ◌∷◌, ◌++◌, length, Option, Some, None, inl, inr, ⊎_elim, refl, ap, subst, sym, append-nil, arith}
use Rattle.process_disk.specs.declared.rack.Rack.{Ghosts as Racks}
use Rattle.process_disk.specs.Disk.{FileSet, Told}
use Rattle.process_disk.specs.Images.{EachImage, ImagesFollow}
use Rattle.process_disk.proofs.Images.{follow_none}
use Rattle.process_tree.specs.declared.plan.Plan.{Plan}
use Rattle.resource_box.specs.declared.resource.Resource.{Ghosts as Resources}
use Rattle.process_tree.specs.declared.play.Outcome.{Outcome}
use Rattle.process_tree.specs.declared.play.Outcome.TheVariants.{Done as Succeeds, Refused as Fails}
use Rattle.schedule_model.specs.declared.event.Event.{Event}
use Rattle.schedule_model.specs.declared.event.Event.TheVariants.{Start as Started}
use Rattle.schedule_model.specs.declared.history.History.{History}
use Rattle.schedule_model.specs.Course.{Course, course_of}
use Rattle.machine_model.specs.declared.kept.Kept.{Kept}
use Rattle.machine_model.specs.declared.replies.StartWhy.{StartWhy}
use Rattle.machine_model.specs.Advance.{event_of}
use Rattle.machine_model.specs.Calls.{Call, finish, start, start_unless, started}
use Rattle.machine_model.specs.Replies.{Handed}
use Rattle.machine_model.specs.Runs.{start_refusal}
use Rattle.process_core.specs.Answers.{after_call, after_start, answer_in}
use Rattle.process_core.specs.Cores.{CoreState, IsCore, courses_in, history_of, moment_of}
use Rattle.history_files.specs.Sound.{IsSound, IsSoundForEither}
use Rattle.engine_steps.specs.Beginning.{history_with as started_with}
use Rattle.engine_steps.specs.Engines.{EngineState, full_history, with_core}
use Rattle.process_engine.specs.Finishing.{Finishes}
use Rattle.engine_steps.specs.Pieces.{history_with}
use Rattle.engine_steps.specs.declared.beginning.EngineStartWhy.{EngineStartWhy}
use Rattle.engine_steps.specs.declared.beginning.EngineStartWhy.TheVariants as whys
use Rattle.engine_steps.specs.declared.engines.Phase.TheVariants as phase
use Rattle.process_engine.specs.declared.finishing.Finish.{Finish}
use Rattle.process_engine.specs.declared.finishing.Finish.TheVariants.{Effected, Retry, Failed, Over, Dropped, Exhausted, DiskFault, NoMemory, Closed}
use Rattle.engine_steps.proofs.SameHistory.{refused_same}
use Rattle.engine_steps.proofs.StartedHistory.{history_after}
use Rattle.engine_calls.specs.Acknowledged.{IsOneAhead, IsOneOf, IsUnderWay}
use Rattle.engine_calls.specs.Runs.{GoesOn, IsReady}
use Rattle.process_disk.proofs.Images.{still_told}
use Rattle.machine_model.specs.declared.replies.PieceState.{PieceState}
use Rattle.machine_model.specs.declared.replies.PieceState.TheVariants as state
use Rattle.machine_model.specs.Moment.{Piece}
use Rattle.machine_model.specs.Pieces.{piece_of, state_of}
use Rattle.machine_model.specs.Replies.{Finish as Reply, effected, finish_by, finish_piece, finish_reply, out_finish}
use Rattle.process_core.specs.Cores.{IsHandedBy, machine_of, relation}
use Rattle.machine_model.proofs.Snoc.{now-kept}
use Rattle.engine_steps.specs.Beginning.{IsFree}
use Rattle.process_journal.specs.Laws.{beginning}
use Rattle.engine_calls.proofs.Goes.{begins_alike, goes_none, sound_now}
use Rattle.engine_calls.proofs.Beginnings.{Continues, OneEach}

-- a start that is answered with a number isn't refused
free_by : (n served i : ℕ) (c : Course) (o : Option StartWhy) → (start_unless n served c o).reply ≡ started i → o ≡ None
free_by n served i c None is = refl
free_by n served i c (Some why) is = absurd cc

-- a piece whose end would be an effect is out
out_by : (out : Reply) (n : ℕ) (s : PieceState) → finish_by out s ≡ effected n → s ≡ state.Out
out_by out n state.Out is = refl
out_by out n (state.Dropped k) is = absurd cc
out_by out n state.Over is = absurd cc

out_of_effect : (core : CoreState) (p : Piece) (outcome : Outcome) (n : ℕ) → IsHandedBy core p → finish_reply (relation core) (courses_in core) (moment_of core) p.number outcome ≡ effected n
    → state_of (moment_of core) p.number ≡ state.Out
out_of_effect core p outcome n handed is =
    out_by (out_finish (relation core) (courses_in core) (moment_of core) p outcome) n (state_of (moment_of core) p.number)
    (subst (λ o. finish_piece (relation core) (courses_in core) (moment_of core) outcome o ≡ effected n) (ap (λ ks. piece_of ks p.number) (now-kept (relation core) (machine_of core)) ∙ handed) is)

-- an engine with another core is as ready
pub still_ready : {R B : Type 0} (box : Resources B) (old new : EngineState R B) (c : CoreState) → new ≡ with_core old c → IsReady box old → IsReady box new
still_ready box old new c is ready = subst (IsReady box) (sym is) (record { settled = ready.settled; fits = ready.fits })

module _ {R B : Type 0} (racks : Racks R) (may_start : List Plan) (old new : EngineState R B) (core : IsCore old.core)
    (each : Told (racks.disk old.files.rack) → EachImage (racks.disk old.files.rack) (racks.disk old.files.rack).moment (IsSound old.catalog (full_history old.core))) where
  abbrev Ahead : FileSet → Type 0
  Ahead = IsOneAhead new.catalog may_start new.core new.phase

  -- what is sound for the history before is sound for that beginning of the one after
  sound_before : new.catalog ≡ old.catalog → Continues (full_history old.core) (full_history new.core) → (files : FileSet) → IsSound old.catalog (full_history old.core) files
      → IsSound new.catalog (beginning (full_history new.core) (history_of old.core)) files
  sound_before catalog on files sound =
      subst (λ c. IsSound c (beginning (full_history new.core) (history_of old.core)) files) (sym catalog)
      (subst (λ h. IsSound old.catalog h files) (begins_alike (full_history old.core) (full_history new.core) core.session.one_each on (history_of old.core) [] (sym (append-nil (history_of old.core))))
      (sound_now old.catalog old.core core.session.one_each files sound))

  -- what is sound for the history after is sound for it as its own beginning
  sound_after : new.catalog ≡ old.catalog → OneEach (full_history new.core) → (k : History) (es : List Event) → history_of new.core ≡ history_of old.core ++ es → full_history new.core ≡ k
      → (files : FileSet) → IsSound old.catalog k files → IsSound new.catalog (beginning (full_history new.core) (history_of old.core ++ es)) files
  sound_after catalog one_each k es events history files after =
      subst (λ all. IsSound new.catalog (beginning (full_history new.core) all) files) events
      (sound_now new.catalog new.core one_each files (subst (λ h. IsSound new.catalog h files) (sym history) (subst (λ c. IsSound c k files) (sym catalog) after)))

  -- A call that adds no event to the history and touches no file,
  pub still_goes : (mid : CoreState) (added : List Kept) → new.core ≡ mid → mid.conflicts ≡ old.core.conflicts → mid.opening ≡ old.core.opening → mid.kept ≡ old.core.kept ++ added
      → full_history mid ≡ full_history old.core → new.catalog ≡ old.catalog → new.files.rack ≡ old.files.rack → GoesOn racks may_start old new
  still_goes mid added is conflicts opening kept same catalog rack =
      let history : full_history new.core ≡ full_history old.core = ap full_history is ∙ same in
      let all = ap (λ (h : History). h.plans) history ∙ sym (append-nil old.core.plans) in
      let events = ap (λ (h : History). h.events) history ∙ sym (append-nil (history_of old.core)) in
      let on : Continues (full_history old.core) (full_history new.core) = record { events = []; is = events; plans = []; are = all } in
      record {
        catalog = catalog;
        conflicts = ap (λ (c : CoreState). c.conflicts) is ∙ conflicts;
        opening = ap (λ (c : CoreState). c.opening) is ∙ opening;
        added = added;
        kept = ap (λ (c : CoreState). c.kept) is ∙ kept;
        started = [];
        plans = all;
        came = [];
        events = events;
        tells = ap (λ r. (racks.disk r).tells) rack;
        later = omega (arith, ap racks.faults rack);
        follow = λ told. subst (λ r. ImagesFollow (racks.disk old.files.rack) (racks.disk r)) (sym rack) (follow_none (racks.disk old.files.rack));
        images = λ told. record {
          has = λ files left. inl (sound_before catalog on files ((each told).has files (subst (λ r. (racks.disk r).left_since (racks.disk old.files.rack).moment files) rack left)));
        };
      }

  pub quiet_goes : (call : Call) → new.core ≡ after_call old.core call → full_history (after_call old.core call) ≡ full_history old.core → new.catalog ≡ old.catalog → new.files.rack ≡ old.files.rack
      → GoesOn racks may_start old new
  quiet_goes call is same catalog rack = still_goes (after_call old.core call) (answer_in old.core call).kept is refl refl refl same catalog rack

  pub called_goes : (call : Call) → new ≡ with_core old (after_call old.core call) → full_history (after_call old.core call) ≡ full_history old.core → GoesOn racks may_start old new
  called_goes call is same = quiet_goes call (ap (λ (e : EngineState R B). e.core) is) same (ap (λ (e : EngineState R B). e.catalog) is) (ap (λ (e : EngineState R B). e.files.rack) is)

  -- one of the rack, which may fail,
  module _ (tells : (racks.disk new.files.rack).tells ≡ (racks.disk old.files.rack).tells) (later : racks.faults old.files.rack ≤ racks.faults new.files.rack)
      (follow : Told (racks.disk old.files.rack) → ImagesFollow (racks.disk old.files.rack) (racks.disk new.files.rack)) where
    -- one that adds none, as a call of the rack failed,
    pub fault_goes : (k : History) → IsUnderWay may_start old.core k → new.core ≡ old.core → new.catalog ≡ old.catalog → new.phase ≡ phase.Closed
        → (Told (racks.disk old.files.rack) → EachImage (racks.disk new.files.rack) (racks.disk old.files.rack).moment (IsSoundForEither old.catalog (full_history old.core) k)) → GoesOn racks may_start old new
    fault_goes k under same catalog closed either =
        let all = ap (λ (c : CoreState). c.plans) same ∙ sym (append-nil old.core.plans) in
        let events = ap history_of same ∙ sym (append-nil (history_of old.core)) in
        let on : Continues (full_history old.core) (full_history new.core) = record { events = []; is = events; plans = []; are = all } in
        record {
          catalog = catalog;
          conflicts = ap (λ (c : CoreState). c.conflicts) same;
          opening = ap (λ (c : CoreState). c.opening) same;
          added = [];
          kept = ap (λ (c : CoreState). c.kept) same ∙ sym (append-nil old.core.kept);
          started = [];
          plans = all;
          came = [];
          events = events;
          tells = tells;
          later = later;
          follow = follow;
          images = λ told. record {
            has = λ files left. ⊎_elim
                (λ before. inl (sound_before catalog on files before))
                (λ after. inr (closed, (k, subst (λ c. IsUnderWay may_start c k) (sym same) under, subst (λ c. IsSound c k files) (sym catalog) after)))
                ((either told).has files left);
          };
        }

    -- one that adds events and plans of processes that start, which come at once,
    pub events_goes : (k : History) (es : List Event) (plans : List Plan) (added : List Kept) → es ≢ [] → k.events ≡ history_of old.core ++ es → k.plans ≡ old.core.plans ++ plans → IsCore new.core
        → new.core.conflicts ≡ old.core.conflicts → new.core.opening ≡ old.core.opening → new.core.kept ≡ old.core.kept ++ added → new.catalog ≡ old.catalog → full_history new.core ≡ k
        → (Told (racks.disk old.files.rack) → EachImage (racks.disk new.files.rack) (racks.disk old.files.rack).moment (IsSoundForEither old.catalog (full_history old.core) k))
        → (Told (racks.disk old.files.rack) → EachImage (racks.disk new.files.rack) (racks.disk new.files.rack).moment (IsSound new.catalog (full_history new.core)))
        → GoesOn racks may_start old new
    events_goes k es plans added some more_events more_plans now conflicts opening kept catalog history either at_end =
        let all = ap (λ (h : History). h.plans) history ∙ more_plans in
        let events = ap (λ (h : History). h.events) history ∙ more_events in
        let on : Continues (full_history old.core) (full_history new.core) = record { events = es; is = events; plans = plans; are = all } in
        record {
          catalog = catalog;
          conflicts = conflicts;
          opening = opening;
          added = added;
          kept = kept;
          started = plans;
          plans = all;
          came = ((racks.disk new.files.rack).moment, es) ∷ [];
          events = events ∙ ap (λ more. history_of old.core ++ more) (sym (append-nil es));
          tells = tells;
          later = later;
          follow = follow;
          images = λ told. (
            some,
            record {
              later = (follow told).later;
              by_now = omega arith;
              until = λ files left. inr (⊎_elim (λ before. inl (sound_before catalog on files before))
                  (λ after. inr (sound_after catalog now.session.one_each k es events history files after)) ((either told).has files left));
            },
            record {
              has = λ files left. inl (subst (λ all. IsSound new.catalog (beginning (full_history new.core) all) files) events (sound_now new.catalog new.core now.session.one_each files ((at_end told).has files left)));
            },
          );
        }

    effect_goes : (p : Handed) (outcome : Outcome) → IsCore new.core → new.core ≡ after_call old.core (finish p.piece.number outcome) → new.catalog ≡ old.catalog → full_history new.core ≡ history_with old.core p.piece
        → (Told (racks.disk old.files.rack) → EachImage (racks.disk new.files.rack) (racks.disk old.files.rack).moment (IsSoundForEither old.catalog (full_history old.core) (history_with old.core p.piece)))
        → (Told (racks.disk old.files.rack) → EachImage (racks.disk new.files.rack) (racks.disk new.files.rack).moment (IsSound new.catalog (full_history new.core)))
        → GoesOn racks may_start old new
    effect_goes p outcome now is catalog history either at_end =
        events_goes (history_with old.core p.piece) (event_of (courses_in old.core) p.piece ∷ []) [] (answer_in old.core (finish p.piece.number outcome)).kept (λ none. cc) refl (sym (append-nil old.core.plans)) now
        (ap (λ (c : CoreState). c.conflicts) is) (ap (λ (c : CoreState). c.opening) is) (ap (λ (c : CoreState). c.kept) is) catalog history either at_end

    pub start_goes : (p : Plan) (i : ℕ) → IsCore new.core → (answer_in old.core (start (course_of p))).reply ≡ started i → new.core ≡ after_start old.core p → new.catalog ≡ old.catalog
        → (Told (racks.disk old.files.rack) → EachImage (racks.disk new.files.rack) (racks.disk old.files.rack).moment (IsSoundForEither old.catalog (full_history old.core) (started_with old.core p)))
        → (Told (racks.disk old.files.rack) → EachImage (racks.disk new.files.rack) (racks.disk new.files.rack).moment (IsSound new.catalog (full_history new.core)))
        → GoesOn racks may_start old new
    start_goes p i now reply is catalog either at_end =
        let free = free_by _ _ i (course_of p) (start_refusal (courses_in old.core) (moment_of old.core) (course_of p)) reply in
        events_goes (started_with old.core p) (Started (length old.core.plans + 1) ∷ []) (p ∷ []) (answer_in old.core (start (course_of p))).kept (λ none. cc) refl refl now
        (ap (λ (c : CoreState). c.conflicts) is) (ap (λ (c : CoreState). c.opening) is) (ap (λ (c : CoreState). c.kept) is) catalog (ap full_history is ∙ history_after old.core core p free) either at_end

    -- a start that is refused, whatever the cause,
    pub refused_start_goes : (p : Plan) (why : EngineStartWhy) → IsOneOf may_start p → (why ≡ whys.DiskFault → IsFree old.core p) → (why ≢ whys.DiskFault → new ≡ old) → (why ≡ whys.DiskFault → (new.phase ≡ phase.Closed) × (new.core ≡ old.core)) → new.catalog ≡ old.catalog
        → (Told (racks.disk old.files.rack) → EachImage (racks.disk new.files.rack) (racks.disk old.files.rack).moment (IsSoundForEither old.catalog (full_history old.core) (started_with old.core p)))
        → GoesOn racks may_start old new
    refused_start_goes p why one free left closed catalog either = by why free left closed
      where
        nothing : new ≡ old → GoesOn racks may_start old new
        nothing same = subst (λ e. GoesOn racks may_start old e) (sym same) (goes_none racks may_start old core each)

        by : (w : EngineStartWhy) → (w ≡ whys.DiskFault → IsFree old.core p) → (w ≢ whys.DiskFault → new ≡ old) → (w ≡ whys.DiskFault → (new.phase ≡ phase.Closed) × (new.core ≡ old.core)) → GoesOn racks may_start old new
        by whys.DiskFault free' left closed = fault_goes (started_with old.core p) (inr (inl (p, one, free' refl, refl))) (closed refl).1 catalog (closed refl).0 either
        by (whys.Closed n) free' left closed = nothing (left (λ is. cc))
        by (whys.TooMany n) free' left closed = nothing (left (λ is. cc))
        by (whys.NoRoom n) free' left closed = nothing (left (λ is. cc))
        by whys.NoMemory free' left closed = nothing (left (λ is. cc))

    -- and the end of a piece, whatever it answers.
    pub finish_goes : IsCore new.core → (p : Handed) → IsHandedBy old.core p.piece → (outcome : Outcome) (a : Finish) → Finishes racks.disk old new p outcome a
        → (Told (racks.disk new.files.rack) → new.phase ≡ phase.Settled → EachImage (racks.disk new.files.rack) (racks.disk new.files.rack).moment (IsSound new.catalog (full_history new.core))) → GoesOn racks may_start old new
    finish_goes now p handed outcome (Effected n) fin at_end = effect_goes p Succeeds now fin.left.core fin.left.catalog fin.acknowledged.history fin.any_moment
        (λ told. at_end (still_told (racks.disk old.files.rack) (racks.disk new.files.rack) tells told) fin.left.phase)
    finish_goes now p handed outcome (Retry k) fin at_end = quiet_goes (finish p.piece.number Fails) fin.left.0.core (refused_same old.core p.piece.number) fin.left.0.catalog fin.left.1
    finish_goes now p handed outcome Failed fin at_end = quiet_goes (finish p.piece.number Fails) fin.left.0.core (refused_same old.core p.piece.number) fin.left.0.catalog fin.left.1
    finish_goes now p handed outcome Exhausted fin at_end = quiet_goes (finish p.piece.number Fails) fin.left.0.core (refused_same old.core p.piece.number) fin.left.0.catalog fin.left.1
    finish_goes now p handed outcome Over fin at_end = subst (λ e. GoesOn racks may_start old e) (sym fin.left) (goes_none racks may_start old core each)
    finish_goes now p handed outcome (Dropped k) fin at_end = subst (λ e. GoesOn racks may_start old e) (sym fin.left) (goes_none racks may_start old core each)
    finish_goes now p handed outcome DiskFault fin at_end = fault_goes (history_with old.core p.piece) (inl (p.piece, handed, out_of_effect old.core p.piece outcome fin.reply.0 handed fin.reply.1, refl)) fin.left.core fin.left.catalog fin.left.phase fin.any_moment
    finish_goes now p handed outcome (NoMemory q) fin at_end = still_goes old.core [] fin.left.0.core refl refl (sym (append-nil old.core.kept)) refl fin.left.0.catalog fin.left.3
    finish_goes now p handed outcome (Closed n) fin at_end = absurd fin.reply
