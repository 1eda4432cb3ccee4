-- Answers and what a crash may leave: each answer has its moment.
use Rattle.std.proofs.Common.{◌≡◌, ◌≤◌, ◌⊎◌, ◌+◌, ◌∙◌, ℕ, List, [], ◌∷◌, ◌++◌, length, map, inl, inr, ⊎_elim, refl, ap, subst, sym, append-nil, append_assoc, arith}
use Rattle.process_flow.specs.declared.source.Source.{Ghosts as Sources}
use Rattle.process_flow.specs.declared.sink.Sink.{Ghosts as Sinks}
use Rattle.process_disk.specs.declared.rack.Rack.{Ghosts as Racks}
use Rattle.process_disk.specs.Disk.{Disk, FileSet, IsHonest, Told}
use Rattle.process_disk.specs.Images.{ImagesFollow}
use Rattle.process_disk.proofs.Images.{still_told}
use Rattle.process_tree.specs.declared.plan.Plan.{Plan}
use Rattle.schedule_model.specs.declared.event.Event.{Event}
use Rattle.schedule_model.specs.declared.event.Event.TheVariants.{Start}
use Rattle.schedule_model.specs.declared.history.History.{History}
use Rattle.commute_table.specs.declared.catalog.Catalog.{Catalog}
use Rattle.machine_model.specs.Advance.{event_of}
use Rattle.process_core.specs.Cores.{CoreState, courses_in, history_of}
use Rattle.process_journal.specs.Laws.{beginning}
use Rattle.history_files.specs.Sound.{IsSound}
use Rattle.engine_steps.specs.Engines.{EngineState, full_history}
use Rattle.engine_steps.specs.declared.engines.Phase.{Phase}
use Rattle.engine_steps.specs.declared.engines.Phase.TheVariants.{Settled, Closed}
use Rattle.engine_calls.specs.Acknowledged.{ComeInTurn, IsOneAhead, IsUnderWay, events_of}
use Rattle.engine_calls.specs.Runs.{GoesOn}
use Rattle.engine_calls.proofs.Goes.{goes_then}
use Rattle.engine_calls.proofs.GroupCalls.{events_with}
use Rattle.driver_answers.proofs.MoreStarts.{goes_settled}
use Rattle.serve_run.specs.Dialogue.{AreExchanged, AreTied, DialogueState, Exchange, HasAtLeast, HasAtMost, IsBetween, IsTied}

-- what may be under way adds events to the history
under_way : (plans : List Plan) (now : CoreState) (k : History) → IsUnderWay plans now k → (es : List Event) × (k.events ≡ history_of now ++ es)
under_way plans now k (inl piece) = (event_of (courses_in now) piece.0 ∷ [], ap (λ h. h.events) piece.3)
under_way plans now k (inr (inl start)) = (Start (length now.plans + 1) ∷ [], ap (λ h. h.events) start.3)
under_way plans now k (inr (inr group)) =
    let events = map (event_of (courses_in now)) group.0 in
    (events, ap (λ h. h.events) group.2 ∙ events_with (full_history now) events)

-- files that have these events and more have these
at_least_front : (c : Catalog) (there more : List Event) (files : FileSet) → HasAtLeast c (there ++ more) files → HasAtLeast c there files
at_least_front c there more files (k, sound, (rest, is)) = (k, sound, (more ++ rest, is ∙ append_assoc there more rest))

module _ (c : Catalog) (h : History) (IsAhead : FileSet → Type 0) (disk : Disk) where
  -- Where no image is ahead of what came in turn, each has at most all of that.
  at_most : ((files : FileSet) → IsAhead files → ⊥) → (came : List (ℕ × List Event)) (there : List Event) (t : ℕ) → ComeInTurn c h IsAhead disk there t came → (files : FileSet) → disk.left_since t files
      → HasAtMost c (there ++ events_of came) files
  at_most none [] there t turn files left =
      ⊎_elim (λ sound. (beginning h there, sound, ([], refl))) (λ ahead. absurd (none files ahead)) (turn.has files left)
  at_most none (e ∷ came) there t turn files left =
      ⊎_elim
      (λ since. let has = at_most none came (there ++ e.1) e.0 turn.2 files since in (has.0, has.1, (has.2.0, sym (append_assoc there e.1 (events_of came)) ∙ has.2.1)))
      (λ either. ⊎_elim
      (λ one. (beginning h there, one, (e.1 ++ events_of came, refl)))
      (λ two. (beginning h (there ++ e.1), two, (events_of came, sym (append_assoc there e.1 (events_of came)))))
      either)
      (turn.1.until files left)

  -- Where one that is ahead has all of it, each has what was there at first.
  at_least : (came : List (ℕ × List Event)) (there : List Event) (t : ℕ) → ComeInTurn c h IsAhead disk there t came → ((files : FileSet) → IsAhead files → HasAtLeast c (there ++ events_of came) files)
      → (files : FileSet) → disk.left_since t files → HasAtLeast c there files
  at_least [] there t turn all files left =
      ⊎_elim (λ sound. (beginning h there, sound, ([], sym (append-nil there)))) (λ ahead. at_least_front c there [] files (all files ahead)) (turn.has files left)
  at_least (e ∷ came) there t turn all files left =
      ⊎_elim
      (λ since. at_least_front c there e.1 files (at_least came (there ++ e.1) e.0 turn.2
      (λ fs ahead. subst (λ es. HasAtLeast c es fs) (sym (append_assoc there e.1 (events_of came))) (all fs ahead)) files since))
      (λ either. ⊎_elim
      (λ one. (beginning h there, one, ([], sym (append-nil there))))
      (λ two. (beginning h (there ++ e.1), two, (e.1, refl)))
      either)
      (turn.1.until files left)

-- an engine that is settled isn't closed
isnt_closed : (on : Phase) → on ≡ Settled → on ≡ Closed → ⊥
isnt_closed on settled closed = absurd cc

-- what is ahead of a machine has all that it has come to
ahead_has_all : (c : Catalog) (asked : List Plan) (core : CoreState) (on : Phase) (files : FileSet) → IsOneAhead c asked core on files → HasAtLeast c (history_of core) files
ahead_has_all c asked core on files (closed, (k, way, sound)) = (k, sound, under_way asked core k way)

module _ {R B : Type 0} (r : Racks R) where
  -- An engine was settled between two runs of calls: until then each image has at most what its machine had come to, and from then on each
  -- has all of it.
  module _ (o m f : EngineState R B) (asked : List Plan) (settled : m.phase ≡ Settled) (first : GoesOn r [] o m) (second : GoesOn r asked m f) (told : Told (r.disk o.files.rack)) where
    told_mid : Told (r.disk m.files.rack)
    told_mid = still_told (r.disk o.files.rack) (r.disk m.files.rack) first.tells told

    follow : ImagesFollow (r.disk m.files.rack) (r.disk f.files.rack)
    follow = second.follow told_mid

    until : (files : FileSet) → (r.disk m.files.rack).left_since (r.disk o.files.rack).moment files → HasAtMost o.catalog (history_of m.core) files
    until files left =
        subst (λ c. HasAtMost c (history_of m.core) files) first.catalog
        (subst (λ es. HasAtMost m.catalog es files) (sym first.events)
        (at_most m.catalog (full_history m.core) (IsOneAhead m.catalog [] m.core m.phase) (r.disk m.files.rack) (λ fs ahead. isnt_closed m.phase settled ahead.0) first.came (history_of o.core)
        (r.disk o.files.rack).moment (first.images told) files left))

    since : (files : FileSet) → (r.disk f.files.rack).left_since (r.disk m.files.rack).moment files → HasAtLeast o.catalog (history_of m.core) files
    since files left =
        subst (λ c. HasAtLeast c (history_of m.core) files) (second.catalog ∙ first.catalog)
        (at_least f.catalog (full_history f.core) (IsOneAhead f.catalog asked f.core f.phase) (r.disk f.files.rack) second.came (history_of m.core) (r.disk m.files.rack).moment (second.images told_mid)
        (λ fs ahead. subst (λ es. HasAtLeast f.catalog es fs) second.events (ahead_has_all f.catalog asked f.core f.phase fs ahead)) files left)

    -- So the answer that was whole then is tied to that moment.
    tie : (x : Exchange) (since_then : ℕ) → x.state.core ≡ m.core → x.moment ≡ (r.disk m.files.rack).moment → since_then ≤ (r.disk m.files.rack).moment
        → IsTied o.catalog (history_of o.core) (r.disk o.files.rack) (r.disk f.files.rack) since_then x
    tie x since_then core moment low =
        let same : history_of m.core ≡ history_of x.state.core = ap history_of (sym core) in
        record {
          later = subst (λ t. since_then ≤ t) (sym moment) low;
          by_now = subst (λ t. t ≤ (r.disk f.files.rack).moment) (sym moment) follow.later;
          goes = (events_of first.came, sym same ∙ first.events);
          until = λ files left. ⊎_elim
              (λ sooner. inr (inr (subst (λ es. HasAtMost o.catalog es files) same (until files sooner))))
              (λ later. inr (inl (subst (λ t. (r.disk f.files.rack).left_since t files) (sym moment) later)))
              (follow.nothing_else (r.disk o.files.rack).moment files (first.follow told).later left);
          kept = record {
            has = λ files left. subst (λ es. HasAtLeast o.catalog es files) same (since files (subst (λ t. (r.disk f.files.rack).left_since t files) moment left));
          };
        }

module _ {S K R B : Type 0} (s : Sources S) (k : Sinks K) (r : Racks R) (honest : (rack : R) → Told (r.disk rack) → IsHonest (r.disk rack)) (plans : List Plan) (o f : EngineState R B) (asked : List Plan) where
  -- what is said of lines from one state on: behind them the engine goes on to the last, and each of their answers is tied
  abbrev pub GoTied : EngineState R B → List Exchange → Type 0
  GoTied e xs =
      (goes : GoesOn r asked e f)
      × (Told (r.disk o.files.rack) → (since : ℕ) → since ≤ (r.disk e.files.rack).moment → AreTied o.catalog (history_of o.core) (r.disk o.files.rack) (r.disk f.files.rack) since xs)

  pub go_tied : (a b : DialogueState S K R B) (xs : List Exchange) → IsBetween r a.engine → GoesOn r [] o a.engine → AreExchanged s k r plans a xs b → GoesOn r asked b.engine f → GoTied a.engine xs
  go_tied a b [] at first is last = (subst (λ (d : DialogueState S K R B). GoesOn r asked d.engine f) (sym is) last, (λ told since low. tt))
  go_tied a b (x ∷ xs) at first (m, one, more) last =
      let to_here = goes_then r [] o a.engine m.engine at.settled at.machine.session.one_each (honest m.engine.files.rack) first one.goes in
      let rest = go_tied m b xs one.between to_here more last in (
        goes_then r asked a.engine m.engine f one.between.settled one.between.machine.session.one_each (honest f.files.rack) (goes_settled r [] asked a.engine m.engine one.between.settled one.goes) rest.0,
        λ told since low.
            let told_here = still_told (r.disk o.files.rack) (r.disk a.engine.files.rack) first.tells told in
            let later = (one.goes.follow told_here).later in (
              tie r o m.engine f asked one.between.settled to_here rest.0 told x since (ap (λ d. d.core) one.state) one.moment (omega (arith, low, later)),
              rest.1 told x.moment (let same = one.moment in omega (arith, same)),
            ),
      )

-- Answers that are tied to files as they were opened are tied to them as they were before.
module _ (c : Catalog) (h : History) (before opened after : Disk) (first : before.moment ≤ opened.moment)
    (sooner : (files : FileSet) → after.left_since before.moment files → before.may_leave files ⊎ IsSound c h files ⊎ after.left_since opened.moment files)
    (then : (files : FileSet) → opened.may_leave files → IsSound c h files) where
  -- files that are sound for the history that was opened have no more than what came of it
  no_more : (x : Exchange) (files : FileSet) → ((more : List Event) × (history_of x.state.core ≡ h.events ++ more)) → IsSound c h files → HasAtMost c (history_of x.state.core) files
  no_more x files goes sound = (h, sound, goes)

  tied_before : (since : ℕ) (x : Exchange) → before.moment ≤ x.moment → since ≤ x.moment → (from : ℕ) → IsTied c h.events opened after from x → IsTied c h.events before after since x
  tied_before since x low later from tied = record {
    later = later;
    by_now = tied.by_now;
    goes = tied.goes;
    until = λ files left. ⊎_elim
        (λ may. inl may)
        (λ rest. ⊎_elim
        (λ sound. inr (inr (no_more x files tied.goes sound)))
        (λ since_opened. ⊎_elim (λ may. inr (inr (no_more x files tied.goes (then files may)))) (λ more. inr more) (tied.until files since_opened))
        rest)
        (sooner files left);
    kept = tied.kept;
  }

  pub all_tied_before : (xs : List Exchange) (since from : ℕ) → before.moment ≤ from → since ≤ from → AreTied c h.events opened after from xs → AreTied c h.events before after since xs
  all_tied_before [] since from begun low tied = tt
  all_tied_before (x ∷ xs) since from begun low (one, rest) =
      let later = one.later in
      (tied_before since x (omega (arith, begun, later)) (omega (arith, low, later)) from one, all_tied_before xs x.moment x.moment (omega (arith, begun, later)) (omega arith) rest)
