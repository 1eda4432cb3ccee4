-- What a stop leaves: files that are sound for a beginning of the history which holds what was acknowledged; or, before the files
-- were opened, what might have been left before.
use Rattle.std.proofs.Common.{◌≡◌, ◌⊎◌, ◌∙◌, ◌≤◌, ◌<◌, ℕ, Bool, true, false, leb, leb-true, List, [], ◌∷◌, ◌++◌, ◌+◌, length, map, Option, Some, None, inl, inr, ⊎_elim, refl, ap, subst, sym, append-nil, append_assoc, arith}
use Rattle.std.proofs.lemmas.Bool.{leb-false}
use Rattle.process_disk.specs.Disk.{FileSet, IsHonest}
use Rattle.schedule_model.specs.declared.event.Event.{Event}
use Rattle.schedule_model.specs.declared.event.Event.TheVariants.{Start}
use Rattle.schedule_model.specs.declared.history.History.{History}
use Rattle.commute_table.specs.declared.catalog.Catalog.{Catalog}
use Rattle.machine_model.specs.Advance.{event_of}
use Rattle.process_core.specs.Cores.{CoreState, courses_in, history_of}
use Rattle.process_journal.specs.Laws.{IsSameHistory, beginning}
use Rattle.history_files.specs.Sound.{IsSound}
use Rattle.engine_steps.specs.Engines.{full_history}
use Rattle.process_tree.specs.declared.plan.Plan.{Plan}
use Rattle.program_words.specs.declared.reading.Command.{Command}
use Rattle.program_words.specs.declared.reading.Command.TheVariants.{Check, Expand, Init, Run, Session, Serve, Restart, Show, Replay, Verify, Audit, Gen, Bulk, Help, Version}
use Rattle.command_input.specs.Inputs.{Input}
use Rattle.process_top.specs.Worlds.{World}
use Rattle.engine_calls.specs.Acknowledged.{ComeInTurn, IsUnderWay, acknowledged, events_of}
use Rattle.headline.specs.Headline.{HoldsAcknowledged, IsAhead, IsBeginningOf, IsKeptInTurn, IsLeftAlone, MayBeLeft, MayLeave, WentOn, WereLeft, was_opened_by}
use Rattle.engine_calls.proofs.Acknowledged.{Holds, held, none_yet, prefix}
use Rattle.engine_calls.proofs.GroupCalls.{events_with}
use Rattle.same_histories.proofs.SameHistories.{same_itself, same_through, same_turned}
use Rattle.headline.proofs.GoodHistories.{whole_beginning}

-- what may be under way adds events to the history
under_way : (plans : List Plan) (now : CoreState) (k : History) → IsUnderWay plans now k → (es : List Event) × (k.events ≡ history_of now ++ es)
under_way plans now k (inl piece) = (event_of (courses_in now) piece.0 ∷ [], ap (λ h. h.events) piece.3)
under_way plans now k (inr (inl start)) = (Start (length now.plans + 1) ∷ [], ap (λ h. h.events) start.3)
under_way plans now k (inr (inr group)) =
    let events = map (event_of (courses_in now)) group.0 in
    (events, ap (λ h. h.events) group.2 ∙ events_with (full_history now) events)

pub ahead_events : (o : Option Command) (before after : Input) (c : Catalog) (h : History) (now : CoreState) (k : History) → IsAhead o before after c h now k
    → (es : List Event) × (k.events ≡ history_of now ++ es)
ahead_events (Some (Run workers)) before after c h now k ahead = under_way ahead.0 now k ahead.2
ahead_events (Some Session) before after c h now k ahead = under_way ahead.0 now k ahead.3
ahead_events (Some Serve) before after c h now k (plans, first, taken, d, status, read, spoken, asked, by_line, ahead) = under_way asked now k ahead
ahead_events (Some Restart) before after c h now k ahead = (ahead.event ∷ [], ap (λ h. h.events) ahead.is)
ahead_events (Some Check) before after c h now k ahead = absurd ahead
ahead_events (Some Expand) before after c h now k ahead = absurd ahead
ahead_events (Some (Init values strict)) before after c h now k ahead = absurd ahead
ahead_events (Some Show) before after c h now k ahead = absurd ahead
ahead_events (Some Verify) before after c h now k ahead = absurd ahead
ahead_events (Some Replay) before after c h now k ahead = absurd ahead
ahead_events (Some (Audit history)) before after c h now k ahead = absurd ahead
ahead_events (Some (Gen number count)) before after c h now k ahead = absurd ahead
ahead_events (Some (Bulk number count)) before after c h now k ahead = absurd ahead
ahead_events (Some (Help about)) before after c h now k ahead = absurd ahead
ahead_events (Some Version) before after c h now k ahead = absurd ahead
ahead_events None before after c h now k ahead = absurd ahead

-- Files that a stop left are sound for a history that may be.
pub record LeftAs (c : Catalog) (MayBe : History → Type 0) (left : FileSet) : Type 0 where
  pub history : History
  pub sound : IsSound c history left
  pub may_be : MayBe history

module _ {S K R : Type 0} (o : Option Command) (c : Catalog) (h : History) (before after : World S K R) (now : CoreState) (came : List (ℕ × List Event)) (went : WentOn o c h before after now came)
    (MayBe : History → Type 0) (honest : IsHonest after.files.disk) (entry : (files : FileSet) → before.files.disk.may_leave files → LeftAs c MayBe files)
    (moment : ℕ) (left : FileSet) (stopped : WereLeft before after moment left) where
  abbrev Ahead : History → Type 0
  Ahead = IsAhead o before.input after.input c went.opened now

  abbrev AheadFiles : FileSet → Type 0
  AheadFiles files = (k : History) × Ahead k × IsSound c k files

  abbrev Alone : Type 0
  Alone = IsLeftAlone h now came before.files.disk after.files.disk

  abbrev InTurn : Type 0
  InTurn = IsKeptInTurn o c h before after went.opened now came

  -- by what the files went through
  abbrev Left : Alone ⊎ InTurn → Type 0
  Left kept = LeftAs c (MayLeave MayBe Ahead h now came moment (was_opened_by moment kept)) left

  module _ (kept : InTurn) where
    turn : ComeInTurn c (full_history now) AheadFiles after.files.disk h.events kept.moment came
    turn = kept.since

    -- it goes on as far as this
    on_the_way : Holds c (full_history now) AheadFiles after.files.disk h.events moment came left → Left (inr kept)
    on_the_way held = record {
      history = beginning (full_history now) (h.events ++ acknowledged moment came ++ held.middle);
      sound = held.sound;
      may_be = inr (
        (
          full_history now,
          inl refl,
          held.rest,
          went.events ∙ (ap (λ es. h.events ++ es) held.is ∙ (sym (append_assoc h.events (acknowledged moment came ++ held.middle) held.rest)
              ∙ ap (λ es. es ++ held.rest) (sym (append_assoc h.events (acknowledged moment came) held.middle)))),
          same_itself (beginning (full_history now) (h.events ++ acknowledged moment came ++ held.middle)),
        ),
        (held.middle, refl),
      );
    }

    -- it has what was under way too
    one_ahead : AheadFiles left → Left (inr kept)
    one_ahead (k, ahead, sound) =
        let more = ahead_events o before.input after.input c went.opened now k ahead in
        let part = prefix c (full_history now) AheadFiles after.files.disk came h.events kept.moment moment turn in
        record {
          history = k;
          sound = sound;
          may_be = inr (
            (k, inr ahead, [], sym (append-nil k.events), subst (λ g. IsSameHistory g k) (whole_beginning c k sound.history) (same_itself k)),
            (
              part.0 ++ more.0,
              more.1 ∙ (ap (λ es. es ++ more.0) (went.events ∙ (ap (λ es. h.events ++ es) part.1 ∙ sym (append_assoc h.events (acknowledged moment came) part.0)))
                  ∙ append_assoc (h.events ++ acknowledged moment came) part.0 more.0),
            ),
          );
        }

    since_first : (m : ℕ) → kept.moment ≤ m → after.files.disk.left_since m left
        → (Holds c (full_history now) AheadFiles after.files.disk h.events m came left → Left (inr kept)) → Left (inr kept)
    since_first m low is by = ⊎_elim by one_ahead (held c (full_history now) AheadFiles after.files.disk honest came h.events kept.moment m turn low left is)

    -- nothing was acknowledged by then, and this came nevertheless
    sooner : (m : ℕ) → acknowledged moment came ≡ [] → Holds c (full_history now) AheadFiles after.files.disk h.events m came left → Left (inr kept)
    sooner m none held = on_the_way (record {
      middle = acknowledged m came ++ held.middle;
      rest = held.rest;
      is = held.is ∙ ap (λ es. es ++ (acknowledged m came ++ held.middle) ++ held.rest) (sym none);
      sound = subst (λ es. IsSound c (beginning (full_history now) (h.events ++ es ++ (acknowledged m came ++ held.middle))) left) (sym none)
          (subst (λ es. IsSound c (beginning (full_history now) es) left)
          (append_assoc h.events (acknowledged m came) held.middle ∙ ap (λ es. es ++ (acknowledged m came ++ held.middle)) (sym (append-nil h.events))) held.sound);
    })

    -- the files were not opened yet
    not_yet : leb kept.moment moment ≡ false → before.files.disk.may_leave left → Left (inr kept)
    not_yet at may = let from = entry left may in record { history = from.history; sound = from.sound; may_be = inl (at, from.may_be) }

    by_moment : (b : Bool) → leb kept.moment moment ≡ b → Left (inr kept)
    by_moment true at = since_first moment (leb-true kept.moment moment at) stopped.image on_the_way
    by_moment false at =
        let less : moment < kept.moment = (let l = leb-false kept.moment moment at in omega (arith, l)) in
        let none = none_yet c (full_history now) AheadFiles after.files.disk came h.events kept.moment moment turn less in
        ⊎_elim
        (not_yet at)
        (λ since. since_first kept.moment (omega arith) since (sooner kept.moment none))
        (kept.before left (honest.earlier before.files.disk.moment moment left stopped.begun stopped.image))

  left_by : (kept : Alone ⊎ InTurn) → Left kept
  left_by (inl alone) =
      let from = alone.as_before.images left (honest.earlier before.files.disk.moment moment left stopped.begun stopped.image) in
      let was = entry from.0 from.1 in
      record { history = was.history; sound = subst (λ fs. IsSound c was.history fs) (sym from.2) was.sound; may_be = inl (refl, was.may_be) }
  left_by (inr kept) = by_moment kept (leb kept.moment moment) refl

  pub left_as : LeftAs c (MayBeLeft o c h before after now came went MayBe moment) left
  left_as = left_by went.kept

-- What a stop may have left of a history that the files were sound for at entry, with all that a crash might have left, is a
-- beginning which holds what was acknowledged.
module _ {S K R : Type 0} (o : Option Command) (c : Catalog) (h : History) (before after : World S K R) (now : CoreState) (came : List (ℕ × List Event)) (went : WentOn o c h before after now came)
    (moment : ℕ) where
  abbrev MayBeAhead : History → Type 0
  MayBeAhead = IsAhead o before.input after.input c went.opened now

  -- before the opening nothing is acknowledged
  none_by : (kept : IsLeftAlone h now came before.files.disk after.files.disk ⊎ IsKeptInTurn o c h before after went.opened now came) → was_opened_by moment kept ≡ false → acknowledged moment came ≡ []
  none_by (inl alone) not_yet = ap (acknowledged moment) alone.nothing
  none_by (inr kept) not_yet =
      let less : moment < kept.moment = (let l = leb-false kept.moment moment not_yet in omega (arith, l)) in
      none_yet c (full_history now) (λ files. (k : History) × MayBeAhead k × IsSound c k files) after.files.disk came h.events kept.moment moment kept.since less

  at_entry : was_opened_by moment went.kept ≡ false → IsBeginningOf MayBeAhead now h × HoldsAcknowledged h came moment h
  at_entry not_yet = (
    (
      full_history now,
      inl refl,
      events_of came,
      went.events,
      same_turned h (beginning (full_history now) h.events) (subst (λ k. IsSameHistory h k) (went.begins ∙ ap (λ es. beginning (full_history now) es) (sym went.same.events)) went.same),
    ),
    ([], sym (append-nil (h.events ++ []) ∙ append-nil h.events) ∙ ap (λ es. h.events ++ es ++ []) (sym (none_by went.kept not_yet))),
  )

  pub begins_and_holds : (k : History) → MayBeLeft o c h before after now came went (λ j. j ≡ h) moment k → IsBeginningOf MayBeAhead now k × HoldsAcknowledged h came moment k
  begins_and_holds k (inl (not_yet, is)) = subst (λ j. IsBeginningOf MayBeAhead now j × HoldsAcknowledged h came moment j) (sym is) (at_entry not_yet)
  begins_and_holds k (inr so) = so

-- What is said of a history is said of the same one.
pub begins_same : (MayBeAhead : History → Type 0) (now : CoreState) (k read : History) → IsSameHistory k read → IsBeginningOf MayBeAhead now k → IsBeginningOf MayBeAhead now read
begins_same MayBeAhead now k read same (j, which, rest, is, begun) =
    (j, which, rest, is ∙ ap (λ es. es ++ rest) same.events, same_through (beginning j read.events) k read (subst (λ es. IsSameHistory (beginning j es) k) same.events begun) same)

pub holds_same : (h : History) (came : List (ℕ × List Event)) (moment : ℕ) (k read : History) → IsSameHistory k read → HoldsAcknowledged h came moment k → HoldsAcknowledged h came moment read
holds_same h came moment k read same holds = (holds.0, sym same.events ∙ holds.1)
