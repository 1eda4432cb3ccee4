-- The headline, put together.
use Rattle.std.proofs.Common.{◌≡◌, ◌∙◌, ℕ, true, List, Option, Some, None, refl, ap}
use Rattle.process_flow.specs.declared.source.Source.{Ghosts as Sources}
use Rattle.process_flow.specs.declared.sink.Sink.{Ghosts as Sinks}
use Rattle.process_disk.specs.declared.rack.Rack.{Ghosts as Racks}
use Rattle.process_disk.specs.Disk.{FileSet, IsHonest, Told}
use Rattle.process_disk.proofs.Images.{still_told}
use Rattle.schedule_model.specs.declared.event.Event.{Event}
use Rattle.schedule_model.specs.declared.history.History.{History}
use Rattle.reduction_trace.specs.Whole.{completed_history}
use Rattle.commute_table.specs.declared.catalog.Catalog.{Catalog}
use Rattle.process_core.specs.Cores.{CoreState}
use Rattle.history_opening.specs.Laws.{SoundFilesAreOpened}
use Rattle.process_engine.specs.declared.gates.Gate.{Ghosts as Gates}
use Rattle.resource_box.specs.declared.resource.Resource.{Ghosts as Resources}
use Rattle.command_refusals.specs.declared.refusal.Refusal.{Refusal}
use Rattle.command_refusals.specs.Statuses.{number_of}
use Rattle.program_words.specs.Commands.{asked}
use Rattle.program_words.specs.declared.reading.Command.{Command}
use Rattle.program_words.specs.declared.reading.Command.TheVariants.{Check, Expand, Init, Run, Session, Serve, Restart, Show, Replay, Verify, Audit, Gen, Bulk, Help, Version}
use Rattle.process_top.specs.Commands.{Answers}
use Rattle.process_top.specs.Worlds.{World}
use Rattle.headline.proofs.ExactBooks.{LawsOfBooks}
use Rattle.headline.specs.Headline.{Headline, HoldsAcknowledged, IsAhead, IsAtEntry, IsBeginningOf, OfEachRestart, Outside, ReadsAs, StopsAreRestored, WentOn, goes_on, seen}
use Rattle.headline.proofs.Agree.{restarts_agree}
use Rattle.headline.proofs.Left.{LeftAs, begins_and_holds, begins_same, holds_same, left_as}
use Rattle.headline.proofs.LeavesSound.{leaves_sound}
use Rattle.headline.proofs.Recovered.{came_of, ended_so, recovered}
use Rattle.headline.proofs.GoodHistories.{good_history}
use Rattle.same_histories.proofs.SameHistories.{one_sound}
use Rattle.headline.proofs.Went.{Went}
use Rattle.headline.proofs.WentByCommand.{went_by}

module _ {S K R B G : Type 0} (sources : Sources S) (sinks : Sinks K) (racks : Racks R) (resources : Resources B) (workers : Gates G)
    (honest : (rack : R) → Told (racks.disk rack) → IsHonest (racks.disk rack)) (opened : SoundFilesAreOpened) (books : LawsOfBooks) where
  abbrev see : Outside S K R B G → World S K R
  see = seen sources sinks racks resources workers

  -- A call on files that read as those of a history.
  module _ (words : List (List ℕ)) (before after : Outside S K R B G) (number : ℕ) (refusal : Option Refusal) (c : Catalog) (h : History) (goes : goes_on (asked words) ≡ true)
      (answered : Answers words (see before) (see after) number refusal) (entry : ReadsAs c h (see before).files.disk) where
    pub stays_told : Told (racks.disk after.rack)
    stays_told = still_told (racks.disk before.rack) (racks.disk after.rack) answered.left.tells entry.told

    pub found : Went (asked words) c h (see before) (see after) entry number answered.status answered.numbered stays_told (honest after.rack stays_told)
    found = went_by c h (see before) (see after) entry number answered.status answered.numbered stays_told (honest after.rack stays_told) (asked words) goes answered.reply answered.due answered.told

  module _ (words : List (List ℕ)) (before after : Outside S K R B G) (number : ℕ) (refusal : Option Refusal) (c : Catalog) (h : History) (goes : goes_on (asked words) ≡ true)
      (answered : Answers words (see before) (see after) number refusal) (entry : IsAtEntry c h (see before).files.disk) where
    reads : ReadsAs c h (see before).files.disk
    reads = record { told = entry.told; reads = entry.created }

    told_after : Told (racks.disk after.rack)
    told_after = stays_told words before after number refusal c h goes answered reads

    agree : (o : Option Command) (now : CoreState) (came : List (ℕ × List Event)) (went : WentOn o c h (see before) (see after) now came) (moment : ℕ) (read : History)
        → IsBeginningOf (IsAhead o (see before).input (see after).input c went.opened now) now read → HoldsAcknowledged h came moment read
        → o ≡ Some Restart → completed_history read ≡ completed_history h
    agree (Some Restart) now came went moment read begins holds is =
        restarts_agree c h (good_history c h entry.created.history) (see before) (see after) now came went moment read begins holds
    agree (Some Check) now came went moment read begins holds is = absurd cc
    agree (Some Expand) now came went moment read begins holds is = absurd cc
    agree (Some (Init values strict)) now came went moment read begins holds is = absurd cc
    agree (Some (Run workers)) now came went moment read begins holds is = absurd cc
    agree (Some Session) now came went moment read begins holds is = absurd cc
    agree (Some Serve) now came went moment read begins holds is = absurd cc
    agree (Some Show) now came went moment read begins holds is = absurd cc
    agree (Some Verify) now came went moment read begins holds is = absurd cc
    agree (Some Replay) now came went moment read begins holds is = absurd cc
    agree (Some (Audit history)) now came went moment read begins holds is = absurd cc
    agree (Some (Gen number count)) now came went moment read begins holds is = absurd cc
    agree (Some (Bulk number count)) now came went moment read begins holds is = absurd cc
    agree (Some (Help about)) now came went moment read begins holds is = absurd cc
    agree (Some Version) now came went moment read begins holds is = absurd cc
    agree None now came went moment read begins holds is = absurd cc

    -- an image at the entry is of the history
    each_at_entry : (files : FileSet) → (see before).files.disk.may_leave files → LeftAs c (λ k. k ≡ h) files
    each_at_entry files may = record { history = h; sound = entry.images files may; may_be = refl }

    pub each_restart : (now : CoreState) (came : List (ℕ × List Event)) (went : WentOn (asked words) c h (see before) (see after) now came)
        → OfEachRestart sources sinks racks resources workers words c h before after now came went.opened
    each_restart now came went moment words' again last number' on =
        let MayBeAhead : History → Type 0 = IsAhead (asked words) (see before).input (see after).input c went.opened now in
        let left = left_as (asked words) c h (see before) (see after) now came went (λ k. k ≡ h) (honest after.rack told_after) each_at_entry moment (see again).files.disk.files on.finds.found in
        let told_last : Told (racks.disk last.rack) = still_told (racks.disk again.rack) (racks.disk last.rack) on.answered.left.tells on.finds.told in
        let came_of' = came_of c left.history words' (see again) (see last) number' on.asks on.refusal on.answered on.finds.told left.sound (honest last.rack told_last) opened books in
        let same = (one_sound c c left.history came_of'.0 (see again).files.disk.files left.sound came_of'.1.reads).1 in
        let so = begins_and_holds (asked words) c h (see before) (see after) now came went moment left.history left.may_be in
        let begins = begins_same MayBeAhead now left.history came_of'.0 same so.0 in
        let holds = holds_same h came moment left.history came_of'.0 same so.1 in
        let ends = ended_so c left.history words' (see again) (see last) number' on.asks on.refusal on.answered on.finds.told left.sound (honest last.rack told_last) opened books came_of'.0 came_of'.1 in (
          came_of'.0,
          recovered c left.history words' (see again) (see last) number' on.asks on.refusal on.answered on.finds.told left.sound (honest last.rack told_last) opened books h MayBeAhead now came moment came_of'.0 came_of'.1 begins holds,
          agree (asked words) now came went moment came_of'.0 begins holds,
          ends.0,
          ends.1,
        )

  pub stops_are_restored : StopsAreRestored sources sinks racks resources workers
  stops_are_restored words before after number refusal c h goes answered entry =
      let found' = found words before after number refusal c h goes answered (reads words before after number refusal c h goes answered entry) in
      let told = told_after words before after number refusal c h goes answered entry in (
        found'.0,
        found'.1,
        found'.2,
        found'.3,
        leaves_sound (asked words) c h (see before) (see after) number found'.0 found'.1 found'.2 found'.3 entry told (honest after.rack told),
        each_restart words before after number refusal c h goes answered entry found'.0 found'.1 found'.2,
      )

  pub headline : Headline sources sinks racks resources workers
  headline words before after number refusal c h goes answered entry =
      let all = stops_are_restored words before after number refusal c h goes answered entry in (
        all.0,
        all.1,
        all.2,
        λ moment words' again last number' premises.
            let one = all.5 moment words' again last number' premises.restarted in
            let done = one.1.well (premises.willing one.0 one.1.reads) premises.memory premises.quiet in
            let zero = one.1.numbered ∙ ap number_of done in
            (zero, record { read = one.0; reads = one.1.reads; begins = one.1.begins; holds = one.1.holds; completed = one.3 zero }),
      )
