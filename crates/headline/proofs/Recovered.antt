-- What `restart` answers on files that are sound for a history.
use Rattle.std.proofs.Common.{◌≡◌, ◌≢◌, ◌⊎◌, ◌∙◌, ℕ, Bool, true, false, List, [], ◌∷◌, ◌++◌, Option, Some, inl, inr, ⊎_elim, refl, ap, subst, sym, append-nil}
use Rattle.std.specs.Io.KnownBytes.{Appends}
use Rattle.process_disk.specs.Disk.{FileSet, IsHonest, Told}
use Rattle.process_disk.specs.Images.{EachImage}
use Rattle.schedule_model.specs.declared.event.Event.{Event}
use Rattle.schedule_model.specs.declared.history.History.{History}
use Rattle.schedule_model.specs.Completion.{completion}
use Rattle.schedule_model.specs.Course.{courses_of}
use Rattle.commute_table.specs.declared.catalog.Catalog.{Catalog}
use Rattle.machine_model.specs.State.{is_exhausted}
use Rattle.process_core.specs.Cores.{CoreState, courses_in, moment_of}
use Rattle.process_journal.specs.Laws.{beginning}
use Rattle.history_files.specs.Images.{IsWithin}
use Rattle.history_files.specs.Sound.{IsSound}
use Rattle.engine_steps.specs.Opening.{LeftByOpening}
use Rattle.history_opening.specs.Images.{BecomesSound}
use Rattle.history_opening.specs.Laws.{SoundFilesAreOpened}
use Rattle.history_opening.specs.declared.faults.OpenError.{OpenError}
use Rattle.engine_steps.specs.declared.engines.Phase.{Phase}
use Rattle.engine_steps.specs.declared.engines.Phase.TheVariants.{Settled, Closed}
use Rattle.command_refusals.specs.declared.refusal.Refusal.{Refusal}
use Rattle.command_refusals.specs.declared.refusal.Refusal.TheVariants as refusals
use Rattle.command_refusals.specs.declared.status.Status.{Status}
use Rattle.command_refusals.specs.declared.status.Status.TheVariants.{Done, WriteFault, DiskFault, Exhausted, NoMemory}
use Rattle.command_refusals.specs.Statuses.{number_of, IsOneOf}
use Rattle.command_input.specs.declared.said.Said.{Said}
use Rattle.scenario_run.specs.Opening.{AreNotOpened, open_refusal}
use Rattle.engine_calls.specs.GateAnswers.{AskedGate}
use Rattle.process_top.specs.Replies.{Reply, checked, created, ended, served, shown, accepted, printed, refused, IsReplyTold}
use Rattle.process_top.specs.Run.{first_gate, gates_asked}
use Rattle.process_top.specs.Told.{IsTold}
use Rattle.process_top.specs.Worlds.{BoxState, World}
use Rattle.process_top.proofs.StatusNumbers.{same_status}
use Rattle.restart_run.specs.Boxes.{HaveValuesOf}
use Rattle.process_top.specs.Commands.{Answers, DoesItsWork, IsDueTo}
use Rattle.process_restart.specs.Completing.{with_completion}
use Rattle.process_restart.specs.Restarting.{IsRestart}
use Rattle.restart_run.specs.Restart.{IsRestartCutOff, SaysRestart}
use Rattle.process_top.specs.Restart.{IsRestartDue}
use Rattle.headline.proofs.ExactBooks.{LawsOfBooks}
use Rattle.headline.specs.Headline.{HoldsAcknowledged, IsBeginningOf, IsCompleted, IsHeldUp, IsRecovered, NothingIsExhausted}
use Rattle.program_words.specs.Commands.{asked}
use Rattle.program_words.specs.declared.reading.Command.TheVariants.{Restart}
use Rattle.headline.proofs.Exits.{IsCut, told_cut}
use Rattle.headline.proofs.Restored.{restart_images, restored}
use Rattle.same_histories.proofs.SameHistories.{one_sound}
use Rattle.headline.proofs.GoodHistories.{whole_beginning}

-- an image is one that a crash before the restart might have left, or is on the way to the completed history
abbrev pub OnTheWay : {S K R : Type 0} → Catalog → History → World S K R → World S K R → Type 0
OnTheWay c read again last =
    EachImage last.files.disk again.files.disk.moment (λ files. again.files.disk.may_leave files ⊎ IsWithin c read.events (with_completion read) files)

module _ {S K R : Type 0} (c : Catalog) (g : History) (words : List (List ℕ)) (again last : World S K R) (number : ℕ) (asks : asked words ≡ Some Restart) (refusal : Option Refusal) (answered : Answers words again last number refusal)
    (tells : Told again.files.disk) (sound : IsSound c g again.files.disk.files) (honest : IsHonest last.files.disk) (opened : SoundFilesAreOpened) (books : LawsOfBooks) where
  -- What became of the restart: of this history, which was read.
  pub record Becomes (read : History) : Type 0 where
    pub reads : IsSound c read again.files.disk.files
    pub images : OnTheWay c read again last
    pub ends : (answered.status ≡ Done) ⊎ (answered.status ≡ Exhausted) ⊎ IsCut answered.status
    pub done : answered.status ≡ Done → IsCompleted c read again last
    pub held_up : answered.status ≡ Exhausted → IsHeldUp c read again last

  cut_not_done : (s : Status) → IsCut s → s ≡ Done → ⊥
  cut_not_done s (inl a) is = absurd cc
  cut_not_done s (inr (inl a)) is = absurd cc
  cut_not_done s (inr (inr a)) is = absurd cc

  cut_not_up : (s : Status) → IsCut s → s ≡ Exhausted → ⊥
  cut_not_up s (inl a) is = absurd cc
  cut_not_up s (inr (inl a)) is = absurd cc
  cut_not_up s (inr (inr a)) is = absurd cc

  abbrev pub Came : Type 0
  Came = (read : History) × Becomes read

  cut_off : (read : History) → IsSound c read again.files.disk.files → OnTheWay c read again last → IsCut answered.status → Came
  cut_off read reads images cut = (
    read,
    record {
      reads = reads;
      images = images;
      ends = inr (inr cut);
      done = λ is. absurd (cut_not_done answered.status cut is);
      held_up = λ is. absurd (cut_not_up answered.status cut is);
    },
  )

  -- it said what it did
  by_text : (k : History) (core : CoreState) (s : Said) → IsRestart (first_gate (gates_asked again.gates last.gates)) c k core Settled again.files.disk last.files.disk → SaysRestart c k core s
      → IsTold s.status s.text.items again.output last.output answered.status → Came
  by_text k core s made says told = (
    k,
    record {
      reads = made.kept.sound tells;
      images = images;
      ends = ⊎_elim (λ out. ⊎_elim (λ whole. inl (out.0 ∙ whole.0)) (λ up. inr (inl (out.0 ∙ up.2))) says) (λ failed. inr (inr (inl failed.0))) told;
      done = λ is. ⊎_elim
          (λ out. ⊎_elim
          (λ whole. restored (first_gate (gates_asked again.gates last.gates)) c k core again last made tells whole.1 (subst (Appends again.output.taken last.output.taken) whole.2 out.1) (values is) books)
          (λ up. absurd (let a = out.0 in let b = up.2 in cc))
          says)
          (λ failed. absurd (let a = failed.0 in cc))
          told;
      held_up = λ is. ⊎_elim
          (λ out. ⊎_elim
          (λ whole. absurd (let a = out.0 in let b = whole.0 in cc))
          (λ up. record {
            now = core;
            completing = made.completing;
            process = up.0;
            step = up.1;
            exhausted = up.3;
            books = made.read refl tells;
            kept = made.each refl tells;
            printed = subst (Appends again.output.taken last.output.taken) up.4 out.1;
          })
          says)
          (λ failed. absurd (let a = failed.0 in cc))
          told;
    },
  )
    where
      images : OnTheWay c k again last
      images = restart_images (first_gate (gates_asked again.gates last.gates)) c k core Settled again.files.disk last.files.disk made tells honest

      values : answered.status ≡ Done → HaveValuesOf (λ (b : BoxState). b.values) last.files.disk.files last.boxes
      values is = answered.values asks is (subst (λ b. b ≡ true) (sym answered.left.tells) tells)

  -- files that are sound for a history are on the way to its completed one
  within_itself : (k : History) (files : FileSet) → IsSound c k files → IsWithin c k.events (with_completion k) files
  within_itself k files is = record {
    middle = [];
    last = completion (courses_of k.plans) k.events;
    is = ap (λ es. es ++ completion (courses_of k.plans) k.events) (sym (append-nil k.events));
    sound = subst (λ es. IsSound c (beginning k es) files) (sym (append-nil k.events)) (subst (λ j. IsSound c j files) (whole_beginning c k is.history) is);
  }

  -- what became sound for a history is on the way
  becoming : (d : Catalog) (k : History) → IsSound d k again.files.disk.files → BecomesSound d k again.files.disk last.files.disk
      → IsSound c k again.files.disk.files × OnTheWay c k again last
  becoming d k reads becomes =
      let same : d ≡ c = (one_sound c d g k again.files.disk.files sound reads).0 in
      let reads' : IsSound c k again.files.disk.files = subst (λ x. IsSound x k again.files.disk.files) same reads in (
        reads',
        record {
          has = λ files left. ⊎_elim
              (λ may. inl may)
              (λ since. inr (within_itself k files (subst (λ x. IsSound x k files) same (becomes.each.has files since))))
              (becomes.before files left);
        },
      )

  -- they were not opened
  not_opened : (e : OpenError) (r : Refusal) → r ≡ open_refusal e → AreNotOpened e again.files last.files → IsReplyTold (refused r) again.output last.output answered.status → Came
  not_opened e r is why told = by (why.left tells)
    where
      cut : IsCut answered.status
      cut = told_cut r again.output last.output answered.status
          (⊎_elim (λ fault. inl (is ∙ ap open_refusal fault)) (λ memory. inr (is ∙ ap open_refusal memory)) (opened c g again.files.disk.files e sound (why.due tells))) told

      by : LeftByOpening e again.files.disk last.files.disk → Came
      by (inl (inl same)) = cut_off g sound (record {
        has = λ files left. let from = same.images files left in inl (subst (λ fs. again.files.disk.may_leave fs) (sym from.2) from.1);
      }) cut
      by (inl (inr began)) = let so = becoming began.1.catalog began.1.history began.1.sound began.1.becomes in cut_off began.1.history so.0 so.1 cut
      by (inr settled) = let so = becoming settled.1.catalog settled.1.history settled.1.sound settled.1.becomes in cut_off settled.1.history so.0 so.1 cut

  abbrev gate : AskedGate
  gate = first_gate (gates_asked again.gates last.gates)

  -- a restart of another catalog is of this one
  of_catalog : (d : Catalog) (k : History) (core : CoreState) (on' : Phase) → IsRestart gate d k core on' again.files.disk last.files.disk → d ≡ c
  of_catalog d k core on' made = (one_sound c d g k again.files.disk.files sound (made.kept.sound tells)).0

  cut_on : (k : History) (core : CoreState) (on' : Phase) (r : Refusal) → IsRestart gate c k core on' again.files.disk last.files.disk → (r ≡ refusals.DiskFault) ⊎ (r ≡ refusals.NoMemory)
      → IsReplyTold (refused r) again.output last.output answered.status → Came
  cut_on k core on' r made free told =
      cut_off k (made.kept.sound tells) (restart_images gate c k core on' again.files.disk last.files.disk made tells honest) (told_cut r again.output last.output answered.status free told)

  -- it was cut off
  by_cut : (r : Refusal) → IsRestartCutOff gate again.files last.files r → IsReplyTold (refused r) again.output last.output answered.status → Came
  by_cut r (d, k, core, inl (memory, made)) told =
      cut_on k core Settled r (subst (λ x. IsRestart gate x k core Settled again.files.disk last.files.disk) (of_catalog d k core Settled made) made) (inr memory) told
  by_cut r (d, k, core, inr (fault, made, rose)) told =
      cut_on k core Closed r (subst (λ x. IsRestart gate x k core Closed again.files.disk last.files.disk) (of_catalog d k core Closed made) made) (inl fault) told

  by_said : (s : Said) (d : Catalog) (k : History) (core : CoreState) → IsRestart gate d k core Settled again.files.disk last.files.disk → SaysRestart d k core s
      → IsTold s.status s.text.items again.output last.output answered.status → Came
  by_said s d k core made says told =
      let same = of_catalog d k core Settled made in
      by_text k core s (subst (λ x. IsRestart gate x k core Settled again.files.disk last.files.disk) same made) (subst (λ x. SaysRestart x k core s) same says) told

  by_reply : (reply : Reply) → IsRestartDue gate again.files last.files reply → IsReplyTold reply again.output last.output answered.status → Came
  by_reply (ended s) due told = by_said s due.0 due.1 due.2 due.3 due.4 told
  by_reply (refused r) (inl (e, is, why)) told = not_opened e r is why told
  by_reply (refused r) (inr cut) told = by_cut r cut told
  by_reply (checked ps vs) due told = absurd due
  by_reply created due told = absurd due
  by_reply (served text at) due told = absurd due
  by_reply (shown d k) due told = absurd due
  by_reply accepted due told = absurd due
  by_reply (printed text) due told = absurd due

  pub came_of : Came
  came_of = by_reply answered.reply
      (subst (λ o. IsDueTo o (gates_asked again.gates last.gates) again.input last.input again.files last.files answered.reply) asks answered.due) answered.told

  one_of : (s : Status) → (s ≡ Done) ⊎ (s ≡ Exhausted) ⊎ IsCut s → IsOneOf s (Done ∷ WriteFault ∷ DiskFault ∷ Exhausted ∷ NoMemory ∷ [])
  one_of s (inl done) = inl done
  one_of s (inr (inl up)) = inr (inr (inr (inl up)))
  one_of s (inr (inr (inl write))) = inr (inl write)
  one_of s (inr (inr (inr (inl disk)))) = inr (inr (inl disk))
  one_of s (inr (inr (inr (inr memory)))) = inr (inr (inr (inr (inl memory))))

  true_false : (b : Bool) → b ≡ true → b ≡ false → ⊥
  true_false b one two = absurd cc

  not_up : (read : History) → NothingIsExhausted gate c read → IsHeldUp c read again last → ⊥
  not_up read willing up = true_false (is_exhausted (courses_in up.now) (moment_of up.now) up.process) up.exhausted.exhausted (willing up.now up.process up.completing up.exhausted.turn)

  done_by : (read : History) → Becomes read → NothingIsExhausted gate c read → number ≢ number_of NoMemory → IsOneOf answered.status (Done ∷ Exhausted ∷ NoMemory ∷ []) → answered.status ≡ Done
  done_by read is willing memory (inl done) = done
  done_by read is willing memory (inr (inl up)) = absurd (not_up read willing (is.held_up up))
  done_by read is willing memory (inr (inr (inl none))) = absurd (memory (answered.numbered ∙ ap number_of none))
  done_by read is willing memory (inr (inr (inr none))) = absurd none

  -- what was said at its ends
  pub ended_so : (read : History) → Becomes read → (number ≡ number_of Done → IsCompleted c read again last) × (number ≡ number_of Exhausted → IsHeldUp c read again last)
  ended_so read is = (
    (λ done. is.done (same_status answered.status Done (sym answered.numbered ∙ done))),
    (λ up. is.held_up (same_status answered.status Exhausted (sym answered.numbered ∙ up))),
  )

  -- So it is recovered, where the history that is read may be.
  pub recovered : (h : History) (MayBeAhead : History → Type 0) (now : CoreState) (came : List (ℕ × List Event)) (moment : ℕ) (read : History) → Becomes read
      → IsBeginningOf MayBeAhead now read → HoldsAcknowledged h came moment read → IsRecovered c h MayBeAhead now came moment read words again last number
  recovered h MayBeAhead now came moment read is begins holds = record {
    reads = is.reads;
    begins = begins;
    holds = holds;
    images = is.images;
    status = answered.status;
    numbered = answered.numbered;
    one_of = one_of answered.status is.ends;
    well = λ willing memory quiet. done_by read is willing memory
        ((subst (λ o. DoesItsWork o again.input again.files answered.status) asks (answered.complete quiet)) c g tells sound);
  }
