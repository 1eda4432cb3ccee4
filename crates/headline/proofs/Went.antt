-- What a call that goes on with an engine did to the files, whatever it came to: it was refused, or its engine went on.
use Rattle.std.proofs.Common.{◌≡◌, ◌⊎◌, ◌∙◌, ◌≤◌, ℕ, true, List, [], ◌∷◌, ◌++◌, Option, filter, leb, inl, inr, refl, ap, subst, sym, append-nil, if◌then◌else◌}
use Rattle.std.proofs.lemmas.Bool.{le-leb}
use Rattle.std.proofs.lemmas.List.{append_cancel_left}
use Rattle.process_disk.specs.Disk.{Disk, FileSet, IsHonest, Told}
use Rattle.process_disk.specs.Images.{EachImage}
use Rattle.schedule_model.specs.declared.event.Event.{Event}
use Rattle.schedule_model.specs.declared.history.History.{History}
use Rattle.commute_table.specs.declared.catalog.Catalog.{Catalog}
use Rattle.process_core.specs.Cores.{CoreState, IsCore, opened_on}
use Rattle.process_journal.specs.Laws.{IsSameHistory, beginning}
use Rattle.history_files.specs.Sound.{IsSound}
use Rattle.history_opening.specs.Images.{BecomesSound}
use Rattle.history_opening.specs.declared.faults.OpenError.{OpenError}
use Rattle.history_opening.specs.declared.faults.OpenError.TheVariants.{DiskFault}
use Rattle.engine_steps.specs.Engines.{full_history}
use Rattle.engine_steps.specs.Opening.{LeftByOpening}
use Rattle.engine_steps.specs.declared.engines.Phase.{Phase}
use Rattle.engine_steps.specs.declared.engines.Phase.TheVariants.{Settled}
use Rattle.engine_steps.proofs.OpenedEngine.{core_of_history}
use Rattle.engine_calls.proofs.Acknowledged.{in_turn_so}
use Rattle.engine_calls.proofs.Beginnings.{is_beginning}
use Rattle.engine_calls.specs.Acknowledged.{ComeInTurn, acknowledged, events_of}
use Rattle.engine_calls.specs.Opened.{AreKept, AreOnlyOpened}
use Rattle.command_refusals.specs.Statuses.{number_of}
use Rattle.command_refusals.specs.declared.refusal.Refusal.{Refusal}
use Rattle.command_refusals.specs.declared.status.Status.{Status}
use Rattle.program_words.specs.declared.reading.Command.{Command}
use Rattle.command_input.specs.FilesLeft.{AreUntouched}
use Rattle.scenario_run.specs.Opening.{AreNotOpened, IsNotOpenedFor, IsNotOpenedWith, open_refusal}
use Rattle.scenario_run.proofs.OpeningParts.{for_in_parts, with_in_parts, IsRefusedIdle, IsRefusedWith}
use Rattle.process_top.specs.Run.{gates_asked}
use Rattle.process_top.specs.Told.{IsRefusalTold}
use Rattle.process_top.specs.Worlds.{World}
use Rattle.headline.specs.Headline.{CameBy, FailsInDialogue, IsAhead, IsLeftAlone, IsRackFault, LeavesFiles, ReadsAs, WentOn, is_refused_beforehand}
use Rattle.headline.proofs.Exits.{refused_fault}
use Rattle.same_histories.proofs.SameHistories.{one_sound, same_itself}
use Rattle.headline.proofs.GoodHistories.{whole_beginning}

-- where two lists are nothing so is the first
first_empty : (es more : List Event) → es ++ more ≡ [] → es ≡ []
first_empty [] more is = refl
first_empty (e ∷ es) more is = absurd cc

-- groups that add nothing to events are none
none_came : (c : Catalog) (h : History) (IsAhead : FileSet → Type 0) (disk : Disk) (there : List Event) (t : ℕ) (came : List (ℕ × List Event)) → ComeInTurn c h IsAhead disk there t came
    → (es : List Event) → es ≡ es ++ events_of came → came ≡ []
none_came c h IsAhead disk there t [] turn es is = refl
none_came c h IsAhead disk there t (e ∷ came) turn es is =
    absurd (turn.0 (first_empty e.1 (events_of came) (append_cancel_left es (e.1 ++ events_of came) [] (sym is ∙ sym (append-nil es)))))

-- by the last moment all that came in turn is acknowledged
all_by : (m : ℕ) (e : ℕ × List Event) (came : List (ℕ × List Event)) → e.0 ≤ m → acknowledged m came ≡ events_of came → acknowledged m (e ∷ came) ≡ events_of (e ∷ came)
all_by m e came low all =
    ap (λ b. events_of (if b then e ∷ filter (λ e. leb e.0 m) came else filter (λ e. leb e.0 m) came)) (le-leb e.0 m low) ∙ ap (λ es. e.1 ++ es) all

pub all_came : (c : Catalog) (h : History) (IsAhead : FileSet → Type 0) (disk : Disk) (there : List Event) (t : ℕ) (came : List (ℕ × List Event)) → ComeInTurn c h IsAhead disk there t came
    → acknowledged disk.moment came ≡ events_of came
all_came c h IsAhead disk there t [] turn = refl
all_came c h IsAhead disk there t (e ∷ came) turn = all_by disk.moment e came turn.1.by_now (all_came c h IsAhead disk (there ++ e.1) e.0 came turn.2)

module _ {S K R : Type 0} (o : Option Command) (c : Catalog) (h : History) (before after : World S K R) (entry : ReadsAs c h before.files.disk)
    (number : ℕ) (status : Status) (numbered : number ≡ number_of status) (known : Told after.files.disk) (honest : IsHonest after.files.disk) where
  abbrev pub Went : Type 0
  Went = (now : CoreState) × (came : List (ℕ × List Event)) × WentOn o c h before after now came × LeavesFiles o c h before after number now came

  -- unless the rack failed, the files are sound for a history, and so is whatever a crash leaves from now on
  abbrev pub Stay : Catalog → History → Type 0
  Stay d k = ¬ IsRackFault status before after → IsSound d k after.files.disk.files × EachImage after.files.disk after.files.disk.moment (IsSound d k)

  abbrev pub NoneBeforehand : List (ℕ × List Event) → Type 0
  NoneBeforehand came = is_refused_beforehand status ≡ true → ¬ FailsInDialogue o status → came ≡ []

  abbrev Alone : CoreState → List (ℕ × List Event) → Type 0
  Alone now came = IsLeftAlone h now came before.files.disk after.files.disk

  leaves : (now : CoreState) (came : List (ℕ × List Event)) → NoneBeforehand came → acknowledged after.files.disk.moment came ≡ events_of came
      → (¬ IsRackFault status before after → Alone now came ⊎ EachImage after.files.disk after.files.disk.moment (IsSound c (full_history now)))
      → LeavesFiles o c h before after number now came
  leaves now came none all stay = record { status = status; numbered = numbered; nothing = none; all = all; kept = stay }

  told : Told before.files.disk
  told = entry.told

  -- the files were opened on their history, and nothing came
  only_opened : (k : History) → IsSameHistory h k → IsSound c k before.files.disk.files → (moment : ℕ) → before.files.disk.moment ≤ moment → moment ≤ after.files.disk.moment
      → ((files : FileSet) → after.files.disk.left_since before.files.disk.moment files → before.files.disk.may_leave files ⊎ after.files.disk.left_since moment files)
      → ((files : FileSet) → after.files.disk.left_since moment files → IsSound c k files) → Stay c k → Went
  only_opened k same sound moment begun by_now first each stay = (
    opened_on c.conflicts k.plans k.events,
    [],
    record {
      opened = k;
      same = same;
      machine = core_of_history c k sound.history;
      begins = whole_beginning c k sound.history;
      by = inl refl;
      events = sym same.events ∙ sym (append-nil h.events);
      kept = inr (record {
        moment = moment;
        begun = begun;
        by_now = by_now;
        before = first;
        since = record {
          has = λ files left. inl (subst (λ es. IsSound c (beginning k es) files) (sym same.events)
              (subst (λ j. IsSound c j files) (whole_beginning c k sound.history) (each files left)));
        };
      });
    },
    leaves (opened_on c.conflicts k.plans k.events) [] (λ early reads. refl) refl (λ well. inr (stay well).1),
  )

  -- the files were left alone
  pub untouched : AreUntouched before.files after.files → Went
  untouched left =
      let alone : Alone (opened_on c.conflicts h.plans h.events) [] = record { nothing = refl; still = refl; as_before = left told } in (
        opened_on c.conflicts h.plans h.events,
        [],
        record {
          opened = h;
          same = same_itself h;
          machine = core_of_history c h entry.reads.history;
          begins = whole_beginning c h entry.reads.history;
          by = inl refl;
          events = sym (append-nil h.events);
          kept = inl alone;
        },
        leaves (opened_on c.conflicts h.plans h.events) [] (λ early reads. refl) refl (λ well. inl alone),
      )

  becoming : (d : Catalog) (k : History) → IsSound d k before.files.disk.files → BecomesSound d k before.files.disk after.files.disk → Stay d k → Went
  becoming d k sound becomes stay =
      let one = one_sound c d h k before.files.disk.files entry.reads sound in
      only_opened k one.1 (subst (λ x. IsSound x k before.files.disk.files) one.0 sound) becomes.moment becomes.begun becomes.by_now becomes.before
      (λ files is. subst (λ x. IsSound x k files) one.0 (becomes.each.has files is))
      (subst (λ x. Stay x k) one.0 stay)

  by_left : (e : OpenError) → (e ≡ DiskFault → IsRackFault status before after) → LeftByOpening e before.files.disk after.files.disk → Went
  by_left e fails (inl (inl same)) = untouched (λ known. same)
  by_left e fails (inl (inr began)) = becoming began.1.catalog began.1.history began.1.sound began.1.becomes (λ well. absurd (well (fails began.0)))
  by_left e fails (inr settled) = becoming settled.1.catalog settled.1.history settled.1.sound settled.1.becomes (λ well. (settled.1.now, settled.1.each))

  -- they were not opened
  pub not_opened : (e : OpenError) (r : Refusal) → r ≡ open_refusal e → AreNotOpened e before.files after.files → IsRefusalTold r before.output after.output status → Went
  not_opened e r is why out = by_left e (λ disk. refused_fault before after r status (is ∙ ap open_refusal disk) (why.fault disk) out) (why.left told)

  -- or not for the scenario, where somebody may be active,
  pub not_opened_with : (d : Catalog) (r : Refusal) → IsNotOpenedWith d r before.files after.files → IsRefusalTold r before.output after.output status → Went
  not_opened_with d r refused out = by_part (with_in_parts d r before.files after.files refused)
    where
      by_part : IsRefusedWith d r before.files after.files → Went
      by_part (inl (e, is, why)) = not_opened e r is why out
      by_part (inr (own, k, opened, other)) = becoming own k (opened.sound told) (opened.becomes told) (λ well. (opened.now told, opened.each told))

  -- or where nobody may
  pub not_opened_for : (d : Catalog) (r : Refusal) → IsNotOpenedFor d r before.files after.files → IsRefusalTold r before.output after.output status → Went
  not_opened_for d r refused out = by_part (for_in_parts d r before.files after.files refused)
    where
      by_part : IsRefusedIdle d r before.files after.files → Went
      by_part (inl (e, is, why)) = not_opened e r is why out
      by_part (inr (own, k, opened, unfit)) = becoming own k (opened.sound told) (opened.becomes told) (λ well. (opened.now told, opened.each told))

  -- the engine went on
  pub kept : (d : Catalog) (k : History) (now : CoreState) (Ahead : FileSet → Type 0) (on : Phase) → (are : AreKept d k now Ahead on before.files.disk after.files.disk) → IsCore now
      → (now ≡ opened_on d.conflicts k.plans k.events) ⊎ CameBy o (gates_asked before.gates after.gates) before.input after.input d k now
      → ((files : FileSet) → Ahead files → (j : History) × IsAhead o before.input after.input d k now j × IsSound d j files)
      → (¬ IsRackFault status before after → on ≡ Settled) → NoneBeforehand are.came → Went
  kept d k now Ahead on are core by so settles none =
      let sound = are.sound told in
      let one = one_sound c d h k before.files.disk.files entry.reads sound in
      let turns = are.in_turn told in
      let came_so : ComeInTurn d (full_history now) (λ files. (j : History) × IsAhead o before.input after.input d k now j × IsSound d j files) after.files.disk h.events turns.moment are.came =
      in_turn_so d (full_history now) Ahead (λ files. (j : History) × IsAhead o before.input after.input d k now j × IsSound d j files) after.files.disk so are.came h.events turns.moment
      (subst (λ es. ComeInTurn d (full_history now) Ahead after.files.disk es turns.moment are.came) (sym one.1.events) turns.since) in
      let all = all_came d (full_history now) (λ files. (j : History) × IsAhead o before.input after.input d k now j × IsSound d j files) after.files.disk h.events turns.moment are.came came_so in
      let went : WentOn o d h before after now are.came = record {
        opened = k;
        same = one.1;
        machine = core;
        begins = is_beginning k (full_history now) sound.history.one_each (record { events = events_of are.came; is = are.events; plans = are.started; are = are.plans });
        by = by;
        events = are.events ∙ ap (λ es. es ++ events_of are.came) (sym one.1.events);
        kept = inr (record {
          moment = turns.moment;
          begun = turns.begun;
          by_now = turns.by_now;
          before = turns.before;
          since = came_so;
        });
      } in
      let stay : Stay d (full_history now) = λ well. (are.read (settles well) told, are.each (settles well) told) in
      (now, are.came, subst (λ x. WentOn o x h before after now are.came) one.0 went, leaves now are.came none all (λ well. inr (subst (λ x. Stay x (full_history now)) one.0 stay well).1))

  -- nothing came
  pub nothing : (d : Catalog) (k : History) → AreOnlyOpened d k before.files.disk after.files.disk → Went
  nothing d k are =
      kept d k (opened_on d.conflicts k.plans k.events) (λ files. ⊥) Settled are (core_of_history d k (are.sound told).history) (inl refl) (λ files none. absurd none)
      (λ well. refl) (λ early reads. none_came d (full_history (opened_on d.conflicts k.plans k.events)) (λ files. ⊥) after.files.disk k.events (are.in_turn told).moment are.came (are.in_turn told).since k.events are.events)
