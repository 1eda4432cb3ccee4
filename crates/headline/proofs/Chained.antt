-- A chain of calls loses nothing, by induction on the calls.
use Rattle.std.proofs.Common.{◌≡◌, ◌⊎◌, ◌∙◌, ℕ, Bool, true, false, List, [], ◌∷◌, ◌++◌, Option, Some, None, inl, inr, ⊎_elim, refl, ap, subst, sym, append-nil, append_assoc}
use Rattle.process_flow.specs.declared.source.Source.{Ghosts as Sources}
use Rattle.process_flow.specs.declared.sink.Sink.{Ghosts as Sinks}
use Rattle.process_disk.specs.declared.rack.Rack.{Ghosts as Racks}
use Rattle.process_disk.specs.Disk.{FileSet, IsHonest, Told}
use Rattle.process_disk.specs.Images.{EachImage}
use Rattle.schedule_model.specs.declared.event.Event.{Event}
use Rattle.schedule_model.specs.declared.history.History.{History}
use Rattle.commute_table.specs.declared.catalog.Catalog.{Catalog}
use Rattle.process_core.specs.Cores.{CoreState}
use Rattle.process_journal.specs.Laws.{IsSameHistory}
use Rattle.history_files.specs.Sound.{IsSound}
use Rattle.engine_steps.specs.Engines.{full_history}
use Rattle.engine_calls.specs.Acknowledged.{acknowledged}
use Rattle.history_opening.specs.Laws.{SoundFilesAreOpened}
use Rattle.process_engine.specs.declared.gates.Gate.{Ghosts as Gates}
use Rattle.resource_box.specs.declared.resource.Resource.{Ghosts as Resources}
use Rattle.command_refusals.specs.declared.status.Status.TheVariants.{Done, Exhausted}
use Rattle.command_refusals.specs.Statuses.{number_of}
use Rattle.program_words.specs.Commands.{asked}
use Rattle.program_words.specs.declared.reading.Command.{Command}
use Rattle.program_words.specs.declared.reading.Command.TheVariants.{Check, Expand, Init, Run, Session, Serve, Restart, Show, Replay, Verify, Audit, Gen, Bulk, Help, Version}
use Rattle.process_top.specs.Worlds.{World}
use Rattle.same_histories.proofs.SameHistories.{one_sound, same_itself, same_through}
use Rattle.headline.proofs.ExactBooks.{LawsOfBooks}
use Rattle.headline.specs.Headline.{IsCompleted, IsHeldUp, IsLeftAlone, MayLeave, Outside, WereLeft, goes_on, was_opened_by}
use Rattle.headline.specs.Chains.{Call, ChainsLoseNothing, Follows, IsCall, IsChain, IsPartOfWhole, MayBeNext, NothingIsLost, acknowledged_with, known_behind, world_of}
use Rattle.headline.proofs.GoodHistories.{machine_at_ends}
use Rattle.headline.proofs.Left.{LeftAs, begins_same, holds_same, left_as}
use Rattle.headline.proofs.Recovered.{came_of, ended_so}
use Rattle.headline.proofs.Whole.{found, stays_told}

-- What is said of one history is said of the same one, wherever its plans lie.
abbrev pub IsOfAnyPlace : (History → Type 0) → Type 0
IsOfAnyPlace MayBe = (k read : History) → IsSameHistory k read → MayBe k → MayBe read

-- a history begins with these events
abbrev pub BeginsWith : List Event → History → Type 0
BeginsWith known k = (more : List Event) × (k.events ≡ known ++ more)

begins_alike : (known : List Event) (k read : History) → IsSameHistory k read → BeginsWith known k → BeginsWith known read
begins_alike known k read same begins = (begins.0, sym same.events ∙ begins.1)

-- What a stop may leave may be so wherever the plans lie,
left_alike : (MayBe MayBeAhead : History → Type 0) (h : History) (now : CoreState) (came : List (ℕ × List Event)) (moment : ℕ) (opened : Bool) → IsOfAnyPlace MayBe
    → IsOfAnyPlace (MayLeave MayBe MayBeAhead h now came moment opened)
left_alike MayBe MayBeAhead h now came moment opened alike k read same (inl (not_yet, may)) = inl (not_yet, alike k read same may)
left_alike MayBe MayBeAhead h now came moment opened alike k read same (inr (begins, holds)) =
    inr (begins_same MayBeAhead now k read same begins, holds_same h came moment k read same holds)

-- and begins with all that is acknowledged then.
left_begins : (MayBe MayBeAhead : History → Type 0) (known : List Event) (h : History) (now : CoreState) (came : List (ℕ × List Event)) (moment : ℕ) (opened : Bool)
    → ((k : History) → MayBe k → BeginsWith known k) → BeginsWith known h → (k : History) → MayLeave MayBe MayBeAhead h now came moment opened k
    → BeginsWith (acknowledged_with known h.events (acknowledged moment came) opened) k
left_begins MayBe MayBeAhead known h now came moment true each begins k (inl (not_yet, may)) = absurd cc
left_begins MayBe MayBeAhead known h now came moment true each begins k (inr so) =
    so.1
left_begins MayBe MayBeAhead known h now came moment false each begins k (inl (not_yet, may)) = each k may
left_begins MayBe MayBeAhead known h now came moment false each begins k (inr so) =
    let rest = acknowledged moment came ++ so.1.0 in
    (begins.0 ++ rest, so.1.1 ∙ (append_assoc h.events (acknowledged moment came) so.1.0 ∙ (ap (λ es. es ++ rest) begins.1 ∙ append_assoc known begins.0 rest)))

-- What a call of the chain finds: files of a history that may be, as are those that a crash at once would leave.
pub record Finds {S K R : Type 0} (c : Catalog) (MayBe : History → Type 0) (before : World S K R) : Type 0 where
  pub told : Told before.files.disk
  pub reads : LeftAs c MayBe before.files.disk.files
  pub images : (files : FileSet) → before.files.disk.may_leave files → LeftAs c MayBe files

module _ {S K R B G : Type 0} (sources : Sources S) (sinks : Sinks K) (racks : Racks R) (resources : Resources B) (workers : Gates G)
    (honest : (rack : R) → Told (racks.disk rack) → IsHonest (racks.disk rack)) (opened : SoundFilesAreOpened) (books : LawsOfBooks) where
  abbrev see : Outside S K R B G → World S K R
  see = world_of sources sinks racks resources workers

  abbrev Part : Catalog → (History → Type 0) → List Event → Call S K R B G → Type 0
  Part = IsPartOfWhole sources sinks racks resources workers

  -- One call.
  module _ (c : Catalog) (MayBe : History → Type 0) (known' : List Event) (x : Call S K R B G) (call : IsCall sources sinks racks resources workers x) (finds : Finds c MayBe (see x.before))
      (alike : IsOfAnyPlace MayBe) (each : (k : History) → MayBe k → BeginsWith known' k) where
    -- what it read, and what was said of it where it is a restart
    record Reading : Type 0 where
      pub read : History
      pub reads : IsSound c read (see x.before).files.disk.files
      pub completed : asked x.words ≡ Some Restart → x.number ≡ number_of Done → IsCompleted c read (see x.before) (see x.after)
      pub held_up : asked x.words ≡ Some Restart → x.number ≡ number_of Exhausted → IsHeldUp c read (see x.before) (see x.after)

    told_after : (read : History) → IsSound c read (see x.before).files.disk.files → Told (racks.disk x.after.rack)
    told_after read sound = stays_told sources sinks racks resources workers honest opened books x.words x.before x.after x.number x.refusal c read call.opens call.answered (record { told = finds.told; reads = sound })

    by_restart : asked x.words ≡ Some Restart → Reading
    by_restart asks =
        let sound = finds.reads.sound in
        let good = honest x.after.rack (told_after finds.reads.history sound) in
        let is = came_of c finds.reads.history x.words (see x.before) (see x.after) x.number asks x.refusal call.answered finds.told sound good opened books in
        let ends = ended_so c finds.reads.history x.words (see x.before) (see x.after) x.number asks x.refusal call.answered finds.told sound good opened books is.0 is.1 in
        record { read = is.0; reads = is.1.reads; completed = λ same. ends.0; held_up = λ same. ends.1 }

    by_other : (asked x.words ≡ Some Restart → ⊥) → Reading
    by_other other = record {
      read = finds.reads.history;
      reads = finds.reads.sound;
      completed = λ same. absurd (other same);
      held_up = λ same. absurd (other same);
    }

    by_command : (o : Option Command) → asked x.words ≡ o → goes_on o ≡ true → Reading
    by_command (Some Restart) is goes = by_restart is
    by_command (Some (Run workers')) is goes = by_other (λ same. absurd (let no = sym is ∙ same in cc))
    by_command (Some Session) is goes = by_other (λ same. absurd (let no = sym is ∙ same in cc))
    by_command (Some Serve) is goes = by_other (λ same. absurd (let no = sym is ∙ same in cc))
    by_command (Some Check) is goes = absurd cc
    by_command (Some Expand) is goes = absurd cc
    by_command (Some (Init values strict)) is goes = absurd cc
    by_command (Some Show) is goes = absurd cc
    by_command (Some Verify) is goes = absurd cc
    by_command (Some Replay) is goes = absurd cc
    by_command (Some (Audit history)) is goes = absurd cc
    by_command (Some (Gen number count)) is goes = absurd cc
    by_command (Some (Bulk number count)) is goes = absurd cc
    by_command (Some (Help about)) is goes = absurd cc
    by_command (Some Version) is goes = absurd cc
    by_command None is goes = absurd cc

    reading : Reading
    reading = by_command (asked x.words) refl call.opens

    pub part_of_whole : Part c MayBe known' x
    part_of_whole =
        let r = reading in
        let same = (one_sound c c finds.reads.history r.read (see x.before).files.disk.files finds.reads.sound r.reads).1 in
        let went = found sources sinks racks resources workers honest opened books x.words x.before x.after x.number x.refusal c r.read call.opens call.answered (record { told = finds.told; reads = r.reads }) in
        let may = alike finds.reads.history r.read same finds.reads.may_be in
        let begins = each r.read may in
        record {
          read = r.read;
          reads = r.reads;
          may_be = may;
          more = begins.0;
          holds = begins.1;
          now = went.0;
          came = went.1;
          went = went.2;
          leaves = went.3;
          whole = machine_at_ends went.0 went.2.machine;
          completed = r.completed;
          held_up = r.held_up;
        }

    -- What it leaves.
    module _ (part : Part c MayBe known' x) where
      abbrev Next : History → Type 0
      Next = MayBeNext sources sinks racks resources workers c MayBe known' x part

      abbrev Alone : Type 0
      Alone = IsLeftAlone part.read part.now part.came (see x.before).files.disk (see x.after).files.disk

      pub next_alike : IsOfAnyPlace Next
      next_alike k read same next = record {
        left = left_alike MayBe _ part.read part.now part.came x.moment (was_opened_by x.moment part.went.kept) alike k read same next.left;
        ended = λ at well. ⊎_elim (λ alone. inl alone) (λ is. inr (same_through (full_history part.now) k read is same)) (next.ended at well);
      }

      pub next_begins : (k : History) → Next k → BeginsWith (known_behind sources sinks racks resources workers c MayBe known' x part) k
      next_begins k next = left_begins MayBe _ known' part.read part.now part.came x.moment (was_opened_by x.moment part.went.kept) each (part.more, part.holds) k next.left

      good_after : IsHonest (see x.after).files.disk
      good_after = honest x.after.rack (told_after part.read part.reads)

      -- at its end the files are those of its machine
      ended_as : (files : FileSet) (k : History) → IsSound c k files → Alone ⊎ EachImage (see x.after).files.disk (see x.after).files.disk.moment (IsSound c (full_history part.now))
          → (see x.after).files.disk.left_since (see x.after).files.disk.moment files → Alone ⊎ IsSameHistory (full_history part.now) k
      ended_as files k sound (inl alone) left = inl alone
      ended_as files k sound (inr all) left = inr (one_sound c c (full_history part.now) k files (all.has files left) sound).1

      left_next : (files : FileSet) → WereLeft (see x.before) (see x.after) x.moment files → LeftAs c Next files
      left_next files left =
          let leaves = left_as (asked x.words) c part.read (see x.before) (see x.after) part.now part.came part.went MayBe good_after finds.images x.moment files left in
          record {
            history = leaves.history;
            sound = leaves.sound;
            may_be = record {
              left = leaves.may_be;
              ended = λ at well. ended_as files leaves.history leaves.sound (part.leaves.kept well) (subst (λ m. (see x.after).files.disk.left_since m files) at left.image);
            };
          }

      pub finds_next : (y : Call S K R B G) → Follows sources sinks racks resources workers x y → Finds c Next (see y.before)
      finds_next y follows = record {
        told = follows.told;
        reads = left_next (see y.before).files.disk.files follows.found;
        images = λ files may. left_next files (follows.images files may);
      }

  -- Call after call.
  in_chain : (c : Catalog) (later : List (Call S K R B G)) (MayBe : History → Type 0) (known' : List Event) (x : Call S K R B G) → IsChain sources sinks racks resources workers x later → Finds c MayBe (see x.before)
      → IsOfAnyPlace MayBe → ((k : History) → MayBe k → BeginsWith known' k) → NothingIsLost sources sinks racks resources workers c MayBe known' x later
  in_chain c [] MayBe known' x call finds alike each = part_of_whole c MayBe known' x call finds alike each
  in_chain c (y ∷ later) MayBe known' x (call, follows, chain) finds alike each =
      let part = part_of_whole c MayBe known' x call finds alike each in (
        part,
        in_chain c later (MayBeNext sources sinks racks resources workers c MayBe known' x part) (known_behind sources sinks racks resources workers c MayBe known' x part) y chain
            (finds_next c MayBe known' x call finds alike each part y follows)
            (next_alike c MayBe known' x call finds alike each part)
            (next_begins c MayBe known' x call finds alike each part),
      )

  pub chains_lose_nothing : ChainsLoseNothing sources sinks racks resources workers
  chains_lose_nothing c h x later chain entry =
      let own : (files : FileSet) → IsSound c h files → LeftAs c (IsSameHistory h) files = λ files sound. record { history = h; sound = sound; may_be = same_itself h } in
      in_chain c later (IsSameHistory h) h.events x chain
      (record { told = entry.told; reads = own (see x.before).files.disk.files entry.created; images = λ files may. own files (entry.images files may) })
      (λ k read same may. same_through h k read may same)
      (λ k may. ([], sym may.events ∙ sym (append-nil h.events)))
