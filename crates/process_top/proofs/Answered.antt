-- What was said on words and told is an answer to them.
use Rattle.std.proofs.Common.{◌≡◌, ◌≤◌, ℕ, List, true, false, Option, Some, None, Result, Ok, Err, IfOk, IfErr, refl, sym, subst, ◌∙◌, inl, inr}
use Rattle.std.specs.Prelude.{⊤}
use Rattle.program_words.specs.declared.reading.Command.{Command}
use Rattle.program_words.specs.declared.reading.Command.TheVariants.{Replay, Restart}
use Rattle.command_refusals.specs.Statuses.{number_of}
use Rattle.command_refusals.specs.declared.status.Status.{Status}
use Rattle.command_refusals.specs.declared.status.Status.TheVariants as statuses
use Rattle.command_refusals.specs.declared.refusal.Refusal.{Refusal}
use Rattle.command_input.specs.declared.said.Said.{Said}
use Rattle.process_disk.specs.Disk.{Told}
use Rattle.restart_run.specs.Boxes.{HaveValuesOf}
use Rattle.replay_run.specs.Replay.{HaveValuesOfFile}
use Rattle.serve_run.specs.declared.command.Ending.{Ending}
use Rattle.serve_run.specs.declared.command.Ending.TheVariants as endings
use Rattle.serve_run.specs.Dialogue.{Dialogue, IsDialogueTold}
use Rattle.serve_run.specs.Serve.{OnEnding}
use Rattle.process_top.specs.Worlds.{BoxState, World}
use Rattle.history_files.specs.Boxes.{AreBoxes}
use Rattle.command_input.specs.FilesLeft.{AreLeft}
use Rattle.process_top.specs.Replies.{Reply, checked, created, ended, served, shown, accepted, printed, refused, is_said, refused_of, status_of, text_of, IsReplyTold}
use Rattle.process_top.specs.Told.{Output, IsRefusalTold, IsTold}
use Rattle.process_top.specs.Said.{refused_at, EndsBy, Says, HasWorked, IsResultTold}
use Rattle.process_top.specs.Run.{gates_asked}
use Rattle.process_top.specs.Commands.{comes_first, is_early, is_verdict, AnswersTo, AreOthersAsBefore, IsDueTo, needs}
use Rattle.process_top.specs.Values.{ListsAreOfValues}
use Rattle.process_top.proofs.Complete.{Worked, done_or_wanting, worked_due, worked_held}
use Rattle.process_top.proofs.DueValues.{due_tells}
use Rattle.process_top.proofs.EarlyStatuses.{early_status_leaves}
use Rattle.process_top.proofs.RefusedStatuses.{refused_undone}

-- the one status of verdicts
verdict_is : (s : Status) → is_verdict s ≡ true → s ≡ statuses.IllFormed
verdict_is statuses.Done is = absurd (cc)
verdict_is statuses.BadWords is = absurd (cc)
verdict_is statuses.BadInput is = absurd (cc)
verdict_is statuses.IllFormed is = refl
verdict_is statuses.Limit is = absurd (cc)
verdict_is statuses.Unfinished is = absurd (cc)
verdict_is statuses.BadFile is = absurd (cc)
verdict_is statuses.BookDiffers is = absurd (cc)
verdict_is statuses.ReadFault is = absurd (cc)
verdict_is statuses.WriteFault is = absurd (cc)
verdict_is statuses.DiskFault is = absurd (cc)
verdict_is statuses.Exhausted is = absurd (cc)
verdict_is statuses.NotReduced is = absurd (cc)
verdict_is statuses.NoMemory is = absurd (cc)

-- a reply that is no refusal was told as its text and its status
said_told : (reply : Reply) (said : Said) (old new : Output) (at : Status) → is_said reply ≡ true → said.text.items ≡ text_of reply → said.status ≡ status_of reply
    → IsTold said.status said.text.items old new at → IsReplyTold reply old new at
said_told reply said old new at isnt text status told = by_reply reply isnt
    (subst (λ (t : List ℕ). IsTold (status_of reply) t old new at) text (subst (λ (s : Status). IsTold s said.text.items old new at) status told))
  where
    by_reply : (reply : Reply) → is_said reply ≡ true → IsTold (status_of reply) (text_of reply) old new at → IsReplyTold reply old new at
    by_reply (checked ps vs) isnt told = told
    by_reply created isnt told = told
    by_reply (ended s) isnt told = told
    by_reply (served d status) isnt told = absurd (cc)
    by_reply (shown c h) isnt told = told
    by_reply accepted isnt told = told
    by_reply (printed text) isnt told = told
    by_reply (refused r) isnt told = absurd (cc)

-- and refuses nothing
none_refused : (reply : Reply) → is_said reply ≡ true → refused_of reply ≡ None
none_refused (checked ps vs) isnt = refl
none_refused created isnt = refl
none_refused (ended s) isnt = refl
none_refused (served d status) isnt = refl
none_refused (shown c h) isnt = refl
none_refused accepted isnt = refl
none_refused (printed text) isnt = refl
none_refused (refused r) isnt = absurd (cc)

module _ {S K R : Type 0} (law : ListsAreOfValues) (o : Option Command) (before after : World S K R) (number : ℕ) (refusal : Option Refusal) (at : Status) (numbered : number ≡ number_of at) (left : AreLeft before.files after.files)
    (boxes : AreBoxes (λ b. b.kind) after.boxes) (kept : (needs o).boxes ≡ false → after.boxes ≡ before.boxes) (gates : AreOthersAsBefore (needs o).gates before.gates after.gates)
    (unasked : (needs o).gate ≡ false → after.gates ≡ before.gates) (untouched : (needs o).files ≡ false → after.rack ≡ before.rack)
    (unread : (needs o).input ≡ false → after.source ≡ before.source) where
  -- what a restart leaves in the boxes, at the status of one that did its work
  abbrev HaveBookValues : Type 0
  HaveBookValues = o ≡ Some Restart → at ≡ statuses.Done → Told after.files.disk → HaveValuesOf (λ (b : BoxState). b.values) after.files.disk.files after.boxes

  -- and what a replay leaves there
  abbrev HaveReplayedValues : Type 0
  HaveReplayedValues = o ≡ Some Replay → at ≡ statuses.Done → HaveValuesOfFile (λ (b : BoxState). b.values) before.files after.files after.boxes

  -- a reply that was due and told
  answered_by : (reply : Reply) → IsDueTo o (gates_asked before.gates after.gates) before.input after.input before.files after.files reply → IsReplyTold reply before.output after.output at
      → refusal ≡ refused_of reply → Worked o before after at → (is_early o reply ≡ true → after.rack ≡ before.rack) → HaveBookValues → HaveReplayedValues → AnswersTo o before after number refusal
  answered_by reply due told refuses worked early values replayed = record {
    status = at;
    numbered = numbered;
    reply = reply;
    due = due;
    told = told;
    refused = refuses;
    complete = λ quiet. done_or_wanting o (gates_asked before.gates after.gates) before after at reply due told worked quiet;
    left = left;
    boxes = boxes;
    kept = kept;
    values = values;
    replayed = replayed;
    listed = due_tells law o (gates_asked before.gates after.gates) before.input after.input before.files after.files reply due;
    gates = gates;
    unasked = unasked;
    untouched = untouched;
    unread = unread;
    early = early;
    early_status = λ is. early_status_leaves before after o (gates_asked before.gates after.gates) reply at due told untouched early is;
  }

  said_early : (reply : Reply) (s : Status) → is_said reply ≡ true → s ≡ status_of reply → (s ≡ statuses.IllFormed → after.rack ≡ before.rack) → is_early o reply ≡ true → after.rack ≡ before.rack
  said_early (checked ps vs) s isnt is same early = absurd (cc)
  said_early created s isnt is same early = absurd (cc)
  said_early (ended said) s isnt is same early = same (is ∙ verdict_is said.status early)
  said_early (served d status) s isnt is same early = absurd (cc)
  said_early (shown c h) s isnt is same early = absurd (cc)
  said_early accepted s isnt is same early = absurd (cc)
  said_early (printed text) s isnt is same early = absurd (cc)
  said_early (refused r) s isnt is same early = absurd (cc)

  -- what is refused isn't told at that status
  never_done : (r : Refusal) → IsRefusalTold r before.output after.output at → at ≡ statuses.Done → ⊥
  never_done r (inl (inl told)) is = refused_undone r (sym told.0 ∙ is)
  never_done r (inl (inr failed)) is = absurd (let write = failed.0 in cc)
  never_done r (inr (needs, inl told)) is = absurd (let memory = told.0 in cc)
  never_done r (inr (needs, inr failed)) is = absurd (let write = failed.0 in cc)

  -- and what is said is told at its own
  said_done : (said : Said) → IsTold said.status said.text.items before.output after.output at → at ≡ statuses.Done → said.status ≡ statuses.Done
  said_done said (inl told) is = sym told.0 ∙ is
  said_done said (inr failed) is = absurd (let write = failed.0 in cc)

  abbrev IsDue : Reply → Type 0
  IsDue = IsDueTo o (gates_asked before.gates after.gates) before.input after.input before.files after.files

  abbrev HaveBookValuesAt : Said → Type 0
  HaveBookValuesAt s = s.status ≡ statuses.Done → Told after.files.disk → HaveValuesOf (λ (b : BoxState). b.values) after.files.disk.files after.boxes

  abbrev HaveReplayedValuesAt : Said → Type 0
  HaveReplayedValuesAt s = s.status ≡ statuses.Done → HaveValuesOfFile (λ (b : BoxState). b.values) before.files after.files after.boxes

  abbrev WorkedTo : Output → Ending → Type 0
  WorkedTo out ending = HasWorked o before.input after.input before.files after.files before.output out ending

  -- what a command found, said and told
  pub result_is_answered : (result : Result Said Refusal) → Says IsDue result → IsResultTold result before.output after.output at → refusal ≡ refused_at (endings.Due result) → before.output.faults ≤ after.output.faults
      → WorkedTo before.output (endings.Due result) → IfErr result (λ r. comes_first o r ≡ true → after.rack ≡ before.rack)
      → IfOk result (λ s. s.status ≡ statuses.IllFormed → after.rack ≡ before.rack) → (o ≡ Some Restart → IfOk result HaveBookValuesAt) → (o ≡ Some Replay → IfOk result HaveReplayedValuesAt) → AnswersTo o before after number refusal
  result_is_answered (Ok said) says told refuses later has early verdict values replayed =
      answered_by says.0 says.2 (said_told says.0 said before.output after.output at says.1 says.3 says.4 told) (refuses ∙ sym (none_refused says.0 says.1)) (worked_due o before after (Ok said) at has told later)
      (said_early says.0 said.status says.1 says.4 verdict) (λ asks is known. values asks (said_done said told is) known) (λ asks is. replayed asks (said_done said told is))
  result_is_answered (Err r) says told refuses later has early verdict values replayed =
      answered_by (refused r) says told refuses (worked_due o before after (Err r) at has told later) early (λ asks is known. absurd (never_done r told is)) (λ asks is. absurd (never_done r told is))

  -- a dialogue that was held and told
  held_is_answered : (d : Dialogue) (status : Status) → IsDue (served d status) → IsDialogueTold d status before.output after.output at → refusal ≡ None → WorkedTo after.output (endings.Told at)
      → ¬ o ≡ Some Restart → ¬ o ≡ Some Replay → AnswersTo o before after number refusal
  held_is_answered d status due told refuses has none no_replay =
      answered_by (served d status) due told refuses (worked_held o before after d status at due has) (λ early. absurd cc) (λ asks is known. absurd (none asks)) (λ asks is. absurd (no_replay asks))

  -- what a command came to, and what was told of it then
  pub ending_is_answered : (out : Output) (ending : Ending) → EndsBy IsDue before.output out ending
      → OnEnding (λ s. (at ≡ s) × (after.output ≡ out)) (λ found. IsResultTold found out after.output at) ending → refusal ≡ refused_at ending → out.faults ≤ after.output.faults → WorkedTo out ending
      → OnEnding (λ _. ⊤) (λ found. IfErr found (λ r. comes_first o r ≡ true → after.rack ≡ before.rack)) ending
      → OnEnding (λ _. ⊤) (λ found. IfOk found (λ s. s.status ≡ statuses.IllFormed → after.rack ≡ before.rack)) ending
      → (o ≡ Some Restart → OnEnding (λ _. ⊥) (λ found. IfOk found HaveBookValuesAt) ending)
      → (o ≡ Some Replay → OnEnding (λ _. ⊥) (λ found. IfOk found HaveReplayedValuesAt) ending) → AnswersTo o before after number refusal
  ending_is_answered out (endings.Told s) (d, status, due, said) told refuses later has early verdict values replayed =
      let same : s ≡ at = sym told.0 in
      let put : out ≡ after.output = sym told.1 in
      held_is_answered d status due (subst (λ (x : Status). IsDialogueTold d status before.output after.output x) same (subst (λ (o : Output). IsDialogueTold d status before.output o s) put said))
      refuses
      (subst (λ (x : Status). WorkedTo after.output (endings.Told x)) same (subst (λ (o : Output). WorkedTo o (endings.Told s)) put has)) values replayed
  ending_is_answered out (endings.Due found) (says, none) told refuses later has early verdict values replayed =
      result_is_answered found says (subst (λ (o : Output). IsResultTold found o after.output at) none told) refuses (subst (λ (o : Output). o.faults ≤ after.output.faults) none later)
      (subst (λ (o : Output). WorkedTo o (endings.Due found)) none has) early verdict values replayed

-- what holds of what is still to be told, and so of what this makes of it
pub due_so : {P Q : Result Said Refusal → Type 0} → ((found : Result Said Refusal) → P found → Q found) → (ending : Ending) → OnEnding (λ _. ⊥) P ending → OnEnding (λ _. ⊥) Q ending
due_so so (endings.Told status) has = has
due_so so (endings.Due found) has = so found has

-- what is answered to one is answered to the same
pub answers_as : {S K R : Type 0} (o p : Option Command) (before after : World S K R) (number : ℕ) (refusal : Option Refusal) → p ≡ o → AnswersTo o before after number refusal → AnswersTo p before after number refusal
answers_as o p before after number refusal same answered = subst (λ q. AnswersTo q before after number refusal) (sym same) answered
