-- What each command that goes on did to the files.
use Rattle.std.proofs.Common.{◌≡◌, ◌⊎◌, ◌∙◌, ℕ, true, false, List, [], ◌++◌, Option, Some, None, Ok, Err, inl, inr, refl, ap, subst, sym, append-nil}
use Rattle.process_disk.specs.Disk.{IsHonest, Told}
use Rattle.process_tree.specs.declared.plan.Plan.{Plan}
use Rattle.schedule_model.specs.declared.history.History.{History}
use Rattle.commute_table.specs.declared.catalog.Catalog.{Catalog}
use Rattle.process_core.specs.Cores.{CoreState, opened_on}
use Rattle.engine_steps.specs.declared.engines.Phase.{Phase}
use Rattle.engine_steps.specs.declared.engines.Phase.TheVariants.{Settled, Closed}
use Rattle.engine_calls.specs.Acknowledged.{IsOneAhead}
use Rattle.worker_gate.specs.ManyGates.{AskedGates}
use Rattle.session_text.specs.declared.line.Line.{Line}
use Rattle.command_refusals.specs.Statuses.{number_of}
use Rattle.command_refusals.specs.declared.status.Status.{Status}
use Rattle.command_refusals.specs.declared.status.Status.TheVariants as statuses
use Rattle.program_words.specs.declared.reading.Command.{Command}
use Rattle.program_words.specs.declared.reading.Command.TheVariants.{Check, Expand, Init, Run, Session, Serve, Restart, Show, Replay, Verify, Audit, Gen, Bulk, Help, Version}
use Rattle.command_input.specs.declared.said.Said.{Said}
use Rattle.command_refusals.specs.declared.refusal.Refusal.{Refusal}
use Rattle.scenario_run.specs.Opening.{IsNotOpenedFor}
use Rattle.scenario_run.specs.Run.{IsPastLimit, IsRun, IsRunOf, IsRunDue as IsRunFound, SaysRun}
use Rattle.scenario_run.specs.Scenario.{IsScenarioRead}
use Rattle.session_run.specs.Playthrough.{EndsAt}
use Rattle.session_run.specs.Session.{IsPlayedOn, IsSession, IsSessionDue as IsSessionFound, IsSessionRead, phase_by}
use Rattle.serve_run.specs.Dialogue.{Dialogue, EndsWith, IsDialogueTold, number_behind}
use Rattle.serve_run.specs.Dialogue.{phase_by as dialogue_phase}
use Rattle.serve_run.specs.Serve.{IsNotServed, IsNotServedOn, IsServeRead, IsServeTold, IsServed, IsSpoken}
use Rattle.driver_answers.specs.Serving.{DriverState}
use Rattle.process_restart.specs.Completing.{IsNextOfCompletion}
use Rattle.process_restart.specs.Restarting.{IsRestart}
use Rattle.restart_run.specs.Restart.{SaysRestart}
use Rattle.process_top.specs.Commands.{IsDueTo}
use Rattle.process_top.specs.Replies.{Reply, checked, created, ended, served, shown, accepted, printed, refused, IsReplyTold}
use Rattle.process_top.specs.Restart.{IsRestartDue}
use Rattle.process_top.specs.Run.{IsRunDue, first_gate, first_gates, gates_asked}
use Rattle.process_top.specs.Said.{IsResultTold}
use Rattle.process_top.specs.Serve.{IsServeDue}
use Rattle.process_top.specs.Session.{IsSessionDue}
use Rattle.process_top.specs.Told.{IsRefusalTold, IsTold}
use Rattle.process_top.specs.Worlds.{World}
use Rattle.headline.specs.Headline.{FailsInDialogue, IsRackFault, ReadsAs, goes_on, is_refused_beforehand}
use Rattle.headline.proofs.Exits.{cut_late, failed_late, refused_fault, said_fault, said_late, told_cut}
use Rattle.headline.proofs.Went.{Went, kept, nothing, not_opened, not_opened_for, not_opened_with, untouched}
use Rattle.scenario_run.proofs.OpeningParts.{idle_or_room}
use Rattle.scenario_run.proofs.RunParts as run_parts
use Rattle.session_run.proofs.SessionParts as session_parts
use Rattle.serve_run.proofs.ServeParts as serve_parts

module _ {S K R : Type 0} (c : Catalog) (h : History) (before after : World S K R) (entry : ReadsAs c h before.files.disk)
    (number : ℕ) (status : Status) (numbered : number ≡ number_of status) (known : Told after.files.disk) (honest : IsHonest after.files.disk) where
  abbrev gates : AskedGates
  gates = gates_asked before.gates after.gates

  abbrev Of : Command → Type 0
  Of command = Went (Some command) c h before after entry number status numbered known honest

  abbrev IsLate : Type 0
  IsLate = is_refused_beforehand status ≡ true → ⊥

  abbrev Settles : Phase → Type 0
  Settles on = ¬ IsRackFault status before after → on ≡ Settled

  -- `run`,
  module _ (workers : ℕ) where
    run_on : (d : Catalog) (plans : List Plan) → IsScenarioRead before.input after.input d plans → (k : History) (started rest : List Plan) (now : CoreState) (on : Phase) → plans ≡ started ++ rest
        → IsRun (first_gates workers gates) d k plans started now on before.files after.files → Settles on → IsLate → Of (Run workers)
    run_on d plans read k started rest now on are run settles late =
        kept (Some (Run workers)) c h before after entry number status numbered known honest d k now (IsOneAhead d plans now on) on run.1 run.0.run.machine (inr (plans, started, rest, read, are, run.0))
        (λ files ahead. (ahead.1.0, (plans, read, ahead.1.1), ahead.1.2)) settles (λ early reads. absurd (late early))

    run_late : (d : Catalog) (now : CoreState) (s : Said) → SaysRun d now s → IsTold s.status s.text.items before.output after.output status → IsLate
    run_late d now s (inl all) out = said_late s.status status before.output after.output s.text.items out (ap is_refused_beforehand all.0)
    run_late d now s (inr stuck) out = said_late s.status status before.output after.output s.text.items out (ap is_refused_beforehand stuck.1)

    run_of : (d : Catalog) (plans : List Plan) → IsScenarioRead before.input after.input d plans → (found : _) → IsRunOf (first_gates workers gates) d plans before.files after.files found
        → IsResultTold found before.output after.output status → Of (Run workers)
    run_of d plans read (Ok s) (k, now, run, says) out = run_on d plans read k plans [] now Settled (sym (append-nil plans)) run (λ well. refl) (run_late d now s says out)
    run_of d plans read (Err r) (k, started, rest, now, are, inl (memory, run)) out =
        run_on d plans read k started rest now Settled are run (λ well. refl) (cut_late status (told_cut r before.output after.output status (inr memory) out))
    run_of d plans read (Err r) (k, started, rest, now, are, inr (fault, run, rose)) out =
        run_on d plans read k started rest now Closed are run (λ well. absurd (well (refused_fault before after r status fault rose out)))
        (cut_late status (told_cut r before.output after.output status (inl fault) out))

    refused_on : (d : Catalog) (plans : List Plan) (r : Refusal) → IsNotOpenedFor d r before.files after.files ⊎ ((k : History) × IsPastLimit d k plans before.files after.files r)
        → IsRefusalTold r before.output after.output status → Of (Run workers)
    refused_on d plans r (inl closed) out = not_opened_for (Some (Run workers)) c h before after entry number status numbered known honest d r closed out
    refused_on d plans r (inr (k, past)) out = nothing (Some (Run workers)) c h before after entry number status numbered known honest d k past.3

    run_part : (found : _) → run_parts.IsNotRead before.input after.input before.files after.files (first_gates workers gates) found ⊎ run_parts.IsReadAndRun before.input after.input before.files after.files (first_gates workers gates) found
        → IsResultTold found before.output after.output status → Of (Run workers)
    run_part found (inl none) out = untouched (Some (Run workers)) c h before after entry number status numbered known honest none.1
    run_part (Ok s) (inr (d, plans, read, inl none)) out = absurd none
    run_part (Err r) (inr (d, plans, read, inl why)) out = refused_on d plans r (idle_or_room d r before.files after.files plans why.0) out
    run_part found (inr (d, plans, read, inr run)) out = run_of d plans read found run out

    run_found : (found : _) → IsRunFound (first_gates workers gates) before.input after.input before.files after.files found → IsResultTold found before.output after.output status → Of (Run workers)
    run_found found due out = run_part found (run_parts.due_in_parts before.input after.input before.files after.files (first_gates workers gates) found due) out

    run_due : (reply : Reply) → IsRunDue (first_gates workers gates) before.input after.input before.files after.files reply → IsReplyTold reply before.output after.output status → Of (Run workers)
    run_due (ended s) due out = run_found (Ok s) due out
    run_due (refused r) due out = run_found (Err r) due out
    run_due (checked ps vs) due out = absurd due
    run_due created due out = absurd due
    run_due (served text at) due out = absurd due
    run_due (shown d k) due out = absurd due
    run_due accepted due out = absurd due
    run_due (printed text) due out = absurd due

  -- `session`,
  abbrev Ended : Status → Type 0
  Ended s = (phase_by s ≡ Settled) ⊎ (s ≡ statuses.DiskFault)

  session_ends : (d : Catalog) (plans : List Plan) (first now : CoreState) (answered rest : List Line) (s : Status) → EndsAt d plans first now answered rest s → (is_refused_beforehand s ≡ false) × Ended s
  session_ends d plans first now answered rest statuses.Done ends = (refl, inl refl)
  session_ends d plans first now answered rest statuses.BadWords ends = absurd ends
  session_ends d plans first now answered rest statuses.BadInput ends = absurd ends
  session_ends d plans first now answered rest statuses.IllFormed ends = absurd ends
  session_ends d plans first now answered rest statuses.Limit ends = absurd ends
  session_ends d plans first now answered rest statuses.Unfinished ends = absurd ends
  session_ends d plans first now answered rest statuses.BadFile ends = absurd ends
  session_ends d plans first now answered rest statuses.BookDiffers ends = absurd ends
  session_ends d plans first now answered rest statuses.ReadFault ends = absurd ends
  session_ends d plans first now answered rest statuses.WriteFault ends = absurd ends
  session_ends d plans first now answered rest statuses.DiskFault ends = (refl, inr refl)
  session_ends d plans first now answered rest statuses.Exhausted ends = absurd ends
  session_ends d plans first now answered rest statuses.NotReduced ends = absurd ends
  session_ends d plans first now answered rest statuses.NoMemory ends = (refl, inl refl)

  played_out : (d : Catalog) (plans : List Plan) (lines : List Line) → IsSessionRead before.input after.input d plans lines → (s : Said) → IsSession d plans lines before.files after.files s.text.items s.status
      → IsTold s.status s.text.items before.output after.output status → (is_refused_beforehand s.status ≡ false) × Ended s.status → Of Session
  played_out d plans lines read s is out (late, ends) =
      kept (Some Session) c h before after entry number status numbered known honest d is.history is.now (IsOneAhead d plans is.now (phase_by s.status)) (phase_by s.status) is.kept is.machine
      (inr (plans, lines, s.text.items, s.status, read, is.idle, is.played)) (λ files ahead. (ahead.1.0, (plans, lines, read, ahead.1.1), ahead.1.2))
      (settles ends) (λ early reads. absurd (said_late s.status status before.output after.output s.text.items out late early))
    where
      settles : Ended s.status → Settles (phase_by s.status)
      settles (inl on) well = on
      settles (inr fault) well = absurd (well (said_fault before after s.status status before.output s.text.items fault (is.fault fault) out))

  played_on : (d : Catalog) (plans : List Plan) (lines : List Line) → IsSessionRead before.input after.input d plans lines → (found : _)
      → IsPlayedOn d plans lines before.files after.files found → IsResultTold found before.output after.output status → Of Session
  played_on d plans lines read (Ok s) is out =
      played_out d plans lines read s is out (session_ends d plans (opened_on d.conflicts is.history.plans is.history.events) is.now is.played.answered is.played.rest s.status is.played.ends)
  played_on d plans lines read (Err r) (inl closed) out = not_opened_for (Some Session) c h before after entry number status numbered known honest d r closed out
  played_on d plans lines read (Err r) (inr (memory, (k, idle, are))) out = nothing (Some Session) c h before after entry number status numbered known honest d k are

  session_part : (found : _) → session_parts.IsNotRead before.input after.input before.files after.files found ⊎ session_parts.IsReadAndPlayed before.input after.input before.files after.files found
      → IsResultTold found before.output after.output status → Of Session
  session_part found (inl none) out = untouched (Some Session) c h before after entry number status numbered known honest none.1
  session_part found (inr (d, plans, lines, read, is)) out = played_on d plans lines read found is out

  session_found : (found : _) → IsSessionFound before.input after.input before.files after.files found → IsResultTold found before.output after.output status → Of Session
  session_found found due out = session_part found (session_parts.due_in_parts before.input after.input before.files after.files found due) out

  session_due : (reply : Reply) → IsSessionDue before.input after.input before.files after.files reply → IsReplyTold reply before.output after.output status → Of Session
  session_due (ended s) due out = session_found (Ok s) due out
  session_due (refused r) due out = session_found (Err r) due out
  session_due (checked ps vs) due out = absurd due
  session_due created due out = absurd due
  session_due (served text at) due out = absurd due
  session_due (shown d k) due out = absurd due
  session_due accepted due out = absurd due
  session_due (printed text) due out = absurd due

  -- `serve`,
  abbrev IsAnEnd : Status → Type 0
  IsAnEnd s = ((is_refused_beforehand s ≡ false) ⊎ (s ≡ statuses.ReadFault)) × ((dialogue_phase s ≡ Settled) ⊎ (s ≡ statuses.DiskFault))

  dialogue_ends : (d : Catalog) (plans : List Plan) (last : DriverState) (n : ℕ) (u : Option (List ℕ)) (tail : List ℕ) (now : CoreState) (s : Status) → EndsWith d plans last n u tail now s → IsAnEnd s
  dialogue_ends d plans last n u tail now statuses.Done ends = (inl refl, inl refl)
  dialogue_ends d plans last n u tail now statuses.BadWords ends = absurd ends
  dialogue_ends d plans last n u tail now statuses.BadInput ends = absurd ends
  dialogue_ends d plans last n u tail now statuses.IllFormed ends = absurd ends
  dialogue_ends d plans last n u tail now statuses.Limit ends = absurd ends
  dialogue_ends d plans last n u tail now statuses.Unfinished ends = absurd ends
  dialogue_ends d plans last n u tail now statuses.BadFile ends = absurd ends
  dialogue_ends d plans last n u tail now statuses.BookDiffers ends = absurd ends
  dialogue_ends d plans last n u tail now statuses.ReadFault ends = (inr refl, inl refl)
  dialogue_ends d plans last n u tail now statuses.WriteFault ends = (inl refl, inl refl)
  dialogue_ends d plans last n u tail now statuses.DiskFault ends = (inl refl, inr refl)
  dialogue_ends d plans last n u tail now statuses.Exhausted ends = absurd ends
  dialogue_ends d plans last n u tail now statuses.NotReduced ends = absurd ends
  dialogue_ends d plans last n u tail now statuses.NoMemory ends = (inl refl, inl refl)

  spoken_ends : (d : Catalog) (plans : List Plan) (k : History) (first : ℕ) (now : CoreState) (taken : List ℕ) (rest : Option (List ℕ)) (x : Dialogue) (s : Status)
      → IsSpoken d plans k first now taken rest x s → IsAnEnd s
  spoken_ends d plans k first now taken rest x s (inl (front, held)) = dialogue_ends d plans held.last (number_behind first x.exchanges) x.unanswered x.tail now s held.ends
  spoken_ends d plans k first now taken rest x s (inr (none, failed, same)) = subst IsAnEnd (sym failed) (inl refl, inl refl)

  served_on : (d : Catalog) (plans : List Plan) (first : ℕ) (taken : List ℕ) → IsServeRead before.input after.input d plans first taken → (x : Dialogue) (s : Status)
      → IsServed d plans first taken before.input after.input before.files after.files x s → IsDialogueTold x s before.output after.output status → IsAnEnd s → Of Serve
  served_on d plans first taken read x s is out (late, ends) =
      kept (Some Serve) c h before after entry number status numbered known honest d is.history is.now (IsOneAhead d is.asked is.now (dialogue_phase s)) (dialogue_phase s) is.kept is.machine
      (inr (plans, first, taken, x, s, read, is.spoken)) (λ files ahead. (ahead.1.0, (plans, first, taken, x, s, read, is.spoken, is.asked, is.by_line, ahead.1.1), ahead.1.2))
      (settles ends) (λ early reads. absurd (beforehand late early reads))
    where
      settles : (dialogue_phase s ≡ Settled) ⊎ (s ≡ statuses.DiskFault) → Settles (dialogue_phase s)
      settles (inl on) well = on
      settles (inr fault) well = absurd (well (said_fault before after s status out.mid x.tail fault (is.disk fault) out.told))

      beforehand : (is_refused_beforehand s ≡ false) ⊎ (s ≡ statuses.ReadFault) → is_refused_beforehand status ≡ true → ¬ FailsInDialogue (Some Serve) status → ⊥
      beforehand (inl late) early reads = said_late s status out.mid after.output x.tail out.told late early
      beforehand (inr fault) early reads = failed_late s status out.mid after.output x.tail out.told early (λ same. reads (refl, same ∙ fault))

  served_due : (x : Dialogue) (s : Status) → IsServeTold before.input after.input before.files after.files x s → IsDialogueTold x s before.output after.output status → Of Serve
  served_due x s (d, plans, first, taken, read, is) out =
      served_on d plans first taken read x s is out (spoken_ends d plans is.history first is.now taken after.input.left x s is.spoken)

  not_served_on : (d : Catalog) (found : _) → IsNotServedOn d before.files after.files found → IsResultTold found before.output after.output status → Of Serve
  not_served_on d (Ok s) none out = absurd none
  not_served_on d (Err r) (inl closed) out = not_opened_with (Some Serve) c h before after entry number status numbered known honest d r closed out
  not_served_on d (Err r) (inr (memory, (k, are))) out = nothing (Some Serve) c h before after entry number status numbered known honest d k are

  serve_part : (found : _) → serve_parts.IsNotRead before.input after.input before.files after.files found ⊎ serve_parts.IsReadAndNotServed before.input after.input before.files after.files found
      → IsResultTold found before.output after.output status → Of Serve
  serve_part found (inl none) out = untouched (Some Serve) c h before after entry number status numbered known honest none.1
  serve_part found (inr (d, plans, first, taken, read, none)) out = not_served_on d found none out

  not_served : (found : _) → IsNotServed before.input after.input before.files after.files found → IsResultTold found before.output after.output status → Of Serve
  not_served found why out = serve_part found (serve_parts.not_served_in_parts before.input after.input before.files after.files found why) out

  serve_due : (reply : Reply) → IsServeDue before.input after.input before.files after.files reply → IsReplyTold reply before.output after.output status → Of Serve
  serve_due (served x s) due out = served_due x s due out
  serve_due (ended s) due out = not_served (Ok s) due out
  serve_due (refused r) due out = not_served (Err r) due out
  serve_due (checked ps vs) due out = absurd due
  serve_due created due out = absurd due
  serve_due (shown d k) due out = absurd due
  serve_due accepted due out = absurd due
  serve_due (printed text) due out = absurd due

  -- and `restart`.
  restart_on : (d : Catalog) (k : History) (now : CoreState) (on : Phase) → IsRestart (first_gate gates) d k now on before.files.disk after.files.disk → Settles on → IsLate → Of Restart
  restart_on d k now on made settles late =
      kept (Some Restart) c h before after entry number status numbered known honest d k now (IsNextOfCompletion d k now on) on made.kept made.completing.run.machine (inr made.completing)
      (λ files ahead. (ahead.1.0, ahead.1.1, ahead.1.2)) settles (λ early reads. absurd (late early))

  restart_late : (d : Catalog) (k : History) (now : CoreState) (s : Said) → SaysRestart d k now s → IsTold s.status s.text.items before.output after.output status → IsLate
  restart_late d k now s (inl all) out = said_late s.status status before.output after.output s.text.items out (ap is_refused_beforehand all.0)
  restart_late d k now s (inr part) out = said_late s.status status before.output after.output s.text.items out (ap is_refused_beforehand part.2)

  restart_due : (reply : Reply) → IsRestartDue (first_gate gates) before.files after.files reply → IsReplyTold reply before.output after.output status → Of Restart
  restart_due (ended s) (d, k, now, made, says) out = restart_on d k now Settled made (λ well. refl) (restart_late d k now s says out)
  restart_due (refused r) (inl (e, is, why)) out = not_opened (Some Restart) c h before after entry number status numbered known honest e r is why out
  restart_due (refused r) (inr (d, k, now, inl (memory, made))) out =
      restart_on d k now Settled made (λ well. refl) (cut_late status (told_cut r before.output after.output status (inr memory) out))
  restart_due (refused r) (inr (d, k, now, inr (fault, made, rose))) out =
      restart_on d k now Closed made (λ well. absurd (well (refused_fault before after r status fault rose out)))
      (cut_late status (told_cut r before.output after.output status (inl fault) out))
  restart_due (checked ps vs) due out = absurd due
  restart_due created due out = absurd due
  restart_due (served text at) due out = absurd due
  restart_due (shown d k) due out = absurd due
  restart_due accepted due out = absurd due
  restart_due (printed text) due out = absurd due

  -- Whatever words asked for one of them.
  pub went_by : (o : Option Command) → goes_on o ≡ true → (reply : Reply) → IsDueTo o gates before.input after.input before.files after.files reply
      → IsReplyTold reply before.output after.output status → Went o c h before after entry number status numbered known honest
  went_by (Some (Run workers)) goes reply due out = run_due workers reply due out
  went_by (Some Session) goes reply due out = session_due reply due out
  went_by (Some Serve) goes reply due out = serve_due reply due out
  went_by (Some Restart) goes reply due out = restart_due reply due out
  went_by (Some Check) goes reply due out = absurd cc
  went_by (Some Expand) goes reply due out = absurd cc
  went_by (Some (Init values strict)) goes reply due out = absurd cc
  went_by (Some Show) goes reply due out = absurd cc
  went_by (Some Verify) goes reply due out = absurd cc
  went_by (Some Replay) goes reply due out = absurd cc
  went_by (Some (Audit history)) goes reply due out = absurd cc
  went_by (Some (Gen number count)) goes reply due out = absurd cc
  went_by (Some (Bulk number count)) goes reply due out = absurd cc
  went_by (Some (Help about)) goes reply due out = absurd cc
  went_by (Some Version) goes reply due out = absurd cc
  went_by None goes reply due out = absurd cc
