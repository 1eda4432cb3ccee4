-- What is answered does what its command is for, where no call failed.
use Rattle.std.proofs.Common.{◌≡◌, ◌≤◌, ◌⊎◌, ⊎_elim, ℕ, Bool, true, false, List, [], ◌∷◌, length, Option, Some, None, IfSome, Result, Ok, Err, refl, sym, ap, subst, ◌∙◌, inl, inr, arith}
use Rattle.std.specs.Prelude.{⊤}
use Rattle.std.proofs.Math.Nat.{le_trans}
use Rattle.process_flow.specs.Causes.{Rose}
use Rattle.trace_verify.specs.declared.verdict.Verified.{Verified}
use Rattle.trace_verify.specs.Verdicts.{verdict}
use Rattle.program_words.specs.declared.reading.Command.{Command}
use Rattle.program_words.specs.declared.reading.Command.TheVariants.{Check, Expand, Init, Run, Session, Serve, Restart, Show, Replay, Verify, Audit, Gen, Bulk, Help, Version}
use Rattle.command_refusals.specs.Statuses.{IsOneOf}
use Rattle.command_refusals.specs.declared.status.Status.{Status}
use Rattle.command_refusals.specs.declared.status.Status.TheVariants.{Done, Exhausted, NoMemory}
use Rattle.command_refusals.specs.declared.faults.ReportFault.{ReportFault}
use Rattle.command_refusals.specs.declared.faults.ReportFault.TheVariants as faults
use Rattle.command_refusals.specs.declared.refusal.Refusal.{Refusal}
use Rattle.command_refusals.specs.declared.refusal.Refusal.TheVariants as refusals
use Rattle.command_refusals.specs.Refusals.{report_status, refusal_status}
use Rattle.command_refusals.specs.Verdicts.{any_fault}
use Rattle.process_top.specs.Worlds.{World, Input, Files}
use Rattle.command_input.specs.Inputs.{most_input, first_refusal, input_tests, text_refusal, text_tests, HasNoText, IsRefused}
use Rattle.process_top.specs.Replies.{Reply, checked, created, ended, served, shown, accepted, printed, refused, status_of, IsReplyTold}
use Rattle.process_top.specs.Told.{Output}
use Rattle.process_top.specs.Said.{HasWorked, IsResultTold}
use Rattle.process_top.specs.Check.{IsCheckDue, IsCheckComplete}
use Rattle.process_top.specs.Init.{IsInitDue}
use Rattle.scenario_run.specs.Completeness.{IsReportThere}
use Rattle.worker_gate.specs.ManyGates.{AskedGates}
use Rattle.command_input.specs.declared.said.Said.{Said}
use Rattle.session_run.specs.Completeness.{AreAllAnswered}
use Rattle.serve_run.specs.declared.command.Ending.TheVariants as endings
use Rattle.serve_run.specs.Dialogue.{Dialogue}
use Rattle.process_top.specs.Run.{gates_asked, IsRunComplete}
use Rattle.process_top.specs.Restart.{IsRestartComplete}
use Rattle.process_top.specs.Bulk.{IsBulkComplete}
use Rattle.process_top.specs.Serve.{IsServeComplete}
use Rattle.process_top.specs.Session.{IsSessionComplete}
use Rattle.process_top.specs.Show.{IsShowDue, IsShowComplete}
use Rattle.process_top.specs.Printed.{IsTextDue, IsTextComplete}
use Rattle.command_help.specs.Pages.{page_of, version_line}
use Rattle.scenario_gen.specs.Generated.{generated as scenario}
use Rattle.process_top.specs.Verify.{verdict_of, verified_status, IsVerifyDue, IsVerifyComplete}
use Rattle.process_top.specs.Commands.{IsDueTo, IsQuiet, DoesItsWork}
use Rattle.command_input.proofs.InputRefusals.{is_within}
use Rattle.init_run.specs.Init.{IsInitComplete}
use Rattle.init_run.proofs.MadeWell.{not_created_quietly, not_held_quietly}
use Rattle.text_words.specs.Words.{words_of}
use Rattle.process_text.specs.Places.{text_error}
use Rattle.process_text.specs.declared.error.TextError.{TextError}
use Rattle.process_expand.specs.Expand.{expansion, IsNoPlain}
use Rattle.process_expand.specs.Expansion.{IsTooLong}
use Rattle.process_expand.specs.Reading.{fault_of, tokens_of}
use Rattle.process_top.specs.Expand.{IsExpandDue, IsExpandComplete, IsNotExpanded}
use Rattle.replay_run.specs.Replay.{found_status, IsReplayComplete}
use Rattle.process_top.specs.Audit.{IsAuditComplete, IsHistoryAuditComplete}
use Rattle.process_top.proofs.Wanting.{audit_wanting, history_wanting, replay_wanting, told_so}
use Rattle.process_top.proofs.Completing.{given, told_well, quietly_refused, text_passes, by_any, not_opened_quietly}

-- a check
check_ends : (text : List ℕ) (faults : ℕ) (after : Input) (reply : Reply) (status : Status) → IsCheckDue (given (Some text) faults) after reply → status ≡ status_of reply → ¬ Rose faults after.faults
    → IsCheckComplete (given (Some text) faults) status
check_ends text faults after (checked ps vs) status due is quiet qs within reading = by_any (any_fault vs) status is
check_ends text faults after (refused r) status due is quiet qs within reading =
    inr (inr (inl (is ∙ quietly_refused text_tests r text faults after due quiet (text_passes text r qs within reading))))
check_ends text faults after created status due is quiet qs within reading = absurd due
check_ends text faults after (ended said) status due is quiet qs within reading = absurd due
check_ends text faults after (served said at) status due is quiet qs within reading = absurd due
check_ends text faults after (shown c h) status due is quiet qs within reading = absurd due
check_ends text faults after accepted status due is quiet qs within reading = absurd due
check_ends text faults after (printed said) status due is quiet qs within reading = absurd due

check_done : (left : Option (List ℕ)) (faults : ℕ) (after : Input) (reply : Reply) (status : Status) → IsCheckDue (given left faults) after reply → status ≡ status_of reply → ¬ Rose faults after.faults
    → IsCheckComplete (given left faults) status
check_done None faults after reply status due is quiet = tt
check_done (Some text) faults after reply status due is quiet = check_ends text faults after reply status due is quiet

-- an expansion
no_text_given : (r : Refusal) (text : List ℕ) (faults : ℕ) (after : Input) → HasNoText r (given (Some text) faults) after → ¬ Rose faults after.faults → length text ≤ most_input → refusal_status r ≡ NoMemory
no_text_given r text faults after (inl long) quiet within = absurd (omega (arith, long.1, within))
no_text_given r text faults after (inr (inl fault)) quiet within = absurd (quiet fault.1)
no_text_given r text faults after (inr (inr memory)) quiet within = ap refusal_status memory

no_plain_quietly : (text : List ℕ) (e : TextError) → IsNoPlain text e → fault_of text ≡ None → ¬ IsTooLong (tokens_of (words_of text)) → text_error (expansion text) ≡ None → refusal_status (text_refusal e) ≡ NoMemory
no_plain_quietly text e (inl memory) good few plain = ap (λ (x : TextError). refusal_status (text_refusal x)) memory
no_plain_quietly text e (inr (inl fault)) good few plain = let wrong : None ≡ Some e = sym good ∙ fault in absurd cc
no_plain_quietly text e (inr (inr (none, inl long))) good few plain = absurd (few long.1)
no_plain_quietly text e (inr (inr (none, inr fault))) good few plain = let wrong : None ≡ Some e = sym plain ∙ fault in absurd cc

expand_refused : (text : List ℕ) (faults : ℕ) (after : Input) (r : Refusal) → IsNotExpanded (given (Some text) faults) after r → ¬ Rose faults after.faults → length text ≤ most_input → fault_of text ≡ None
    → ¬ IsTooLong (tokens_of (words_of text)) → text_error (expansion text) ≡ None → refusal_status r ≡ NoMemory
expand_refused text faults after r (inl none) quiet within good few plain = no_text_given r text faults after none quiet within
expand_refused text faults after r (inr (own, whole, (e, same, why))) quiet within good few plain =
    ap refusal_status same ∙ no_plain_quietly text e (subst (λ (t : List ℕ). IsNoPlain t e) whole.2 why) good few plain

expand_ends : (text : List ℕ) (faults : ℕ) (after : Input) (reply : Reply) (status : Status) → IsExpandDue (given (Some text) faults) after reply → status ≡ status_of reply → ¬ Rose faults after.faults
    → IsExpandComplete (given (Some text) faults) status
expand_ends text faults after (printed said) status due is quiet within good few plain = inl is
expand_ends text faults after (refused r) status due is quiet within good few plain = inr (inl (is ∙ expand_refused text faults after r due quiet within good few plain))
expand_ends text faults after created status due is quiet within good few plain = absurd due
expand_ends text faults after (checked ps vs) status due is quiet within good few plain = absurd due
expand_ends text faults after (ended said) status due is quiet within good few plain = absurd due
expand_ends text faults after (served said at) status due is quiet within good few plain = absurd due
expand_ends text faults after (shown d h) status due is quiet within good few plain = absurd due
expand_ends text faults after accepted status due is quiet within good few plain = absurd due

expand_done : (left : Option (List ℕ)) (faults : ℕ) (after : Input) (reply : Reply) (status : Status) → IsExpandDue (given left faults) after reply → status ≡ status_of reply → ¬ Rose faults after.faults
    → IsExpandComplete (given left faults) status
expand_done None faults after reply status due is quiet = tt
expand_done (Some text) faults after reply status due is quiet = expand_ends text faults after reply status due is quiet

-- an init
init_ends : (values strict : Bool) (text : List ℕ) (faults : ℕ) (after : Input) (files files_after : Files) (reply : Reply) (status : Status) → IsInitDue values strict (given (Some text) faults) after files files_after reply
    → status ≡ status_of reply → ¬ Rose faults after.faults → ¬ Rose files.faults files_after.faults → IsInitComplete values strict (given (Some text) faults) files.disk status
init_ends values strict text faults after files files_after created status due is quiet quiet_files s within has sound free told empty = inl is
init_ends values strict text faults after files files_after (refused r) status due is quiet quiet_files s within has sound free told empty =
    inr (inl (is ∙ not_created_quietly values strict r text faults after files files_after s due quiet quiet_files within has sound free told empty))
init_ends values strict text faults after files files_after (ended said) status due is quiet quiet_files s within has sound free told empty =
    absurd (not_held_quietly values strict said text faults after s due.0 has free)
init_ends values strict text faults after files files_after (checked ps vs) status due is quiet quiet_files s within has sound free told empty = absurd due
init_ends values strict text faults after files files_after (served said at) status due is quiet quiet_files s within has sound free told empty = absurd due
init_ends values strict text faults after files files_after (shown d h) status due is quiet quiet_files s within has sound free told empty = absurd due
init_ends values strict text faults after files files_after accepted status due is quiet quiet_files s within has sound free told empty = absurd due
init_ends values strict text faults after files files_after (printed said) status due is quiet quiet_files s within has sound free told empty = absurd due

init_done : (values strict : Bool) (left : Option (List ℕ)) (faults : ℕ) (after : Input) (files files_after : Files) (reply : Reply) (status : Status) → IsInitDue values strict (given left faults) after files files_after reply
    → status ≡ status_of reply → ¬ Rose faults after.faults → ¬ Rose files.faults files_after.faults → IsInitComplete values strict (given left faults) files.disk status
init_done values strict None faults after files files_after reply status due is quiet quiet_files = tt
init_done values strict (Some text) faults after files files_after reply status due is quiet quiet_files = init_ends values strict text faults after files files_after reply status due is quiet quiet_files

-- a run, or a restart
told_report : (found : Result Said Refusal) (old new : Output) (status : Status) → IsReportThere found → IsResultTold found old new status → ¬ Rose old.faults new.faults
    → IsOneOf status (Done ∷ Exhausted ∷ NoMemory ∷ [])
told_report (Ok said) old new status (inl done) told quiet = inl (told_well _ _ old new status told quiet ∙ done)
told_report (Ok said) old new status (inr exhausted) told quiet = inr (inl (told_well _ _ old new status told quiet ∙ exhausted))
told_report (Err r) old new status memory (inl told) quiet = inr (inr (inl (told_well _ _ old new status told quiet ∙ ap refusal_status memory)))
told_report (Err r) old new status memory (inr told) quiet = inr (inr (inl (told_well _ _ old new status told.1 quiet)))

-- what was found was told at its status, or memory was wanting
told_status : (found : Result Said Refusal) (old new : Output) (status : Status) → IsResultTold found old new status → ¬ Rose old.faults new.faults → (status ≡ found_status found) ⊎ (status ≡ NoMemory)
told_status (Ok said) old new status told quiet = inl (told_well _ _ old new status told quiet)
told_status (Err r) old new status (inl told) quiet = inl (told_well _ _ old new status told quiet)
told_status (Err r) old new status (inr told) quiet = inr (told_well _ _ old new status told.1 quiet)

-- a session
session_status : (found : Result Said Refusal) (old new : Output) (status : Status) → AreAllAnswered found → IsResultTold found old new status → ¬ Rose old.faults new.faults
    → IsOneOf status (Done ∷ NoMemory ∷ [])
session_status (Ok said) old new status (inl done) told quiet = inl (told_well _ _ old new status told quiet ∙ done)
session_status (Ok said) old new status (inr memory) told quiet = inr (inl (told_well _ _ old new status told quiet ∙ memory))
session_status (Err r) old new status memory (inl told) quiet = inr (inl (told_well _ _ old new status told quiet ∙ ap refusal_status memory))
session_status (Err r) old new status memory (inr told) quiet = inr (inl (told_well _ _ old new status told.1 quiet))

-- a dialogue that was not held, where nothing else was wrong: memory was wanting
memory_status : (found : Result Said Refusal) (old new : Output) (status : Status) → found ≡ Err refusals.NoMemory → IsResultTold found old new status → ¬ Rose old.faults new.faults
    → IsOneOf status (Done ∷ NoMemory ∷ [])
memory_status found old new status memory told quiet = session_status (Err refusals.NoMemory) old new status refl (subst (λ (f : Result Said Refusal). IsResultTold f old new status) memory told) quiet

-- and one that was held
well_held : (status : Status) → (status ≡ Done) ⊎ (status ≡ NoMemory) → IsOneOf status (Done ∷ NoMemory ∷ [])
well_held status (inl done) = inl done
well_held status (inr memory) = inr (inl memory)

-- a count that doesn't stand at its last value afterwards didn't before
never_rose : (old new : Output) → old.faults ≤ new.faults → ¬ Rose old.faults new.faults → ¬ Rose old.faults old.faults
never_rose old new later quiet rose = quiet (le_trans rose later)

-- what is promised of the work of a command over an engine is promised of the status at which that was told
abbrev pub Worked : {S K R : Type 0} → Option Command → World S K R → World S K R → Status → Type 0
Worked (Some (Run workers)) before after status = IsQuiet (Some (Run workers)) before after → IsRunComplete before.input before.files status
Worked (Some Session) before after status = IsQuiet (Some Session) before after → IsSessionComplete before.input before.files status
Worked (Some Serve) before after status = IsQuiet (Some Serve) before after → IsServeComplete before.input before.files status
Worked (Some Restart) before after status = IsQuiet (Some Restart) before after → IsRestartComplete before.files status
Worked (Some Replay) before after status = IsQuiet (Some Replay) before after → IsReplayComplete before.files.disk status
Worked (Some (Audit false)) before after status = IsQuiet (Some (Audit false)) before after → IsAuditComplete before.input status
Worked (Some (Audit true)) before after status = IsQuiet (Some (Audit true)) before after → IsHistoryAuditComplete before.input before.files status
Worked (Some (Bulk number count)) before after status = IsQuiet (Some (Bulk number count)) before after → IsBulkComplete number count before.files status
Worked o before after status = ⊤

-- of what was still to be told, and then was
pub worked_due : {S K R : Type 0} (o : Option Command) (before after : World S K R) (found : Result Said Refusal) (status : Status)
    → HasWorked o before.input after.input before.files after.files before.output before.output (endings.Due found) → IsResultTold found before.output after.output status
    → before.output.faults ≤ after.output.faults → Worked o before after status
worked_due None before after found status has told later = tt
worked_due (Some Check) before after found status has told later = tt
worked_due (Some Expand) before after found status has told later = tt
worked_due (Some (Init values strict)) before after found status has told later = tt
worked_due (Some (Run workers)) before after found status has told later = λ quiet bytes c plans h scenario room.
    told_report found before.output after.output status (has bytes c plans h scenario room (record { source = quiet.input refl; rack = quiet.files refl })) told quiet.output
worked_due (Some Session) before after found status has told later = λ quiet bytes c plans lines h text files.
    session_status found before.output after.output status (has bytes c plans lines h text files (record { source = quiet.input refl; rack = quiet.files refl })) told quiet.output
worked_due (Some Serve) before after found status has told later = λ quiet bytes c plans h scene known sound.
    memory_status found before.output after.output status
    (has bytes c plans h scene known sound (record { source = quiet.input refl; rack = quiet.files refl }) (never_rose before.output after.output later quiet.output)) told quiet.output
worked_due (Some Restart) before after found status has told later = λ quiet c h known sound.
    told_report found before.output after.output status (has c h known sound (quiet.files refl)) told quiet.output
worked_due (Some Show) before after found status has told later = tt
worked_due (Some Replay) before after found status has told later = λ quiet.
    told_so (IsReplayComplete before.files.disk) status (found_status found) (told_status found before.output after.output status told quiet.output) (has (quiet.files refl))
    (replay_wanting before.files.disk status)
worked_due (Some Verify) before after found status has told later = tt
worked_due (Some (Audit false)) before after found status has told later = λ quiet.
    told_so (IsAuditComplete before.input) status (found_status found) (told_status found before.output after.output status told quiet.output) (has (quiet.input refl))
    (audit_wanting before.input status)
worked_due (Some (Audit true)) before after found status has told later = λ quiet.
    told_so (IsHistoryAuditComplete before.input before.files) status (found_status found) (told_status found before.output after.output status told quiet.output)
    (has (record { source = quiet.input refl; rack = quiet.files refl })) (history_wanting before.input before.files status)
worked_due (Some (Gen number count)) before after found status has told later = tt
worked_due (Some (Bulk number count)) before after found status has told later = λ quiet c plans fits empty.
    told_report found before.output after.output status (has c plans fits empty (quiet.files refl)) told quiet.output
worked_due (Some (Help about)) before after found status has told later = tt
worked_due (Some Version) before after found status has told later = tt

-- of a dialogue that was held, which no other command does
pub worked_held : {S K R : Type 0} (o : Option Command) (before after : World S K R) (d : Dialogue) (at status : Status)
    → IsDueTo o (gates_asked before.gates after.gates) before.input after.input before.files after.files (served d at)
    → HasWorked o before.input after.input before.files after.files before.output after.output (endings.Told status) → Worked o before after status
worked_held None before after d at status due has = tt
worked_held (Some Check) before after d at status due has = tt
worked_held (Some Expand) before after d at status due has = tt
worked_held (Some (Init values strict)) before after d at status due has = tt
worked_held (Some (Run workers)) before after d at status due has = absurd due
worked_held (Some Session) before after d at status due has = absurd due
worked_held (Some Serve) before after d at status due has = λ quiet bytes c plans h scene known sound.
    well_held status (has bytes c plans h scene known sound (record { source = quiet.input refl; rack = quiet.files refl }) quiet.output)
worked_held (Some Restart) before after d at status due has = absurd due
worked_held (Some Show) before after d at status due has = tt
worked_held (Some Replay) before after d at status due has = absurd due.0
worked_held (Some Verify) before after d at status due has = tt
worked_held (Some (Audit false)) before after d at status due has = absurd due.0
worked_held (Some (Audit true)) before after d at status due has = absurd due.0
worked_held (Some (Gen number count)) before after d at status due has = tt
worked_held (Some (Bulk number count)) before after d at status due has = absurd due
worked_held (Some (Help about)) before after d at status due has = tt
worked_held (Some Version) before after d at status due has = tt

-- a show
show_done : (files files_after : Files) (reply : Reply) (status : Status) → IsShowDue files files_after reply → status ≡ status_of reply → ¬ Rose files.faults files_after.faults → IsShowComplete files.disk status
show_done files files_after (served text at) status due is quiet c h good told log = absurd due
show_done files files_after (shown d k) status due is quiet c h good told log = inl is
show_done files files_after (refused r) status due is quiet c h good told log = inr (inl (is ∙ not_opened_quietly r files files_after c h due quiet good told log))
show_done files files_after (checked ps vs) status due is quiet c h good told log = absurd due
show_done files files_after created status due is quiet c h good told log = absurd due
show_done files files_after (ended said) status due is quiet c h good told log = absurd due
show_done files files_after accepted status due is quiet c h good told log = absurd due
show_done files files_after (printed text) status due is quiet c h good told log = absurd due

-- the status of a fault is that of its verdict
fault_status : (fault : ReportFault) → report_status fault ≡ verified_status (verdict_of fault)
fault_status (faults.BadText n) = refl
fault_status (faults.StepRefused k) = refl
fault_status (faults.NotSerial n) = refl
fault_status (faults.SerialDiffers n) = refl

passes_input : (text : List ℕ) (r : Refusal) → length text ≤ most_input → first_refusal (input_tests text) ≡ Some r → refusal_status r ≡ NoMemory
passes_input text r within first =
    let none : None ≡ Some r = subst (λ (o : Option Refusal). first_refusal (o ∷ []) ≡ Some r) (is_within text within) first in
    absurd (cc)

-- what is refused of an input before it is read as a report
not_verified : (text : List ℕ) (faults : ℕ) (after : Input) (r : Refusal) (status : Status) → IsRefused input_tests r (given (Some text) faults) after → status ≡ refusal_status r → ¬ Rose faults after.faults
    → IsVerifyComplete (given (Some text) faults) status
not_verified text faults after r status due is quiet within =
    inr (inl (is ∙ quietly_refused input_tests r text faults after due quiet (passes_input text r within)))

verified_by : (text : List ℕ) (v : Verified) (status : Status) → verdict text ≡ v → status ≡ verified_status v → IsOneOf status (verified_status (verdict text) ∷ NoMemory ∷ [])
verified_by text v status same is = inl (is ∙ ap verified_status (sym same))

-- a verification
verify_ends : (text : List ℕ) (faults : ℕ) (after : Input) (reply : Reply) (status : Status) → IsVerifyDue (given (Some text) faults) after reply → status ≡ status_of reply → ¬ Rose faults after.faults
    → IsVerifyComplete (given (Some text) faults) status
verify_ends text faults after accepted status due is quiet within = verified_by text _ status due.1.1.0 is
verify_ends text faults after (checked ps vs) status due is quiet within = absurd due
verify_ends text faults after created status due is quiet within = absurd due
verify_ends text faults after (ended said) status due is quiet within = absurd due
verify_ends text faults after (served said at) status due is quiet within = absurd due
verify_ends text faults after (shown c h) status due is quiet within = absurd due
verify_ends text faults after (printed said) status due is quiet within = absurd due
verify_ends text faults after (refused (refusals.Report fault)) status due is quiet within =
    verified_by text (verdict_of fault) status due.1.1.0 (is ∙ fault_status fault)
verify_ends text faults after (refused refusals.BadWords) status due is quiet within = not_verified text faults after refusals.BadWords status due is quiet within
verify_ends text faults after (refused (refusals.Text e)) status due is quiet within = not_verified text faults after (refusals.Text e) status due is quiet within
verify_ends text faults after (refused (refusals.Scenario fault)) status due is quiet within = not_verified text faults after (refusals.Scenario fault) status due is quiet within
verify_ends text faults after (refused (refusals.Commuting a b)) status due is quiet within = not_verified text faults after (refusals.Commuting a b) status due is quiet within
verify_ends text faults after (refused (refusals.CatalogDiffers n)) status due is quiet within = not_verified text faults after (refusals.CatalogDiffers n) status due is quiet within
verify_ends text faults after (refused (refusals.BadLine n)) status due is quiet within = not_verified text faults after (refusals.BadLine n) status due is quiet within
verify_ends text faults after (refused (refusals.Limit quantity n)) status due is quiet within = not_verified text faults after (refusals.Limit quantity n) status due is quiet within
verify_ends text faults after (refused (refusals.Unfinished i)) status due is quiet within = not_verified text faults after (refusals.Unfinished i) status due is quiet within
verify_ends text faults after (refused (refusals.File fault)) status due is quiet within = not_verified text faults after (refusals.File fault) status due is quiet within
verify_ends text faults after (refused (refusals.BookDiffers q n)) status due is quiet within = not_verified text faults after (refusals.BookDiffers q n) status due is quiet within
verify_ends text faults after (refused refusals.ReadFault) status due is quiet within = not_verified text faults after refusals.ReadFault status due is quiet within
verify_ends text faults after (refused refusals.DiskFault) status due is quiet within = not_verified text faults after refusals.DiskFault status due is quiet within
verify_ends text faults after (refused (refusals.Exhausted i step)) status due is quiet within = not_verified text faults after (refusals.Exhausted i step) status due is quiet within
verify_ends text faults after (refused refusals.NoMemory) status due is quiet within = not_verified text faults after refusals.NoMemory status due is quiet within

verify_done : (left : Option (List ℕ)) (faults : ℕ) (after : Input) (reply : Reply) (status : Status) → IsVerifyDue (given left faults) after reply → status ≡ status_of reply → ¬ Rose faults after.faults
    → IsVerifyComplete (given left faults) status
verify_done None faults after reply status due is quiet = tt
verify_done (Some text) faults after reply status due is quiet = verify_ends text faults after reply status due is quiet

-- a text that is printed as it is
text_done : (wanted : List ℕ) (reply : Reply) (status : Status) → IsTextDue wanted reply → status ≡ status_of reply → IsTextComplete status
text_done wanted (printed text) status due is = inl is
text_done wanted (refused r) status due is = inr (inl (is ∙ ap refusal_status due))
text_done wanted (checked ps vs) status due is = absurd due
text_done wanted created status due is = absurd due
text_done wanted (ended said) status due is = absurd due
text_done wanted (served said at) status due is = absurd due
text_done wanted (shown c h) status due is = absurd due
text_done wanted accepted status due is = absurd due

-- each command
done_by : {S K R : Type 0} (o : Option Command) (gates : AskedGates) (before after : World S K R) (status : Status) (reply : Reply) → IsDueTo o gates before.input after.input before.files after.files reply
    → status ≡ status_of reply → Worked o before after status → IsQuiet o before after → DoesItsWork o before.input before.files status
done_by None gates before after status reply due is worked quiet = tt
done_by (Some Check) gates before after status reply due is worked quiet = check_done before.input.left before.input.faults after.input reply status due.0 is (quiet.input refl)
done_by (Some Expand) gates before after status reply due is worked quiet = expand_done before.input.left before.input.faults after.input reply status due.0 is (quiet.input refl)
done_by (Some (Init values strict)) gates before after status reply due is worked quiet =
    init_done values strict before.input.left before.input.faults after.input before.files after.files reply status due is (quiet.input refl) (quiet.files refl)
done_by (Some (Run workers)) gates before after status reply due is worked quiet = worked quiet
done_by (Some Session) gates before after status reply due is worked quiet = worked quiet
done_by (Some Serve) gates before after status reply due is worked quiet = worked quiet
done_by (Some Restart) gates before after status reply due is worked quiet = worked quiet
done_by (Some Show) gates before after status reply due is worked quiet = show_done before.files after.files reply status due.0 is (quiet.files refl)
done_by (Some Replay) gates before after status reply due is worked quiet = worked quiet
done_by (Some Verify) gates before after status reply due is worked quiet = verify_done before.input.left before.input.faults after.input reply status due.0 is (quiet.input refl)
done_by (Some (Audit false)) gates before after status reply due is worked quiet = worked quiet
done_by (Some (Audit true)) gates before after status reply due is worked quiet = worked quiet
done_by (Some (Gen number count)) gates before after status reply due is worked quiet = text_done (scenario number count) reply status due.0 is
done_by (Some (Bulk number count)) gates before after status reply due is worked quiet = worked quiet
done_by (Some (Help about)) gates before after status reply due is worked quiet = text_done (page_of about) reply status due.0 is
done_by (Some Version) gates before after status reply due is worked quiet = text_done version_line reply status due.0 is

-- at want of memory each does what may be wanted of it
given_memory : (left : Option (List ℕ)) (P : List ℕ → Type 0) → ((text : List ℕ) → P text) → IfSome left P
given_memory None P all = tt
given_memory (Some text) P all = all text

wanting : (o : Option Command) (input : Input) (files : Files) (status : Status) → status ≡ NoMemory → DoesItsWork o input files status
wanting None input files status is = tt
wanting (Some Check) input files status is = given_memory input.left _ (λ text ps within reading. inr (inr (inl is)))
wanting (Some Expand) input files status is = given_memory input.left _ (λ text within good few plain. inr (inl is))
wanting (Some (Init values strict)) input files status is = given_memory input.left _ (λ text s within has sound free told empty. inr (inl is))
wanting (Some (Run workers)) input files status is = λ bytes c plans h scenario room. inr (inr (inl is))
wanting (Some Session) input files status is = λ bytes c plans lines h text room. inr (inl is)
wanting (Some Serve) input files status is = λ bytes c plans h scene told sound. inr (inl is)
wanting (Some Restart) input files status is = λ c h told sound. inr (inr (inl is))
wanting (Some Show) input files status is = λ c h good told log. inr (inl is)
wanting (Some Replay) input files status is = replay_wanting files.disk status is
wanting (Some Verify) input files status is = given_memory input.left _ (λ text within. inr (inl is))
wanting (Some (Audit false)) input files status is = audit_wanting input status is
wanting (Some (Audit true)) input files status is = history_wanting input files status is
wanting (Some (Gen number count)) input files status is = inr (inl is)
wanting (Some (Bulk number count)) input files status is = λ c plans fits empty. inr (inr (inl is))
wanting (Some (Help about)) input files status is = inr (inl is)
wanting (Some Version) input files status is = inr (inl is)

-- without a fault of the sink, the status is that of the reply, or memory was wanting
status_told : (reply : Reply) (old new : Output) (status : Status) → IsReplyTold reply old new status → ¬ Rose old.faults new.faults → (status ≡ status_of reply) ⊎ (status ≡ NoMemory)
status_told (refused r) old new status (inl told) quiet = inl (told_well _ _ old new status told quiet)
status_told (refused r) old new status (inr told) quiet = inr (told_well _ _ old new status told.1 quiet)
status_told (checked ps vs) old new status told quiet = inl (told_well _ _ old new status told quiet)
status_told created old new status told quiet = inl (told_well _ _ old new status told quiet)
status_told (ended said) old new status told quiet = inl (told_well _ _ old new status told quiet)
status_told (served d at) old new status told quiet = inl (told_well _ _ told.mid new status told.told (λ rose. quiet (subst (λ f. Rose f new.faults) told.quiet rose)))
status_told (shown c h) old new status told quiet = inl (told_well _ _ old new status told quiet)
status_told accepted old new status told quiet = inl (told_well _ _ old new status told quiet)
status_told (printed text) old new status told quiet = inl (told_well _ _ old new status told quiet)

pub done_or_wanting : {S K R : Type 0} (o : Option Command) (gates : AskedGates) (before after : World S K R) (status : Status) (reply : Reply) → IsDueTo o gates before.input after.input before.files after.files reply
    → IsReplyTold reply before.output after.output status → Worked o before after status → IsQuiet o before after → DoesItsWork o before.input before.files status
done_or_wanting o gates before after status reply due told worked quiet =
    ⊎_elim (λ is. done_by o gates before after status reply due is worked quiet) (λ is. wanting o before.input before.files status is) (status_told reply before.output after.output status told quiet.output)
