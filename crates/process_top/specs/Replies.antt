-- What there is to say: for each command and end a reply, with its status and its text.
use Rattle.std.specs.Prelude.{ℕ, Bool, true, false, List, [], ◌++◌, Option, Some, None, codes, if◌then◌else◌}
use Rattle.process_tree.specs.declared.tree.Named.{Named}
use Rattle.process_tree.specs.Termination.{Fault}
use Rattle.commute_table.specs.declared.catalog.Catalog.{Catalog}
use Rattle.schedule_model.specs.declared.history.History.{History}
use Rattle.process_report.specs.Report.{report_text}
use Rattle.command_refusals.specs.declared.status.Status.{Status}
use Rattle.command_refusals.specs.declared.status.Status.TheVariants.{Done, IllFormed}
use Rattle.command_refusals.specs.declared.refusal.Refusal.{Refusal}
use Rattle.command_refusals.specs.Refusals.{refusal_status}
use Rattle.command_refusals.specs.Verdicts.{verdict_lines, any_fault}
use Rattle.command_input.specs.declared.said.Said.{Said}
use Rattle.serve_run.specs.Dialogue.{Dialogue, IsDialogueTold, given_whole}
use Rattle.process_top.specs.Told.{Output, refusal_line, IsTold, IsRefusalTold}

pub data Reply : Type 0 where
  -- the verdicts on these processes
  checked : List Named → List (Option Fault) → Reply
  -- the files were made
  created : Reply
  -- a command over an engine came to its end, with this to say
  ended : Said → Reply
  -- a dialogue was held, in which this was printed, and ended at this status
  served : Dialogue → Status → Reply
  -- the history of file 0, under its catalog
  shown : Catalog → History → Reply
  -- the report is accepted
  accepted : Reply
  -- a text was to be printed as it is: a generated scenario, a page of help, or the version
  printed : List ℕ → Reply
  -- the command did not do what it is for
  refused : Refusal → Reply

-- what is told of a reply at once: a refusal has a line of its own, and a dialogue was told as it was held
abbrev pub is_said : Reply → Bool
is_said (refused r) = false
is_said (served d status) = false
is_said reply = true

-- what a reply refuses, if it is a refusal
abbrev pub refused_of : Reply → Option Refusal
refused_of (refused r) = Some r
refused_of reply = None

abbrev pub status_of : Reply → Status
status_of (checked ps verdicts) = if any_fault verdicts then IllFormed else Done
status_of created = Done
status_of (ended said) = said.status
status_of (served d status) = status
status_of (shown c h) = Done
status_of accepted = Done
status_of (printed text) = Done
status_of (refused r) = refusal_status r

abbrev pub text_of : Reply → List ℕ
text_of (checked ps verdicts) = verdict_lines ps verdicts
text_of created = codes "created\n"
text_of (ended said) = said.text.items
text_of (served d status) = given_whole d ++ d.tail
text_of (shown c h) = report_text c h []
text_of accepted = codes "accepted\n"
text_of (printed text) = text
text_of (refused r) = refusal_line r

-- a reply was told: its text went out, at its status; or it is a refusal whose line needs memory, and it was told that there is
-- none; of a dialogue each answer went out whole, and then what came last was told
abbrev pub IsReplyTold : Reply → Output → Output → Status → Type 0
IsReplyTold (refused r) before after ended_at = IsRefusalTold r before after ended_at
IsReplyTold (served d status) before after ended_at = IsDialogueTold d status before after ended_at
IsReplyTold reply before after ended_at = IsTold (status_of reply) (text_of reply) before after ended_at
