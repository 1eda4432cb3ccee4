-- The command `replay`.
use Rattle.std.specs.Prelude.{Ok, Err}
use Rattle.command_input.specs.FilesLeft.{Files}
use Rattle.replay_run.specs.Replay.{IsReplayDue as IsReplayFound}
use Rattle.process_top.specs.Replies.{Reply, ended, refused}

-- what the serial list of the history of file 0 makes of empty books; or what is refused
abbrev pub IsReplayDue : Files → Files → Reply → Type 0
IsReplayDue files files_after (ended said) = IsReplayFound files files_after (Ok said)
IsReplayDue files files_after (refused r) = IsReplayFound files files_after (Err r)
IsReplayDue files files_after reply = ⊥
