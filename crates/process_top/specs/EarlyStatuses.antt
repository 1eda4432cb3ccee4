-- At which statuses of a command the rack is as it was.
use Rattle.std.specs.Prelude.{Bool, true, false, Option, Some}
use Rattle.program_words.specs.declared.reading.Command.{Command}
use Rattle.program_words.specs.declared.reading.Command.TheVariants.{Run, Session, Serve, Replay, Audit, Bulk}
use Rattle.command_refusals.specs.declared.status.Status.{Status}
use Rattle.command_refusals.specs.declared.status.Status.TheVariants as statuses

-- the statuses of what is refused before the rack is called, and of verdicts
abbrev pub is_early_status : Status → Bool
is_early_status statuses.BadWords = true
is_early_status statuses.BadInput = true
is_early_status statuses.IllFormed = true
is_early_status statuses.Limit = true
is_early_status statuses.ReadFault = true
is_early_status statuses.NotReduced = true
is_early_status status = false

-- the statuses that come before the files at each command
abbrev pub is_always_early : Status → Bool
is_always_early statuses.BadWords = true
is_always_early statuses.IllFormed = true
is_always_early statuses.ReadFault = true
is_always_early statuses.NotReduced = true
is_always_early status = false

-- and those of them that do so at a command that goes on reading while it calls the rack
abbrev pub is_early_in_dialogue : Status → Bool
is_early_in_dialogue statuses.BadWords = true
is_early_in_dialogue statuses.IllFormed = true
is_early_in_dialogue statuses.NotReduced = true
is_early_in_dialogue status = false

-- and those that do so where a history is audited, which may end as one that can't be reduced
abbrev pub is_early_in_audit : Status → Bool
is_early_in_audit statuses.BadWords = true
is_early_in_audit statuses.IllFormed = true
is_early_in_audit statuses.ReadFault = true
is_early_in_audit status = false

-- those that do so at this one: `run`, `session`, `serve` and `replay` read the catalog of the files too, `run` and `bulk` how much they have,
-- and `audit --history` their history
abbrev pub is_early_for : Option Command → Status → Bool
is_early_for (Some (Run workers)) s = is_always_early s
is_early_for (Some Session) s = is_always_early s
is_early_for (Some Serve) s = is_early_in_dialogue s
is_early_for (Some Replay) s = is_always_early s
is_early_for (Some (Audit true)) s = is_early_in_audit s
is_early_for (Some (Bulk number count)) s = is_always_early s
is_early_for o s = is_early_status s
