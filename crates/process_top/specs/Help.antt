-- The commands `help` and `version`.
use Rattle.std.specs.Prelude.{Option}
use Rattle.command_help.specs.Pages.{page_of, version_line}
use Rattle.program_words.specs.declared.names.CommandName.{CommandName}
use Rattle.command_refusals.specs.declared.status.Status.{Status}
use Rattle.process_top.specs.Replies.{Reply}
use Rattle.process_top.specs.Printed.{IsTextDue, IsTextComplete}

-- the page on a command, or on all; or want of memory
abbrev pub IsHelpDue : Option CommandName → Reply → Type 0
IsHelpDue about reply = IsTextDue (page_of about) reply

-- the name and the version of the program; or want of memory
abbrev pub IsVersionDue : Reply → Type 0
IsVersionDue reply = IsTextDue version_line reply

-- either is printed, or memory is wanting
abbrev pub IsHelpComplete : Status → Type 0
IsHelpComplete status = IsTextComplete status
