use Rattle.command_input.specs.FilesLeft.{files}
use Rattle.std.proofs.Common.{Err}
use Rattle.replay_run.proofs.Completeness.{replay_complete}
use Rattle.replay_run.proofs.Replaying.{due_of_history}
use Rattle.replay_run.proofs.command.replay.Goals as goal

pub returns-in-Ok-clause-due : goal.returns-in-Ok-clause-due
returns-in-Ok-clause-due g c =
    due_of_history c.in-Ok.catalog c.in-Ok.history (files g.R.Rack c.args.parts.rack) (files g.R.Rack c.idle_history.new.rack) c.replayed-resources.result.1 c.in-Ok.ensures.read c.in-Ok.ensures.idle
    c.replayed-resources.ensures.said c.replayed-resources.ensures.refused

pub returns-in-Ok-clause-complete : goal.returns-in-Ok-clause-complete
returns-in-Ok-clause-complete g c quiet =
    replay_complete c.journals_have_one_history.ensures c.journals_are_opened.ensures (files g.R.Rack c.args.parts.rack) (files g.R.Rack c.idle_history.new.rack) quiet c.replayed-resources.result.1
    (due_of_history c.in-Ok.catalog c.in-Ok.history (files g.R.Rack c.args.parts.rack) (files g.R.Rack c.idle_history.new.rack) c.replayed-resources.result.1 c.in-Ok.ensures.read c.in-Ok.ensures.idle
    c.replayed-resources.ensures.said c.replayed-resources.ensures.refused)

pub returns-in-Err-clause-complete : goal.returns-in-Err-clause-complete
returns-in-Err-clause-complete g c quiet =
    replay_complete c.journals_have_one_history.ensures c.journals_are_opened.ensures (files g.R.Rack c.args.parts.rack) (files g.R.Rack c.idle_history.new.rack) quiet (Err c.in-Err.refusal)
    c.in-Err.ensures.refused
