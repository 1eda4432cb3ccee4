use Rattle.std.proofs.Common.{refl}
use Rattle.process_disk.specs.Disk.{Same}
use Rattle.process_disk.proofs.Images.{run_none}
use Rattle.command_input.specs.Inputs.{input}
use Rattle.command_input.specs.FilesLeft.{files}
use Rattle.scenario_run.proofs.SaidOfNone.{said_of}
use Rattle.session_run.specs.Session.{IsNoSessionRead}
use Rattle.session_run.proofs.SessionComplete.{due_is_complete}
use Rattle.session_run.proofs.SessionParts.{due_of_none, due_of_read}
use Rattle.session_run.proofs.command.session.Goals as goal

pub returns-in-Err-clause-due : goal.returns-in-Err-clause-due
returns-in-Err-clause-due g c =
    let before = input g.S.Source c.args.source.now in
    let after = input g.S.Source c.script_of.new.source in
    let rack = files g.R.Rack c.args.parts.rack in
    due_of_none before after rack rack c.said_of_none.result (
      said_of (IsNoSessionRead before after) c.in-Err.none c.said_of_none.result c.said_of_none.ensures c.in-Err.ensures.refused,
      λ told. run_none Same (g.R.Rack.disk c.args.parts.rack) (λ fs. refl) (g.met.R.Rack.honest c.args.parts.rack told),
    )

pub returns-in-Err-clause-complete : goal.returns-in-Err-clause-complete
returns-in-Err-clause-complete g c =
    let rack = files g.R.Rack c.args.parts.rack in
    due_is_complete c.args.alloc (input g.S.Source c.args.source.now) (input g.S.Source c.script_of.new.source) rack rack c.said_of_none.result c.sound_files_are_opened.ensures (returns-in-Err-clause-due g c)

pub returns-in-Ok-clause-due : goal.returns-in-Ok-clause-due
returns-in-Ok-clause-due g c =
    let s = c.in-Ok.script in
    due_of_read (input g.S.Source c.args.source.now) (input g.S.Source c.script_of.new.source) (files g.R.Rack c.args.parts.rack) (files g.R.Rack c.on_files.result.parts.rack) s.catalog s.plans.items s.lines.items
    c.on_files.result.found c.in-Ok.ensures.read c.on_files.ensures.due

pub returns-in-Ok-clause-complete : goal.returns-in-Ok-clause-complete
returns-in-Ok-clause-complete g c =
    due_is_complete c.args.alloc (input g.S.Source c.args.source.now) (input g.S.Source c.script_of.new.source) (files g.R.Rack c.args.parts.rack) (files g.R.Rack c.on_files.result.parts.rack) c.on_files.result.found
    c.sound_files_are_opened.ensures (returns-in-Ok-clause-due g c)
