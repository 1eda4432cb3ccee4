use Rattle.std.proofs.Common.{refl}
use Rattle.process_disk.specs.Disk.{Same}
use Rattle.process_disk.proofs.Images.{run_none}
use Rattle.command_input.specs.FilesLeft.{files}
use Rattle.command_input.specs.Inputs.{input}
use Rattle.command_input.specs.Outputs.{output}
use Rattle.scenario_run.proofs.SaidOfNone.{said_of}
use Rattle.serve_run.specs.declared.command.Ending.TheVariants.{Due}
use Rattle.serve_run.specs.Serve.{IsNoServeRead}
use Rattle.serve_run.proofs.Read.{due_on}
use Rattle.serve_run.proofs.ServeComplete.{ended_well}
use Rattle.serve_run.proofs.ServeParts.{not_served_of_none}
use Rattle.serve_run.proofs.command.serve.Goals as goal

pub returns-in-Ok-clause-due : goal.returns-in-Ok-clause-due
returns-in-Ok-clause-due g c =
    let scene = c.in-Ok.scene in
    let end = c.on_files in
    due_on (input g.S.Source c.args.source.now) (input g.S.Source c.scene_of.new.source) (input g.S.Source end.new.source) (files g.R.Rack c.args.parts.rack) (files g.R.Rack end.result.parts.rack)
    (output g.K.Sink c.args.sink.now) (output g.K.Sink end.new.sink) scene.catalog scene.plans.items scene.first scene.reader c.in-Ok.ensures.scene c.scene_of.ensures.later end.result.ending end.ensures.due

pub returns-in-Ok-clause-complete : goal.returns-in-Ok-clause-complete
returns-in-Ok-clause-complete g c = λ bytes cat plans h has known sound quiet quiet_out.
    let scene = c.in-Ok.scene in
    let end = c.on_files in
    ended_well c.args.alloc (input g.S.Source c.args.source.now) (input g.S.Source end.new.source) (files g.R.Rack c.args.parts.rack) (files g.R.Rack end.result.parts.rack)
    (output g.K.Sink c.args.sink.now) (output g.K.Sink end.new.sink) bytes cat plans h has known sound quiet quiet_out c.sound_files_are_opened.ensures end.result.ending
    (due_on (input g.S.Source c.args.source.now) (input g.S.Source c.scene_of.new.source) (input g.S.Source end.new.source) (files g.R.Rack c.args.parts.rack) (files g.R.Rack end.result.parts.rack)
    (output g.K.Sink c.args.sink.now) (output g.K.Sink end.new.sink) scene.catalog scene.plans.items scene.first scene.reader c.in-Ok.ensures.scene c.scene_of.ensures.later end.result.ending end.ensures.due)

pub returns-in-Err-clause-due : goal.returns-in-Err-clause-due
returns-in-Err-clause-due g c =
    let before = input g.S.Source c.args.source.now in
    let after = input g.S.Source c.scene_of.new.source in
    let rack = files g.R.Rack c.args.parts.rack in (
      not_served_of_none before after rack rack c.said_of_none.result (
        said_of (IsNoServeRead before after) c.in-Err.none c.said_of_none.result c.said_of_none.ensures c.in-Err.ensures.refused,
        λ told. run_none Same (g.R.Rack.disk c.args.parts.rack) (λ fs. refl) (g.met.R.Rack.honest c.args.parts.rack told),
      ),
      refl,
    )

pub returns-in-Err-clause-complete : goal.returns-in-Err-clause-complete
returns-in-Err-clause-complete g c = λ bytes cat plans h has known sound quiet quiet_out.
    ended_well c.args.alloc (input g.S.Source c.args.source.now) (input g.S.Source c.scene_of.new.source) (files g.R.Rack c.args.parts.rack) (files g.R.Rack c.args.parts.rack)
    (output g.K.Sink c.args.sink.now) (output g.K.Sink c.args.sink.now) bytes cat plans h has known sound quiet quiet_out c.sound_files_are_opened.ensures (Due c.said_of_none.result)
    (returns-in-Err-clause-due g c)
