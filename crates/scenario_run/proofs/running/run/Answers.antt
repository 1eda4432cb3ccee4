use Rattle.std.proofs.Common.{refl}
use Rattle.process_disk.specs.Disk.{Same}
use Rattle.process_disk.proofs.Images.{run_none}
use Rattle.command_input.specs.FilesLeft.{files}
use Rattle.command_input.specs.Inputs.{input}
use Rattle.worker_gate.specs.ManyGates.{asked_gates}
use Rattle.scenario_run.proofs.Complete.{due_is_complete}
use Rattle.scenario_run.proofs.RunParts.{due_of_none, due_of_read}
use Rattle.scenario_run.proofs.ScenarioPlans.{bound_few, bound_start}
use Rattle.scenario_run.specs.Scenario.{IsNoScenarioRead}
use Rattle.scenario_run.proofs.SaidOfNone.{said_of}
use Rattle.scenario_run.proofs.running.run.Goals as goal

pub run_bound-requires-clause-plans : goal.run_bound-requires-clause-plans
run_bound-requires-clause-plans g c =
    let read = c.in-Ok.ensures.read in
    λ κs lives. bound_start read.0 c.in-Ok.bound.catalog c.in-Ok.bound.plans.items read.2

pub run_bound-requires-clause-few : goal.run_bound-requires-clause-few
run_bound-requires-clause-few g c =
    let read = c.in-Ok.ensures.read in
    λ κs lives. bound_few read.0 c.in-Ok.bound.catalog c.in-Ok.bound.plans.items read.2

pub returns-in-Ok-clause-due : goal.returns-in-Ok-clause-due
returns-in-Ok-clause-due g c =
    due_of_read (input g.S.Source c.args.source.now) (input g.S.Source c.scenario_from.new.source) (files g.R.Rack c.args.parts.rack) (files g.R.Rack c.run_bound.result.parts.rack)
    (asked_gates g.G.Gate c.args.gates.items c.run_bound.result.gates.items) c.in-Ok.bound.catalog c.in-Ok.bound.plans.items c.run_bound.result.found c.in-Ok.ensures.read c.run_bound.ensures.due

pub returns-in-Ok-clause-complete : goal.returns-in-Ok-clause-complete
returns-in-Ok-clause-complete g c =
    due_is_complete c.args.alloc (asked_gates g.G.Gate c.args.gates.items c.run_bound.result.gates.items) (input g.S.Source c.args.source.now) (input g.S.Source c.scenario_from.new.source)
    (files g.R.Rack c.args.parts.rack) (files g.R.Rack c.run_bound.result.parts.rack) c.run_bound.result.found c.sound_files_are_opened.ensures (returns-in-Ok-clause-due g c)

pub returns-in-Err-clause-due : goal.returns-in-Err-clause-due
returns-in-Err-clause-due g c =
    due_of_none (input g.S.Source c.args.source.now) (input g.S.Source c.scenario_from.new.source) (files g.R.Rack c.args.parts.rack) (files g.R.Rack c.args.parts.rack)
    (asked_gates g.G.Gate c.args.gates.items c.args.gates.items) c.said_of_none.result (
      said_of (IsNoScenarioRead (input g.S.Source c.args.source.now) (input g.S.Source c.scenario_from.new.source)) c.in-Err.none c.said_of_none.result c.said_of_none.ensures c.in-Err.ensures.refused,
      λ told. run_none Same (g.R.Rack.disk c.args.parts.rack) (λ fs. refl) (c.racks_are_honest.ensures c.args.parts.rack told),
      refl,
    )

pub returns-in-Err-clause-complete : goal.returns-in-Err-clause-complete
returns-in-Err-clause-complete g c =
    due_is_complete c.args.alloc (asked_gates g.G.Gate c.args.gates.items c.args.gates.items) (input g.S.Source c.args.source.now) (input g.S.Source c.scenario_from.new.source)
    (files g.R.Rack c.args.parts.rack) (files g.R.Rack c.args.parts.rack) c.said_of_none.result c.sound_files_are_opened.ensures (returns-in-Err-clause-due g c)
