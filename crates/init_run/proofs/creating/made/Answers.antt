use Rattle.std.proofs.Common.{sym, subst}
use Rattle.command_input.specs.FilesLeft.{files}
use Rattle.init_run.specs.Init.{AreMade, IsOfFiles}
use Rattle.init_run.proofs.FilesMade.{made_of_files}
use Rattle.init_run.proofs.creating.made.Goals as goal

pub returns-in-Ok-clause-made : goal.returns-in-Ok-clause-made
returns-in-Ok-clause-made g c =
    subst (λ r. AreMade c.args.catalog (files g.R.Rack c.args.parts.rack) (files g.R.Rack r)) (sym c.into_parts.ensures.rack)
    (record { empty = λ told. (c.in-Ok.ensures.sound told).empty; read = λ told. (c.in-Ok.ensures.sound told).now; each = λ told. (c.in-Ok.ensures.sound told).each })

pub returns-in-Err-clause-refused : goal.returns-in-Err-clause-refused
returns-in-Err-clause-refused g c =
    let refused = c.in-Err.ensures.refused in
    (c.in-Err.refused.why, c.create_refusal.ensures.refusal, (λ told. (refused told).due), (λ told. (refused told).left), c.in-Err.ensures.rack_back.fault)

pub returns-in-Err-clause-cause : goal.returns-in-Err-clause-cause
returns-in-Err-clause-cause g c = subst IsOfFiles (sym c.create_refusal.ensures.refusal) (made_of_files c.in-Err.refused.why)
