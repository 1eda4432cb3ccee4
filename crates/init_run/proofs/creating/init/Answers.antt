use Rattle.std.proofs.Common.{◌≡◌, inl, inr, subst}
use Rattle.command_input.specs.FilesLeft.{files}
use Rattle.command_input.specs.Inputs.{input}
use Rattle.init_run.specs.Init.{IsHeldBack, IsInitSaid, IsNotCreated}
use Rattle.init_run.specs.Strict.{IsNotRead}
use Rattle.init_run.proofs.FilesMade.{due_of_read, no_catalog, untouched}
use Rattle.init_run.proofs.InitParts.{first_of_parts}
use Rattle.init_run.proofs.creating.init.Goals as goal

pub returns-in-Err-Refused-clause-due : goal.returns-in-Err-Refused-clause-due
returns-in-Err-Refused-clause-due g c =
    let why = subst (IsNotRead c.args.values c.args.strict (input g.S.Source c.args.source.now) (input g.S.Source c.catalog_of.new.source)) c.in-Err-Refused.field-0-is c.in-Err-Refused.ensures.unmade in
    let due : IsNotCreated c.args.values c.args.strict c.in-Err-Refused.refusal (input g.S.Source c.args.source.now) (input g.S.Source c.catalog_of.new.source) (files g.R.Rack c.args.parts.rack) (files g.R.Rack c.args.parts.rack) =
    first_of_parts c.args.values c.args.strict c.in-Err-Refused.refusal (input g.S.Source c.args.source.now) (input g.S.Source c.catalog_of.new.source) (files g.R.Rack c.args.parts.rack) (files g.R.Rack c.args.parts.rack)
    (inl (why, untouched (g.R.Rack.disk c.args.parts.rack) (g.met.R.Rack.honest c.args.parts.rack))) in
    rw c.in-Err-Refused.field-0-is due

pub returns-in-Err-Held-clause-due : goal.returns-in-Err-Held-clause-due
returns-in-Err-Held-clause-due g c =
    let why : IsHeldBack c.args.values c.args.strict (input g.S.Source c.args.source.now) (input g.S.Source c.catalog_of.new.source) c.in-Err-Held.said =
    subst (IsNotRead c.args.values c.args.strict (input g.S.Source c.args.source.now) (input g.S.Source c.catalog_of.new.source)) c.in-Err-Held.field-0-is c.in-Err-Held.ensures.unmade in
    let due : IsInitSaid c.args.values c.args.strict (input g.S.Source c.args.source.now) (input g.S.Source c.catalog_of.new.source) (files g.R.Rack c.args.parts.rack) (files g.R.Rack c.args.parts.rack) c.in-Err-Held.said =
    inr (why, untouched (g.R.Rack.disk c.args.parts.rack) (g.met.R.Rack.honest c.args.parts.rack)) in
    rw c.in-Err-Held.field-0-is due

pub returns-in-Ok-clause-due : goal.returns-in-Ok-clause-due
returns-in-Ok-clause-due g c =
    due_of_read c.args.values c.args.strict (input g.S.Source c.args.source.now) (input g.S.Source c.catalog_of.new.source) (files g.R.Rack c.args.parts.rack) (files g.R.Rack c.made.result.parts.rack) c.in-Ok.catalog c.in-Ok.said c.made.result.found
    c.in-Ok.ensures.read c.in-Ok.ensures.line c.made.ensures.said c.made.ensures.made c.made.ensures.refused

pub returns-in-Ok-clause-commuting : goal.returns-in-Ok-clause-commuting
returns-in-Ok-clause-commuting g c = no_catalog (c.made.result.parts.rack ≡ c.args.parts.rack) c.made.result.found c.made.ensures.cause
