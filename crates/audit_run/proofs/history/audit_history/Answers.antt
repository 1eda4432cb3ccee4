use Rattle.std.proofs.Common.{List, ℕ, subst}
use Rattle.command_input.specs.FilesLeft.{files}
use Rattle.command_input.specs.Inputs.{input}
use Rattle.command_input.specs.Scenarios.{IsBound, IsNotBound}
use Rattle.audit_run.proofs.JournalParts.{from_file, from_scenario}
use Rattle.audit_run.proofs.history.audit_history.Goals as goal

pub returns-in-Ok-clause-due : goal.returns-in-Ok-clause-due
returns-in-Ok-clause-due g c =
    let found = c.in-Ok.bound in
    from_file (input g.S.Source c.args.source.now) (input g.S.Source c.text_of.new.source) (files g.R.Rack c.args.rack.now) (files g.R.Rack c.file_said.new.rack) c.in_ok-text.text.items c.in_ok-text.ensures.text
    found.catalog found.plans.items c.file_said.result (subst (λ (t : List ℕ). IsBound t found.catalog found.plans.items) c.deref.ensures.value c.in-Ok.ensures.bound) c.file_said.ensures.said c.file_said.ensures.refused

pub returns-clause-due : goal.returns-clause-due
returns-clause-due g c =
    from_scenario (input g.S.Source c.args.source.now) (input g.S.Source c.text_of.new.source) (files g.R.Rack c.args.rack.now) (files g.R.Rack c.args.rack.now) c.in_ok-text.text.items c.in_ok-text.ensures.text
    c.in-Err.none c.told.result (subst (λ (t : List ℕ). IsNotBound t c.in-Err.none) c.deref.ensures.value c.in-Err.ensures.refused) c.told.ensures
