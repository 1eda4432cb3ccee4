use Rattle.std.proofs.Common.{◌≡◌, rules, Err}
use Rattle.command_refusals.specs.declared.refusal.Refusal.TheVariants.{NoMemory}
use Rattle.command_input.specs.FilesLeft.{files}
use Rattle.audit_run.proofs.JournalParts.{no_memory}
use Rattle.audit_run.proofs.history.file_said.Goals as goal

pub returns-in_err-said-clause-refused : goal.returns-in_err-said-clause-refused
returns-in_err-said-clause-refused g c =
    let failed : c.from_residual-in_err-said.result ≡ Err NoMemory = search rules in
    rw failed (no_memory (files g.R.Rack c.args.rack.now) (files g.R.Rack c.opened.new.rack))
