use Rattle.std.proofs.Common.{◌≡◌, rules, Err, refl}
use Rattle.command_refusals.specs.declared.refusal.Refusal.TheVariants.{NoMemory}
use Rattle.process_top.specs.Replies.{shown}
use Rattle.command_input.specs.FilesLeft.{files}
use Rattle.process_top.proofs.Saying.{is_planned, no_memory_shown}
use Rattle.process_top.proofs.show.show.Goals as goal

pub report-requires-clause-planned : goal.report-requires-clause-planned
report-requires-clause-planned g c = is_planned c.in_ok-catalog.catalog c.in_ok-catalog.history c.in_ok-catalog.ensures.opened.0

pub returns-in_err-text-clause-due : goal.returns-in_err-text-clause-due
returns-in_err-text-clause-due g c =
    let failed : c.from_residual-in_err-text.result ≡ Err NoMemory = search rules in
    rw failed (no_memory_shown (files g.R.Rack c.args.rack.now) (files g.R.Rack c.opened.new.rack))

pub returns-clause-due : goal.returns-clause-due
returns-clause-due g c = (shown c.in_ok-catalog.catalog c.in_ok-catalog.history, refl, c.in_ok-catalog.ensures.opened, c.in_ok-text.ensures, refl)
