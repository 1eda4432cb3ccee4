use Rattle.command_input.specs.Inputs.{input}
use Rattle.command_input.specs.FilesLeft.{files}
use Rattle.process_top.proofs.Audits.{history_is_audited}
use Rattle.process_top.proofs.Saying.{history_audit_says}
use Rattle.process_top.proofs.auditing.history.Goals as goal

pub returns-clause-due : goal.returns-clause-due
returns-clause-due g c =
    history_audit_says (input g.S.Source c.args.source.now) (input g.S.Source c.audit_history.new.source) (files g.R.Rack c.args.rack.now) (files g.R.Rack c.audit_history.new.rack) c.audit_history.result c.audit_history.ensures.due

pub returns-clause-complete : goal.returns-clause-complete
returns-clause-complete g c = λ quiet.
    history_is_audited c.args.alloc (input g.S.Source c.args.source.now) (input g.S.Source c.audit_history.new.source) (files g.R.Rack c.args.rack.now) (files g.R.Rack c.audit_history.new.rack) quiet c.audit_history.result c.audit_history.ensures.due
