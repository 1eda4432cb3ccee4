use Rattle.command_input.specs.Inputs.{input}
use Rattle.process_top.proofs.Audits.{log_is_audited}
use Rattle.process_top.proofs.Saying.{audit_says}
use Rattle.process_top.proofs.auditing.log.Goals as goal

pub returns : goal.returns
returns g c =
    let before = input g.S.Source c.args.source.now in
    let after = input g.S.Source c.audit.new.source in
    record {
      due = audit_says before after c.audit.result c.audit.ensures;
      complete = λ quiet. log_is_audited c.args.alloc before after quiet c.audit.result c.audit.ensures;
    }
