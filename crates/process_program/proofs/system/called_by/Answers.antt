use Rattle.std.proofs.Common.{sym}
use Rattle.process_program.proofs.system.called_by.Goals as goal

pub returns-in-Ok : goal.returns-in-Ok
returns-in-Ok g c = record { ends = rw (sym c.in-Ok.ensures.parts) c.called.ensures.ends }
