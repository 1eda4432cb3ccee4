use Rattle.gate_log.proofs.Reading.{logs_are_read, one_list_at_most}
use Rattle.gate_log.proofs.laws.logs_are_lists.Goals as goal

pub returns : goal.returns
returns c = record { read = logs_are_read; one = one_list_at_most }
