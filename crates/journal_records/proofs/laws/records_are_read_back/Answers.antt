use Rattle.journal_records.proofs.ReadBack.{records_are_read_back}
use Rattle.journal_records.proofs.laws.records_are_read_back.Goals as goal

pub returns : goal.returns
returns c = records_are_read_back
