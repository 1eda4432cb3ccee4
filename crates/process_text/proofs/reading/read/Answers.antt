use Rattle.process_text.proofs.ProcessesPassing.{error_has_no_reading, reading_has_no_error}
use Rattle.process_text.proofs.reading.read.Goals as goal

pub returns-clause-no_reading : goal.returns-clause-no_reading
returns-clause-no_reading c = error_has_no_reading c.read_text.result c.args.bytes.now c.read_text.ensures.fault

pub returns-clause-no_fault : goal.returns-clause-no_fault
returns-clause-no_fault c = reading_has_no_error (λ found. found.items) c.read_text.result c.args.bytes.now c.read_text.ensures.reading
