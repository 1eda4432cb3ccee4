use Rattle.toml.specs.View.{table_view}
use Rattle.refusal_hints.proofs.documents.toml_fault.Goals as goal

pub returns-in_default-clause-fault : goal.returns-in_default-clause-fault
returns-in_default-clause-fault c = (table_view c.in_default.field-0, (c.document.result.now, c.document.ensures.document, c.in_default.ensures.ok.1))
