use Rattle.std.proofs.Common.{◌∙◌, ap, inr, map, string_bytes}
use Rattle.process_program.proofs.system.program_of_system.Goals as goal

pub returns-in-Ok : goal.returns-in-Ok
returns-in-Ok g c =
    let words = ap (map string_bytes) c.deref.ensures.value ∙ c.in-Ok.ensures in
    let ends = rw words at (rw c.new-errors.ensures at (rw c.new-sink.ensures at c.called_by.ensures.ends)) in
    record { ends = (c.called_by.new.sink, c.called_by.new.errors, ends) }

pub returns-in-Err : goal.returns-in-Err
returns-in-Err g c =
    record { ends = (c.new-sink.result, c.new-errors.result, inr (inr (c.from.ensures ∙ c.number.ensures, c.new-sink.ensures, c.new-errors.ensures))) }
