use Rattle.std.proofs.Common.{sym, ◌∙◌}
use Rattle.schedule_rules.proofs.OutOfPlace.{out_of_another}
use Rattle.schedule_rules.proofs.serial.is_out_of_place.Goals as goal

pub returns-then-last-entry : goal.returns-then-last-entry
returns-then-last-entry c =
    c.has_process.ensures ∙ sym (out_of_another c.args.before.now _ c.args.entry.now c.in-len1-up.len_at_least c.if-entry.false c.if-last-entry.true)
