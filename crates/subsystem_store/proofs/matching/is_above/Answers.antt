use Rattle.std.proofs.Common.{sym}
use Rattle.subsystem_store.proofs.Places.{above_last}
use Rattle.subsystem_store.proofs.matching.is_above.Goals as goal

pub returns-in-len1-up : goal.returns-in-len1-up
returns-in-len1-up c = sym (above_last c.args.book.now _ c.args.number c.in-len1-up.len_at_least)
