use Rattle.std.proofs.Common.{sym}
use Rattle.subsystem_store.proofs.Places.{commits_at_last}
use Rattle.subsystem_store.proofs.matching.commits.Goals as goal

pub returns-in-len1-up : goal.returns-in-len1-up
returns-in-len1-up c = sym (commits_at_last c.args.doubt.now _ c.args.number c.in-len1-up.len_at_least)
