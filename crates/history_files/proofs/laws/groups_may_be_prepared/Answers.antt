use Rattle.history_files.proofs.NextGroups.{groups_may_be_prepared}
use Rattle.history_files.proofs.laws.groups_may_be_prepared.Goals as goal

pub returns : goal.returns
returns c = groups_may_be_prepared
