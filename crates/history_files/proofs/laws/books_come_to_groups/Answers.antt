use Rattle.history_files.proofs.GroupBooks.{groups_are_settled, groups_come_to}
use Rattle.history_files.proofs.laws.books_come_to_groups.Goals as goal

pub returns : goal.returns
returns g c = record { prepared = groups_come_to; committed = groups_are_settled }
