use Rattle.std.proofs.Common.{sym, ◌∙◌, ap}
use Rattle.std.specs.List.{list_any}
use Rattle.process_tree.specs.Entries.{access_of}
use Rattle.process_tree.specs.Conflicts.{do_conflict, same_access}
use Rattle.history_judging.proofs.ByAccess.{conflicts-listed}
use Rattle.history_judging.proofs.access.Accesses.add.Goals as goal

pub returns-else-not-is_listed-clause-conflicts : goal.returns-else-not-is_listed-clause-conflicts
returns-else-not-is_listed-clause-conflicts c table a =
    let access = access_of c.args.entry.now in
    conflicts-listed (do_conflict table) access a c.args.self.now
    (ap (list_any (same_access access)) (sym c.self.view_is) ∙ (ap (list_any (same_access access)) (sym c.deref.ensures.value) ∙ (sym c.is_listed.ensures ∙ c.if-not-is_listed.false)))
