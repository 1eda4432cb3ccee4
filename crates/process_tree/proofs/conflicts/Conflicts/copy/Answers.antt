use Rattle.std.proofs.lemmas.List.{take_all}
use Rattle.process_tree.proofs.conflicts.Conflicts.copy.Goals as goal

pub invariant_of-result : goal.invariant_of-result
invariant_of-result c =
    rw (c.loop-row.invariant, take_all c.loop-row.row-index c.deref-row-items.result.now c.loop-row-test.false, c.deref-row-items.ensures.value) c.self.invariant
