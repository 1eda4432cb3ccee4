use Rattle.std.proofs.Common.{◌<◌, ℕ, length, slice_index_or}
use Rattle.std.proofs.iter.Serving.{serving}
use Rattle.process_tree.specs.declared.entry.Entry.{Entry}
use Rattle.hold_tables.specs.Kept.{IsKnown}
use Rattle.hold_tables.proofs.Places.{each_place}
use Rattle.hold_tables.proofs.reach.conflicts_with.Goals as goal

pub any-requires-clause-callable : goal.any-requires-clause-callable
any-requires-clause-callable c =
    let entries = c.args.entries.now in
    let known : (k : ℕ) (d : Entry) → k < length entries → IsKnown c.args.conflicts.now (slice_index_or entries k d)
    = λ k d less. each_place _ entries k d less c.requires.each in
    grind (serving, known)
