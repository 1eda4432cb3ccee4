use Rattle.std.proofs.Common.{◌∙◌, ap, sym}
use Rattle.hold_tables.specs.Tables.{Tables}
use Rattle.core_state.specs.Cores.{courses_in, moment_of}
use Rattle.core_state.specs.OpenTables.{last_pending}
use Rattle.core_state.proofs.KeptSeen.{kept_seen}
use Rattle.core_state.proofs.PendingEntries.{undo_in_tables}
use Rattle.process_core.proofs.cores.Core.undo_next.Goals as goal

pub returns : goal.returns
returns c =
    let v = c.args.self.now in
    let tables = (kept_seen c.self.view_is c.self.invariant).stands.tables in
    c.last_pending.ensures ∙ (ap (λ (t : Tables). last_pending t t.net) tables ∙ sym (undo_in_tables (courses_in v) (moment_of v) v.conflicts))
