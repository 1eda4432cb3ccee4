use Rattle.std.proofs.Common.{◌≡◌, List, sym, refl, ◌∙◌, ap, None, subst}
use Rattle.std.specs.Prelude.{slice_set}
use Rattle.process_tree.specs.declared.entry.Entry.{Entry}
use Rattle.process_tree.specs.Conflicts.{do_conflict}
use Rattle.hold_tables.specs.Counts.{IsUncounted, TellCounts, pairs_to_step}
use Rattle.hold_tables.specs.Tables.{OpenProcess, numbered}
use Rattle.hold_tables.specs.Kept.{AreTidy}
use Rattle.hold_tables.specs.Walks.{TellWalks}
use Rattle.hold_tables.specs.Changes.{with_running}
use Rattle.hold_tables.specs.Places.{place_of}
use Rattle.hold_tables.proofs.GraphStays.{graph_lent, stop_among, stop_counts, stop_walks, uncounted_lent}
use Rattle.hold_tables.proofs.Tidy.{found_row, is_among, returned, row_changed, stood, tables}
use Rattle.hold_tables.specs.Operations.{net_ops, pending_ops, reserved_ops, running_ops}
use Rattle.hold_tables.proofs.Told.{beside_told, place_small, place_within, running_set, stays_told, told_by}
use Rattle.hold_tables.proofs.ToldNet.{rows_kept}
use Rattle.hold_tables.proofs.holds.Holds.stop.Goals as goal

pub invariant_of-self : goal.invariant_of-self
invariant_of-self c = (
  stood (with_running None) c.args.process c.self.inside.conflicts c.self.inside.net.items c.self.inside.rows.items c.place_of-at.result c.index_mut.result.now c.run.new.self c.args.self.now _ c.self.view_is c.requires.open (c.place_of-at.ensures.place ∙ ap (place_of c.args.process) c.deref.ensures.value) c.index_mut.ensures.value c.run.ensures (λ r. (refl, refl))
      (λ tidy own. record { within = tidy.within; once = tidy.once; fixed = tidy.fixed; running = tt; reserved = tidy.reserved; fits = tidy.fits; small = tidy.small }) c.self.invariant.0,
  graph_lent c.self.inside.conflicts _ _ _ _ c.close_if.new.graph.counts c.close_if.new.graph.walks c.deref-4.ensures.value c.deref-5.ensures.value c.close_if.ensures.tell,
  beside_told c.self.inside.net.items c.self.inside.net.items c.self.inside.rows.items c.place_of-at.result c.run.new.self c.self.inside.beside _ (place_within c.deref.result.now c.self.inside.rows.items c.place_of-at.result c.deref.ensures.value c.place_of-at.ensures.within) c.self.invariant.2
      (told_by c.place_of-at.result (running_ops c.run.new.self) (running_ops (with_running None c.index_mut.result.now)) c.self.inside.beside.running c.tell_running.new.bits (ap running_ops c.run.ensures) c.tell_running.ensures)
      (stays_told (pending_ops c.self.inside.net.items) c.self.inside.rows.items c.place_of-at.result c.index_mut.result.now ((pending_ops c.self.inside.net.items) c.run.new.self) c.self.inside.beside.pending (place_within c.deref.result.now c.self.inside.rows.items c.place_of-at.result c.deref.ensures.value c.place_of-at.ensures.within) c.index_mut.ensures.value (ap (pending_ops c.self.inside.net.items) c.run.ensures) c.self.invariant.2.pending)
      (stays_told reserved_ops c.self.inside.rows.items c.place_of-at.result c.index_mut.result.now (reserved_ops c.run.new.self) c.self.inside.beside.reserved (place_within c.deref.result.now c.self.inside.rows.items c.place_of-at.result c.deref.ensures.value c.place_of-at.ensures.within) c.index_mut.ensures.value (ap reserved_ops c.run.ensures) c.self.invariant.2.reserved)
      (λ p other. refl),
  rows_kept (net_ops c.self.inside.net.items) c.self.inside.rows.items c.place_of-at.result c.run.new.self c.index_mut.result.now c.self.inside.in_net
      (place_within c.deref.result.now c.self.inside.rows.items c.place_of-at.result c.deref.ensures.value c.place_of-at.ensures.within) c.index_mut.ensures.value (ap (net_ops c.self.inside.net.items) c.run.ensures) c.self.invariant.3,
)

pub close_if-requires-clause-tidy : goal.close_if-requires-clause-tidy
close_if-requires-clause-tidy c =
    rw (c.deref-4.ensures.value, c.deref-5.ensures.value) (stood (with_running None) c.args.process c.self.inside.conflicts c.self.inside.net.items c.self.inside.rows.items c.place_of-at.result c.index_mut.result.now c.run.new.self c.args.self.now _ c.self.view_is c.requires.open (c.place_of-at.ensures.place ∙ ap (place_of c.args.process) c.deref.ensures.value) c.index_mut.ensures.value c.run.ensures (λ r. (refl, refl))
    (λ tidy own. record { within = tidy.within; once = tidy.once; fixed = tidy.fixed; running = tt; reserved = tidy.reserved; fits = tidy.fits; small = tidy.small }) c.self.invariant.0).0

pub returns : goal.returns
returns c =
    returned (with_running None) c.args.process c.self.inside.conflicts c.self.inside.net.items c.self.inside.rows.items c.place_of-at.result c.index_mut.result.now c.run.new.self c.args.self.now c.self.view_is c.requires.open (c.place_of-at.ensures.place ∙ ap (place_of c.args.process) c.deref.ensures.value) c.index_mut.ensures.value c.run.ensures

pub uncount_running-gone-requires-clause-among : goal.uncount_running-gone-requires-clause-among
uncount_running-gone-requires-clause-among c =
    let i = c.args.process in
    let table = c.self.inside.conflicts in
    let net = c.self.inside.net.items in
    let rows = c.self.inside.rows.items in
    let old = c.self.inside.graph.counts in
    let walks = c.self.inside.graph.walks in
    let has = is_among i table net rows c.args.self.now c.self.view_is c.requires.open in
    let place = c.place_of-at.ensures.place ∙ ap (place_of i) c.deref.ensures.value in
    let running_is : c.running-running.result ≡ (numbered i rows).running =
    c.running-running.ensures ∙ ap (λ (r : OpenProcess). r.running) (found_row i rows c.place_of-at.result c.index.result.now has place c.index.ensures) in
    rw (c.deref-2.ensures.value, c.deref-3.ensures.value, running_is) (stop_among i table net rows has old walks c.self.invariant.0.0 c.self.invariant.1)

pub close_if-requires-clause-counts : goal.close_if-requires-clause-counts
close_if-requires-clause-counts c =
    let i = c.args.process in
    let table = c.self.inside.conflicts in
    let net = c.self.inside.net.items in
    let rows = c.self.inside.rows.items in
    let old = c.self.inside.graph.counts in
    let walks = c.self.inside.graph.walks in
    let has = is_among i table net rows c.args.self.now c.self.view_is c.requires.open in
    let place = c.place_of-at.ensures.place ∙ ap (place_of i) c.deref.ensures.value in
    let same = row_changed (with_running None) i rows c.place_of-at.result c.index_mut.result.now c.run.new.self has place c.index_mut.ensures.value c.run.ensures in
    let running_is : c.running-running.result ≡ (numbered i rows).running =
    c.running-running.ensures ∙ ap (λ (r : OpenProcess). r.running) (found_row i rows c.place_of-at.result c.index.result.now has place c.index.ensures) in
    let gone = c.uncount_running-gone.result in
    let new = c.uncount_running-gone.new.counts in
    let off : IsUncounted rows (pairs_to_step (do_conflict table) net (numbered i rows).running) gone old new =
    uncounted_lent rows c.deref-2.result.now _ (pairs_to_step (do_conflict table) c.deref-3.result.now c.running-running.result) gone old new c.deref-2.ensures.value
    (ap (λ (es : List Entry). pairs_to_step (do_conflict table) es c.running-running.result) c.deref-3.ensures.value ∙ ap (pairs_to_step (do_conflict table) net) running_is) c.uncount_running-gone.ensures in
    rw (c.deref-4.ensures.value, c.deref-5.ensures.value)
    (subst (λ (rs : List OpenProcess). TellCounts (tables table net rs) new) (sym same) (stop_counts i table net rows has old walks c.self.invariant.0.0 c.self.invariant.1 gone new off))

pub close_if-requires-clause-same : goal.close_if-requires-clause-same
close_if-requires-clause-same c =
    let i = c.args.process in
    let table = c.self.inside.conflicts in
    let net = c.self.inside.net.items in
    let rows = c.self.inside.rows.items in
    let old = c.self.inside.graph.counts in
    let walks = c.self.inside.graph.walks in
    let has = is_among i table net rows c.args.self.now c.self.view_is c.requires.open in
    let place = c.place_of-at.ensures.place ∙ ap (place_of i) c.deref.ensures.value in
    let same = row_changed (with_running None) i rows c.place_of-at.result c.index_mut.result.now c.run.new.self has place c.index_mut.ensures.value c.run.ensures in
    let running_is : c.running-running.result ≡ (numbered i rows).running =
    c.running-running.ensures ∙ ap (λ (r : OpenProcess). r.running) (found_row i rows c.place_of-at.result c.index.result.now has place c.index.ensures) in
    let gone = c.uncount_running-gone.result in
    let new = c.uncount_running-gone.new.counts in
    let off : IsUncounted rows (pairs_to_step (do_conflict table) net (numbered i rows).running) gone old new =
    uncounted_lent rows c.deref-2.result.now _ (pairs_to_step (do_conflict table) c.deref-3.result.now c.running-running.result) gone old new c.deref-2.ensures.value
    (ap (λ (es : List Entry). pairs_to_step (do_conflict table) es c.running-running.result) c.deref-3.ensures.value ∙ ap (pairs_to_step (do_conflict table) net) running_is) c.uncount_running-gone.ensures in
    let tidy : AreTidy (tables table net (slice_set rows c.place_of-at.result c.run.new.self)) =
    rw (c.deref-4.ensures.value, c.deref-5.ensures.value) at (close_if-requires-clause-tidy c) in
    rw (c.deref-4.ensures.value, c.deref-5.ensures.value) (λ kept.
    subst (λ (rs : List OpenProcess). TellWalks (tables table net rs) walks) (sym same)
    (stop_walks i table net rows has old walks c.self.invariant.0.0 c.self.invariant.1 gone new off (subst (λ (rs : List OpenProcess). AreTidy (tables table net rs)) same tidy) kept))

pub tell_running-requires-clause-rows : goal.tell_running-requires-clause-rows
tell_running-requires-clause-rows c = c.self.invariant.2.running.count

pub tell_running-requires-clause-place : goal.tell_running-requires-clause-place
tell_running-requires-clause-place c = place_small c.deref.result.now c.self.inside.rows.items c.place_of-at.result c.deref.ensures.value c.place_of-at.ensures.within c.self.invariant.1.1.rows.1

pub tell_running-requires-clause-own : goal.tell_running-requires-clause-own
tell_running-requires-clause-own c =
    running_set c.self.inside.rows.items c.place_of-at.result c.index.result.now c.self.inside.beside.running c.running-running.result (place_within c.deref.result.now c.self.inside.rows.items c.place_of-at.result c.deref.ensures.value c.place_of-at.ensures.within) c.index.ensures c.self.invariant.2.running (sym c.running-running.ensures)
