use Rattle.std.proofs.Common.{◌≡◌, [], List, get_or-set_same, sym, refl, ◌∙◌, ap, None, Some, subst}
use Rattle.std.specs.Prelude.{slice_set}
use Rattle.hold_tables.proofs.LastAway.{other_without}
use Rattle.process_tree.specs.declared.entry.Entry.{Entry}
use Rattle.process_tree.specs.Conflicts.{do_conflict}
use Rattle.hold_tables.specs.Changes.{net_after, undoes, with_running, without_last}
use Rattle.hold_tables.specs.Counts.{IsUncounted, pairs_of_last}
use Rattle.hold_tables.specs.Operations.{TellBeside, TellRows, net_ops, reserved_ops, running_ops}
use Rattle.hold_tables.specs.Places.{place_of}
use Rattle.hold_tables.specs.Tables.{OpenProcess, Tables, kept_of, numbered}
use Rattle.hold_tables.specs.Walks.{steps_under_way}
use Rattle.hold_tables.proofs.Effects.{effect_returned, effect_stands}
use Rattle.hold_tables.proofs.GraphStays.{graph_lent, uncounted_lent, undo_of, undone_counts, undone_walks}
use Rattle.hold_tables.specs.Kept.{AreTidy, IsTidy}
use Rattle.hold_tables.proofs.Tidy.{each_numbered, found_row, is_among, row_changed, tables}
use Rattle.hold_tables.proofs.Told.{beside_told, none_set, pending_elsewhere, pending_lent, place_small, place_within, running_set, stays_told, told_by}
use Rattle.hold_tables.proofs.ToldNet.{net_elsewhere, net_kept_of, net_undone}
use Rattle.hold_tables.proofs.holds.Holds.undone.Goals as goal

pub invariant_of-self : goal.invariant_of-self
invariant_of-self c =
    let i = c.args.process in
    let table = c.self.inside.conflicts in
    let net = c.self.inside.net.items in
    let rows = c.self.inside.rows.items in
    let old = c.self.inside.graph.counts in
    let walks = c.self.inside.graph.walks in
    let has = is_among i table net rows c.args.self.now c.self.view_is c.requires.open in
    let place = c.place_of-at.ensures.place ∙ ap (place_of i) c.deref.ensures.value in
    let same = row_changed (with_running None) i rows c.place_of-at.result c.index_mut.result.now c.run.new.self has place c.index_mut.ensures.value c.run.ensures in
    let undo = undo_of (numbered i rows).running (ap (λ (t : Tables). undoes (kept_of t i).running) c.self.view_is ∙ c.requires.undo) in
    let e = undo.0 in
    let settled : net_after i (Some e) net ≡ without_last i net = rw undo.2 refl in
    let own : c.run.new.self.process ≡ i =
    ap (λ (r : OpenProcess). r.process) c.run.ensures ∙ ap (λ (r : OpenProcess). r.process) (found_row i rows c.place_of-at.result c.index_mut.result.now has place c.index_mut.ensures.value)
    ∙ (each_numbered (IsTidy table net) i rows has c.self.invariant.0.0.tidy).1 in
    let after : AreTidy (tables table (without_last i net) (slice_set rows c.place_of-at.result c.run.new.self)) = rw (same, ← settled) (effect_stands i table net rows _ e has undo.1 c.self.invariant.0).0 in (
      rw (c.remove_last.ensures.net, c.remove_last.ensures.capacity, same, ← settled) (effect_stands i table net rows _ e has undo.1 c.self.invariant.0),
      graph_lent table _ _ _ _ c.close_if.new.graph.counts c.close_if.new.graph.walks c.deref-4.ensures.value c.deref-5.ensures.value c.close_if.ensures.tell,
      subst (λ (es : List Entry). TellBeside es (slice_set rows c.place_of-at.result c.run.new.self) (record { running = c.tell_running.new.bits; pending = c.tell_pending.new.bits; reserved = c.self.inside.beside.reserved })) (sym c.remove_last.ensures.net)
          (beside_told c.self.inside.net.items (without_last i net) rows c.place_of-at.result c.run.new.self c.self.inside.beside (record { running = c.tell_running.new.bits; pending = c.tell_pending.new.bits; reserved = c.self.inside.beside.reserved }) (place_within c.deref.result.now c.self.inside.rows.items c.place_of-at.result c.deref.ensures.value c.place_of-at.ensures.within) c.self.invariant.2
          (told_by c.place_of-at.result (running_ops c.run.new.self) [] c.self.inside.beside.running c.tell_running.new.bits (ap running_ops c.run.ensures) c.tell_running.ensures)
          (pending_lent (without_last i net) c.deref-6.result.now rows c.place_of-at.result c.run.new.self c.index-3.result.now c.self.inside.beside.pending c.tell_pending.new.bits (place_within c.deref.result.now c.self.inside.rows.items c.place_of-at.result c.deref.ensures.value c.place_of-at.ensures.within) (c.deref-6.ensures.value ∙ c.remove_last.ensures.net) c.index-3.ensures c.tell_pending.ensures)
          (stays_told reserved_ops rows c.place_of-at.result c.index_mut.result.now (reserved_ops c.run.new.self) c.self.inside.beside.reserved (place_within c.deref.result.now c.self.inside.rows.items c.place_of-at.result c.deref.ensures.value c.place_of-at.ensures.within) c.index_mut.ensures.value (ap reserved_ops c.run.ensures) c.self.invariant.2.reserved)
          (λ p other. pending_elsewhere i net (without_last i net) rows c.self.invariant.0.0.numbered (λ k other. other_without i k net other) p (λ is. other (is ∙ sym place)))),
      subst (λ (es : List Entry). TellRows (net_ops es) (slice_set rows c.place_of-at.result c.run.new.self) c.tell_net.new.bits) (sym c.remove_last.ensures.net)
          (net_undone table net (without_last i net) c.deref-7.result.now rows c.place_of-at.result c.run.new.self i c.self.inside.in_net c.tell_net.new.bits (place_within c.deref.result.now c.self.inside.rows.items c.place_of-at.result c.deref.ensures.value c.place_of-at.ensures.within)
          (c.deref-7.ensures.value ∙ c.remove_last.ensures.net) own after.tidy c.self.invariant.3 c.tell_net.ensures
          (λ p other. net_elsewhere i net (without_last i net) rows c.self.invariant.0.0.numbered (λ k other. other_without i k net other) p (λ is. other (is ∙ sym place)))),
    )

pub close_if-requires-clause-tidy : goal.close_if-requires-clause-tidy
close_if-requires-clause-tidy c =
    let i = c.args.process in
    let table = c.self.inside.conflicts in
    let net = c.self.inside.net.items in
    let rows = c.self.inside.rows.items in
    let old = c.self.inside.graph.counts in
    let walks = c.self.inside.graph.walks in
    let has = is_among i table net rows c.args.self.now c.self.view_is c.requires.open in
    let place = c.place_of-at.ensures.place ∙ ap (place_of i) c.deref.ensures.value in
    let same = row_changed (with_running None) i rows c.place_of-at.result c.index_mut.result.now c.run.new.self has place c.index_mut.ensures.value c.run.ensures in
    let undo = undo_of (numbered i rows).running (ap (λ (t : Tables). undoes (kept_of t i).running) c.self.view_is ∙ c.requires.undo) in
    let e = undo.0 in
    let settled : net_after i (Some e) net ≡ without_last i net = rw undo.2 refl in
    rw (c.deref-4.ensures.value, c.deref-5.ensures.value, c.remove_last.ensures.net, same, ← settled) (effect_stands i table net rows _ e has undo.1 c.self.invariant.0).0

pub close_if-requires-clause-counts : goal.close_if-requires-clause-counts
close_if-requires-clause-counts c =
    let i = c.args.process in
    let table = c.self.inside.conflicts in
    let net = c.self.inside.net.items in
    let rows = c.self.inside.rows.items in
    let old = c.self.inside.graph.counts in
    let walks = c.self.inside.graph.walks in
    let has = is_among i table net rows c.args.self.now c.self.view_is c.requires.open in
    let place = c.place_of-at.ensures.place ∙ ap (place_of i) c.deref.ensures.value in
    let same = row_changed (with_running None) i rows c.place_of-at.result c.index_mut.result.now c.run.new.self has place c.index_mut.ensures.value c.run.ensures in
    let undo = undo_of (numbered i rows).running (ap (λ (t : Tables). undoes (kept_of t i).running) c.self.view_is ∙ c.requires.undo) in
    let e = undo.0 in
    let settled : net_after i (Some e) net ≡ without_last i net = rw undo.2 refl in
    let gone = c.uncount_last-gone.result in
    let new = c.uncount_last-gone.new.counts in
    let off : IsUncounted rows (pairs_of_last (do_conflict table) (steps_under_way rows) i net) gone old new =
    uncounted_lent rows c.deref-2.result.now _ (pairs_of_last (do_conflict table) (steps_under_way c.deref-2.result.now) i c.deref-3.result.now) gone old new c.deref-2.ensures.value
    (ap (λ (rs : List OpenProcess). pairs_of_last (do_conflict table) (steps_under_way rs) i c.deref-3.result.now) c.deref-2.ensures.value
    ∙ ap (λ (es : List Entry). pairs_of_last (do_conflict table) (steps_under_way rows) i es) c.deref-3.ensures.value) c.uncount_last-gone.ensures in
    rw (c.deref-4.ensures.value, c.deref-5.ensures.value, c.remove_last.ensures.net, same)
    (undone_counts i table net rows has old walks c.self.invariant.0.0 c.self.invariant.1 e undo.1 undo.2 gone new off)

pub close_if-requires-clause-same : goal.close_if-requires-clause-same
close_if-requires-clause-same c =
    let i = c.args.process in
    let table = c.self.inside.conflicts in
    let net = c.self.inside.net.items in
    let rows = c.self.inside.rows.items in
    let old = c.self.inside.graph.counts in
    let walks = c.self.inside.graph.walks in
    let has = is_among i table net rows c.args.self.now c.self.view_is c.requires.open in
    let place = c.place_of-at.ensures.place ∙ ap (place_of i) c.deref.ensures.value in
    let same = row_changed (with_running None) i rows c.place_of-at.result c.index_mut.result.now c.run.new.self has place c.index_mut.ensures.value c.run.ensures in
    let undo = undo_of (numbered i rows).running (ap (λ (t : Tables). undoes (kept_of t i).running) c.self.view_is ∙ c.requires.undo) in
    let e = undo.0 in
    let settled : net_after i (Some e) net ≡ without_last i net = rw undo.2 refl in
    let gone = c.uncount_last-gone.result in
    let new = c.uncount_last-gone.new.counts in
    let off : IsUncounted rows (pairs_of_last (do_conflict table) (steps_under_way rows) i net) gone old new =
    uncounted_lent rows c.deref-2.result.now _ (pairs_of_last (do_conflict table) (steps_under_way c.deref-2.result.now) i c.deref-3.result.now) gone old new c.deref-2.ensures.value
    (ap (λ (rs : List OpenProcess). pairs_of_last (do_conflict table) (steps_under_way rs) i c.deref-3.result.now) c.deref-2.ensures.value
    ∙ ap (λ (es : List Entry). pairs_of_last (do_conflict table) (steps_under_way rows) i es) c.deref-3.ensures.value) c.uncount_last-gone.ensures in
    rw (c.deref-4.ensures.value, c.deref-5.ensures.value, c.remove_last.ensures.net, same) (λ kept.
    undone_walks i table net rows has old walks c.self.invariant.0.0 c.self.invariant.1 e undo.1 undo.2 gone new off
    (rw (← settled) (effect_stands i table net rows _ e has undo.1 c.self.invariant.0).0) kept)

pub returns : goal.returns
returns c =
    let i = c.args.process in
    let table = c.self.inside.conflicts in
    let net = c.self.inside.net.items in
    let rows = c.self.inside.rows.items in
    let old = c.self.inside.graph.counts in
    let walks = c.self.inside.graph.walks in
    let has = is_among i table net rows c.args.self.now c.self.view_is c.requires.open in
    let place = c.place_of-at.ensures.place ∙ ap (place_of i) c.deref.ensures.value in
    let same = row_changed (with_running None) i rows c.place_of-at.result c.index_mut.result.now c.run.new.self has place c.index_mut.ensures.value c.run.ensures in
    let undo = undo_of (numbered i rows).running (ap (λ (t : Tables). undoes (kept_of t i).running) c.self.view_is ∙ c.requires.undo) in
    let e = undo.0 in
    let settled : net_after i (Some e) net ≡ without_last i net = rw undo.2 refl in
    effect_returned i table net rows e c.remove_last.new.net.items _ c.args.self.now c.self.view_is undo.1 (c.remove_last.ensures.net ∙ sym settled) same

pub tell_net-requires-clause-rows : goal.tell_net-requires-clause-rows
tell_net-requires-clause-rows c = c.self.invariant.3.count

pub tell_net-requires-clause-place : goal.tell_net-requires-clause-place
tell_net-requires-clause-place c = place_small c.deref.result.now c.self.inside.rows.items c.place_of-at.result c.deref.ensures.value c.place_of-at.ensures.within c.self.invariant.1.1.rows.1

pub uncount_last-gone-requires-clause-marks : goal.uncount_last-gone-requires-clause-marks
uncount_last-gone-requires-clause-marks c = net_kept_of c.self.inside.conflicts c.self.inside.net.items c.deref-3.result.now c.self.inside.rows.items c.self.inside.in_net c.self.invariant.0.0 c.self.invariant.3 c.deref-3.ensures.value

pub tell_running-requires-clause-rows : goal.tell_running-requires-clause-rows
tell_running-requires-clause-rows c = c.self.invariant.2.running.count

pub tell_running-requires-clause-place : goal.tell_running-requires-clause-place
tell_running-requires-clause-place c = place_small c.deref.result.now c.self.inside.rows.items c.place_of-at.result c.deref.ensures.value c.place_of-at.ensures.within c.self.invariant.1.1.rows.1

pub tell_running-requires-clause-own : goal.tell_running-requires-clause-own
tell_running-requires-clause-own c =
    running_set c.self.inside.rows.items c.place_of-at.result c.index.result.now c.self.inside.beside.running c.running-running.result (place_within c.deref.result.now c.self.inside.rows.items c.place_of-at.result c.deref.ensures.value c.place_of-at.ensures.within) c.index.ensures c.self.invariant.2.running (sym c.running-running.ensures)

pub tell_pending-requires-clause-rows : goal.tell_pending-requires-clause-rows
tell_pending-requires-clause-rows c = c.self.invariant.2.pending.count

pub tell_pending-requires-clause-place : goal.tell_pending-requires-clause-place
tell_pending-requires-clause-place c = place_small c.deref.result.now c.self.inside.rows.items c.place_of-at.result c.deref.ensures.value c.place_of-at.ensures.within c.self.invariant.1.1.rows.1

pub tell_pending-requires-clause-none : goal.tell_pending-requires-clause-none
tell_pending-requires-clause-none c =
    let row : c.index-2.result.now ≡ c.run.new.self = c.index-2.ensures ∙ get_or-set_same c.self.inside.rows.items c.place_of-at.result c.run.new.self c.index-2.result.now (place_within c.deref.result.now c.self.inside.rows.items c.place_of-at.result c.deref.ensures.value c.place_of-at.ensures.within) in
    λ none. none_set c.self.inside.net.items c.self.inside.rows.items c.place_of-at.result c.index_mut.result.now c.self.inside.beside.pending (place_within c.deref.result.now c.self.inside.rows.items c.place_of-at.result c.deref.ensures.value c.place_of-at.ensures.within) c.index_mut.ensures.value c.self.invariant.2.pending
    (ap (λ (r : OpenProcess). r.pending) (sym c.run.ensures ∙ sym row) ∙ sym c.pending.ensures ∙ none)
