use Rattle.std.proofs.Common.{◌≡◌, true, refl, sym, ◌∙◌, ap, subst, None, Some}
use Rattle.std.specs.Prelude.{List, slice_set}
use Rattle.process_tree.specs.Conflicts.{do_conflict}
use Rattle.hold_tables.specs.Tables.{OpenProcess, Tables, has_number, kept_of, numbered}
use Rattle.hold_tables.specs.Kept.{AreTidy, IsKnown}
use Rattle.hold_tables.specs.Counts.{pairs_to}
use Rattle.hold_tables.specs.Walks.{arrows_to, step_has_arrows}
use Rattle.hold_tables.specs.Changes.{change_numbered, with_running, can_come}
use Rattle.schedule_model.specs.Histories.{of_process}
use Rattle.hold_tables.specs.Places.{place_of}
use Rattle.process_tree.specs.declared.entry.Entry.{Entry}
use Rattle.hold_tables.proofs.GraphStays.{TellBoth, TellBothBut, arrow_of_step, graph_lent, run_both, run_same}
use Rattle.hold_tables.proofs.Tidy.{found_row, is_among, numbers_stay, returned, row_changed, stood, tables}
use Rattle.hold_tables.specs.Operations.{net_ops, pending_ops, reserved_ops, running_ops}
use Rattle.hold_tables.proofs.Told.{beside_told, place_small, place_within, running_set, stays_told, told_by}
use Rattle.hold_tables.proofs.ToldNet.{net_kept_of, rows_kept}
use Rattle.hold_tables.proofs.holds.Holds.run.Goals as goal

pub invariant_of-self : goal.invariant_of-self
invariant_of-self c = (
  stood (with_running (Some c.args.e)) c.args.e.process c.self.inside.conflicts c.self.inside.net.items c.self.inside.rows.items c.place_of-at.result c.index_mut.result.now c.run.new.self c.args.self.now _ c.self.view_is c.requires.open (c.place_of-at.ensures.place ∙ ap (place_of c.args.e.process) c.deref.ensures.value) c.index_mut.ensures.value c.run.ensures (λ r. (refl, refl))
      (λ tidy own. record { within = tidy.within; once = tidy.once; fixed = tidy.fixed; running = (sym own, subst (λ n. can_come (of_process n c.args.self.now.net) (kept_of c.args.self.now c.args.e.process) c.args.e ≡ true) (sym own) c.requires.may, c.requires.known); reserved = tidy.reserved; fits = tidy.fits; small = tidy.small }) c.self.invariant.0,
  graph_lent c.self.inside.conflicts _ _ _ _ c.tell_run.new.graph.counts c.tell_run.new.graph.walks c.deref-3.ensures.value c.deref-4.ensures.value c.tell_run.ensures.tell,
  beside_told c.self.inside.net.items c.self.inside.net.items c.self.inside.rows.items c.place_of-at.result c.run.new.self c.self.inside.beside _ (place_within c.deref.result.now c.self.inside.rows.items c.place_of-at.result c.deref.ensures.value c.place_of-at.ensures.within) c.self.invariant.2
      (told_by c.place_of-at.result (running_ops c.run.new.self) (running_ops (with_running (Some c.args.e) c.index_mut.result.now)) c.self.inside.beside.running c.tell_running.new.bits (ap running_ops c.run.ensures) c.tell_running.ensures)
      (stays_told (pending_ops c.self.inside.net.items) c.self.inside.rows.items c.place_of-at.result c.index_mut.result.now ((pending_ops c.self.inside.net.items) c.run.new.self) c.self.inside.beside.pending (place_within c.deref.result.now c.self.inside.rows.items c.place_of-at.result c.deref.ensures.value c.place_of-at.ensures.within) c.index_mut.ensures.value (ap (pending_ops c.self.inside.net.items) c.run.ensures) c.self.invariant.2.pending)
      (stays_told reserved_ops c.self.inside.rows.items c.place_of-at.result c.index_mut.result.now (reserved_ops c.run.new.self) c.self.inside.beside.reserved (place_within c.deref.result.now c.self.inside.rows.items c.place_of-at.result c.deref.ensures.value c.place_of-at.ensures.within) c.index_mut.ensures.value (ap reserved_ops c.run.ensures) c.self.invariant.2.reserved)
      (λ p other. refl),
  rows_kept (net_ops c.self.inside.net.items) c.self.inside.rows.items c.place_of-at.result c.run.new.self c.index_mut.result.now c.self.inside.in_net
      (place_within c.deref.result.now c.self.inside.rows.items c.place_of-at.result c.deref.ensures.value c.place_of-at.ensures.within) c.index_mut.ensures.value (ap (net_ops c.self.inside.net.items) c.run.ensures) c.self.invariant.3,
)

pub tell_run-requires-clause-tidy : goal.tell_run-requires-clause-tidy
tell_run-requires-clause-tidy c =
    rw (c.deref-3.ensures.value, c.deref-4.ensures.value) (stood (with_running (Some c.args.e)) c.args.e.process c.self.inside.conflicts c.self.inside.net.items c.self.inside.rows.items c.place_of-at.result c.index_mut.result.now c.run.new.self c.args.self.now _ c.self.view_is c.requires.open (c.place_of-at.ensures.place ∙ ap (place_of c.args.e.process) c.deref.ensures.value) c.index_mut.ensures.value c.run.ensures (λ r. (refl, refl))
    (λ tidy own. record { within = tidy.within; once = tidy.once; fixed = tidy.fixed; running = (sym own, subst (λ n. can_come (of_process n c.args.self.now.net) (kept_of c.args.self.now c.args.e.process) c.args.e ≡ true) (sym own) c.requires.may, c.requires.known); reserved = tidy.reserved; fits = tidy.fits; small = tidy.small }) c.self.invariant.0).0

pub tell_run-requires-clause-placed : goal.tell_run-requires-clause-placed
tell_run-requires-clause-placed c =
    let i = c.args.e.process in
    let change = with_running (Some c.args.e) in
    let rows = c.self.inside.rows.items in
    let has = is_among i c.self.inside.conflicts c.self.inside.net.items rows c.args.self.now c.self.view_is c.requires.open in
    let place = c.place_of-at.ensures.place ∙ ap (place_of i) c.deref.ensures.value in
    let same : slice_set rows c.place_of-at.result c.run.new.self ≡ change_numbered change i rows = row_changed change i rows c.place_of-at.result c.index_mut.result.now c.run.new.self has place c.index_mut.ensures.value c.run.ensures in
    let known : IsKnown c.self.inside.conflicts c.args.e = subst (λ (t : Tables). IsKnown t.conflicts c.args.e) (sym c.self.view_is) c.requires.known in
    rw c.deref-3.ensures.value (known, ap (has_number i) same ∙ numbers_stay change i i rows (λ r. (refl, refl)) ∙ has)

pub tell_run-requires-clause-more : goal.tell_run-requires-clause-more
tell_run-requires-clause-more c =
    let e = c.args.e in
    let i = e.process in
    let change = with_running (Some e) in
    let table = c.self.inside.conflicts in
    let net = c.self.inside.net.items in
    let rows = c.self.inside.rows.items in
    let counts = c.self.inside.graph.counts in
    let walks = c.self.inside.graph.walks in
    let has = is_among i table net rows c.args.self.now c.self.view_is c.requires.open in
    let place = c.place_of-at.ensures.place ∙ ap (place_of i) c.deref.ensures.value in
    let same : slice_set rows c.place_of-at.result c.run.new.self ≡ change_numbered change i rows = row_changed change i rows c.place_of-at.result c.index_mut.result.now c.run.new.self has place c.index_mut.ensures.value c.run.ensures in
    let idle : (numbered i rows).running ≡ None = ap (λ (t : Tables). (kept_of t i).running) c.self.view_is ∙ c.requires.none in
    let tidy : AreTidy (tables table net (slice_set rows c.place_of-at.result c.run.new.self)) =
    rw (c.deref-3.ensures.value, c.deref-4.ensures.value) at (tell_run-requires-clause-tidy c) in
    rw (c.deref-3.ensures.value, c.deref-4.ensures.value) (λ changed.
    subst (λ (rs : List OpenProcess). TellBothBut (tables table net rs) (pairs_to (do_conflict table) net e) (arrows_to (do_conflict table) net e) counts walks) (sym same)
    (run_both i table net rows has counts walks c.self.invariant.0.0 c.self.invariant.1 e idle (subst (λ (rs : List OpenProcess). AreTidy (tables table net rs)) same tidy)
    (arrow_of_step table net e (sym (ap (λ (es : List Entry). step_has_arrows (do_conflict table) es (Some e)) c.deref-2.ensures.value) ∙ sym c.step_has_arrows-changed.ensures ∙ changed))))

pub tell_run-requires-clause-same : goal.tell_run-requires-clause-same
tell_run-requires-clause-same c =
    let e = c.args.e in
    let i = e.process in
    let change = with_running (Some e) in
    let table = c.self.inside.conflicts in
    let net = c.self.inside.net.items in
    let rows = c.self.inside.rows.items in
    let counts = c.self.inside.graph.counts in
    let walks = c.self.inside.graph.walks in
    let has = is_among i table net rows c.args.self.now c.self.view_is c.requires.open in
    let place = c.place_of-at.ensures.place ∙ ap (place_of i) c.deref.ensures.value in
    let same : slice_set rows c.place_of-at.result c.run.new.self ≡ change_numbered change i rows = row_changed change i rows c.place_of-at.result c.index_mut.result.now c.run.new.self has place c.index_mut.ensures.value c.run.ensures in
    let idle : (numbered i rows).running ≡ None = ap (λ (t : Tables). (kept_of t i).running) c.self.view_is ∙ c.requires.none in
    let tidy : AreTidy (tables table net (slice_set rows c.place_of-at.result c.run.new.self)) =
    rw (c.deref-3.ensures.value, c.deref-4.ensures.value) at (tell_run-requires-clause-tidy c) in
    rw (c.deref-3.ensures.value, c.deref-4.ensures.value) (λ none.
    subst (λ (rs : List OpenProcess). TellBoth (tables table net rs) counts walks) (sym same)
    (run_same i table net rows has counts walks c.self.invariant.0.0 c.self.invariant.1 e idle (subst (λ (rs : List OpenProcess). AreTidy (tables table net rs)) same tidy)
    (sym (ap (λ (es : List Entry). step_has_arrows (do_conflict table) es (Some e)) c.deref-2.ensures.value) ∙ sym c.step_has_arrows-changed.ensures ∙ none)))

pub returns : goal.returns
returns c =
    returned (with_running (Some c.args.e)) c.args.e.process c.self.inside.conflicts c.self.inside.net.items c.self.inside.rows.items c.place_of-at.result c.index_mut.result.now c.run.new.self c.args.self.now c.self.view_is c.requires.open (c.place_of-at.ensures.place ∙ ap (place_of c.args.e.process) c.deref.ensures.value) c.index_mut.ensures.value c.run.ensures

pub step_has_arrows-changed-requires-clause-marks : goal.step_has_arrows-changed-requires-clause-marks
step_has_arrows-changed-requires-clause-marks c = net_kept_of c.self.inside.conflicts c.self.inside.net.items c.deref-2.result.now c.self.inside.rows.items c.self.inside.in_net c.self.invariant.0.0 c.self.invariant.3 c.deref-2.ensures.value

pub tell_running-requires-clause-rows : goal.tell_running-requires-clause-rows
tell_running-requires-clause-rows c = c.self.invariant.2.running.count

pub tell_running-requires-clause-place : goal.tell_running-requires-clause-place
tell_running-requires-clause-place c = place_small c.deref.result.now c.self.inside.rows.items c.place_of-at.result c.deref.ensures.value c.place_of-at.ensures.within c.self.invariant.1.1.rows.1

pub tell_running-requires-clause-own : goal.tell_running-requires-clause-own
tell_running-requires-clause-own c =
    let i = c.args.e.process in
    let rows = c.self.inside.rows.items in
    let has = is_among i c.self.inside.conflicts c.self.inside.net.items rows c.args.self.now c.self.view_is c.requires.open in
    let place = c.place_of-at.ensures.place ∙ ap (place_of i) c.deref.ensures.value in
    let row = found_row i rows c.place_of-at.result c.index_mut.result.now has place c.index_mut.ensures.value in
    running_set rows c.place_of-at.result c.index_mut.result.now c.self.inside.beside.running None (place_within c.deref.result.now c.self.inside.rows.items c.place_of-at.result c.deref.ensures.value c.place_of-at.ensures.within) c.index_mut.ensures.value c.self.invariant.2.running
    (ap (λ (r : OpenProcess). r.running) row ∙ ap (λ (t : Tables). (kept_of t i).running) c.self.view_is ∙ c.requires.none)
