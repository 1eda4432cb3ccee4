use Rattle.std.proofs.Common.{false, not, filter, rules, subst, ap, ◌∙◌}
use Rattle.std.specs.Prelude.{nat_eq}
use Rattle.std.proofs.lemmas.Fn.{filter_same}
use Rattle.process_tree.specs.declared.entry.Entry.{Entry}
use Rattle.hold_tables.specs.Tables.{OpenProcess}
use Rattle.hold_tables.specs.Changes.{dropped}
use Rattle.hold_tables.proofs.Tidy.{is_among, tables}
use Rattle.hold_tables.specs.Places.{place_of}
use Rattle.bit_rows.specs.Cells.{IsPlaceTaken}
use Rattle.hold_tables.specs.Walks.{IsAtEnd}
use Rattle.hold_tables.proofs.DroppedWalks.{dropped_counts, dropped_tells, rows_left}
use Rattle.hold_tables.proofs.Opening.{drop_stands}
use Rattle.hold_tables.proofs.GraphStays.{graph_lent}
use Rattle.hold_tables.specs.Operations.{IsColumnTaken, IsProcessTaken}
use Rattle.hold_tables.proofs.Told.{dropped_told, place_small}
use Rattle.hold_tables.proofs.ToldNet.{net_dropped}
use Rattle.hold_tables.proofs.holds.Holds.drop_process.Goals as goal

pub close_if-requires-clause-tidy : goal.close_if-requires-clause-tidy
close_if-requires-clause-tidy c =
    let i = c.args.process in
    let net = filter_same _ (λ (e : Entry). not (nat_eq e.process i)) _ (λ x b f' k. search rules) c.self.inside.net.items c.retain.new.self.items c.retain.ensures.filtered in
    let rows = filter_same _ (λ (r : OpenProcess). not (nat_eq r.process i)) _ (λ x b f' k. search rules) c.self.inside.rows.items c.retain-2.new.self.items c.retain-2.ensures.filtered in
    rw (c.deref-2.ensures.value, c.deref-3.ensures.value, net, rows) (drop_stands i c.self.inside.conflicts c.self.inside.net.items c.self.inside.rows.items _ c.self.invariant.0).0

pub invariant_of-self : goal.invariant_of-self
invariant_of-self c =
    let i = c.args.process in
    let net = filter_same _ (λ (e : Entry). not (nat_eq e.process i)) _ (λ x b f' k. search rules) c.self.inside.net.items c.retain.new.self.items c.retain.ensures.filtered in
    let rows = filter_same _ (λ (r : OpenProcess). not (nat_eq r.process i)) _ (λ x b f' k. search rules) c.self.inside.rows.items c.retain-2.new.self.items c.retain-2.ensures.filtered in
    let has = is_among i c.self.inside.conflicts c.self.inside.net.items c.self.inside.rows.items c.args.self.now c.self.view_is c.requires.open in
    let place = c.place_of-at.ensures.place ∙ ap (place_of i) c.deref.ensures.value in (
      rw (net, rows, c.retain.ensures.capacity) (drop_stands i c.self.inside.conflicts c.self.inside.net.items c.self.inside.rows.items _ c.self.invariant.0),
      graph_lent c.self.inside.conflicts _ _ _ _ c.close_if.new.graph.counts c.close_if.new.graph.walks c.deref-2.ensures.value c.deref-3.ensures.value c.close_if.ensures.tell,
      rw (net, rows) (dropped_told i c.self.inside.net.items c.self.inside.rows.items c.self.inside.beside c.tell_dropped.new.beside c.self.invariant.0.0.numbered has c.self.invariant.2
          (subst (λ p. IsProcessTaken p c.self.inside.beside c.tell_dropped.new.beside) place c.tell_dropped.ensures)),
      rw (net, rows) (net_dropped i c.self.inside.net.items c.self.inside.rows.items c.self.inside.in_net c.take_place-3.new.bits c.self.invariant.0.0.numbered has c.self.invariant.3
          (subst (λ p. IsColumnTaken p c.self.inside.in_net c.take_place-3.new.bits) place c.take_place-3.ensures)),
    )

pub close_if-requires-clause-same : goal.close_if-requires-clause-same
close_if-requires-clause-same c =
    let i = c.args.process in
    let was = c.self.inside.rows.items in
    let walks = c.self.inside.graph.walks in
    let has = is_among i c.self.inside.conflicts c.self.inside.net.items was c.args.self.now c.self.view_is c.requires.open in
    let net = filter_same _ (λ (e : Entry). not (nat_eq e.process i)) _ (λ x b f' k. search rules) c.self.inside.net.items c.retain.new.self.items c.retain.ensures.filtered in
    let rows = filter_same _ (λ (r : OpenProcess). not (nat_eq r.process i)) _ (λ x b f' k. search rules) c.self.inside.rows.items c.retain-2.new.self.items c.retain-2.ensures.filtered in
    let place = c.place_of-at.ensures.place ∙ ap (place_of i) c.deref.ensures.value in
    let taken : IsPlaceTaken false (place_of i was) walks c.take_place-2.new.self = subst (λ p. IsPlaceTaken false p walks c.take_place-2.new.self) place c.take_place-2.ensures.cells in
    rw (c.deref-2.ensures.value, c.deref-3.ensures.value, net, rows) (λ none.
    dropped_tells i c.self.inside.conflicts c.self.inside.net.items was walks c.take_place-2.new.self c.self.invariant.0.0
    (drop_stands i c.self.inside.conflicts c.self.inside.net.items was _ c.self.invariant.0).0 has c.self.invariant.1.1 taken
    (subst (IsAtEnd walks) place (c.leads_through-linked.ensures none)) c.take_place-2.ensures.count)

pub close_if-requires-clause-rows : goal.close_if-requires-clause-rows
close_if-requires-clause-rows c =
    let i = c.args.process in
    let was = c.self.inside.rows.items in
    let walks = c.self.inside.graph.walks in
    let has = is_among i c.self.inside.conflicts c.self.inside.net.items was c.args.self.now c.self.view_is c.requires.open in
    let rows = filter_same _ (λ (r : OpenProcess). not (nat_eq r.process i)) _ (λ x b f' k. search rules) c.self.inside.rows.items c.retain-2.new.self.items c.retain-2.ensures.filtered in
    rw (c.deref-2.ensures.value, rows) (rows_left i was walks c.take_place-2.new.self c.self.invariant.0.0.numbered has c.self.invariant.1.1.rows c.take_place-2.ensures.count)

pub close_if-requires-clause-counts : goal.close_if-requires-clause-counts
close_if-requires-clause-counts c =
    let i = c.args.process in
    let was = c.self.inside.rows.items in
    let counts = c.self.inside.graph.counts in
    let has = is_among i c.self.inside.conflicts c.self.inside.net.items was c.args.self.now c.self.view_is c.requires.open in
    let net = filter_same _ (λ (e : Entry). not (nat_eq e.process i)) _ (λ x b f' k. search rules) c.self.inside.net.items c.retain.new.self.items c.retain.ensures.filtered in
    let rows = filter_same _ (λ (r : OpenProcess). not (nat_eq r.process i)) _ (λ x b f' k. search rules) c.self.inside.rows.items c.retain-2.new.self.items c.retain-2.ensures.filtered in
    let place = c.place_of-at.ensures.place ∙ ap (place_of i) c.deref.ensures.value in
    let taken : IsPlaceTaken 0 (place_of i was) counts c.take_place.new.self = subst (λ p. IsPlaceTaken 0 p counts c.take_place.new.self) place c.take_place.ensures.cells in
    rw (c.deref-2.ensures.value, c.deref-3.ensures.value, net, rows)
    (dropped_counts i c.self.inside.conflicts c.self.inside.net.items was counts c.take_place.new.self c.self.invariant.0.0 has c.self.invariant.1.0 taken c.take_place.ensures.count)

pub returns : goal.returns
returns c =
    let i = c.args.process in
    let net = filter_same _ (λ (e : Entry). not (nat_eq e.process i)) _ (λ x b f' k. search rules) c.self.inside.net.items c.retain.new.self.items c.retain.ensures.filtered in
    let rows = filter_same _ (λ (r : OpenProcess). not (nat_eq r.process i)) _ (λ x b f' k. search rules) c.self.inside.rows.items c.retain-2.new.self.items c.retain-2.ensures.filtered in
    ap (λ es. tables c.self.inside.conflicts es c.retain-2.new.self.items) net ∙ ap (tables c.self.inside.conflicts (filter (λ (e : Entry). not (nat_eq e.process i)) c.self.inside.net.items)) rows ∙ ap (dropped i) c.self.view_is

pub tell_dropped-requires : goal.tell_dropped-requires
tell_dropped-requires c = place_small c.deref.result.now c.self.inside.rows.items c.place_of-at.result c.deref.ensures.value c.place_of-at.ensures.within c.self.invariant.1.1.rows.1

pub take_place-requires-3 : goal.take_place-requires-3
take_place-requires-3 c = place_small c.deref.result.now c.self.inside.rows.items c.place_of-at.result c.deref.ensures.value c.place_of-at.ensures.within c.self.invariant.1.1.rows.1
