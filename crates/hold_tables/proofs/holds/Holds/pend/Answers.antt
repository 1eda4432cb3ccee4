use Rattle.std.proofs.Common.{refl, sym, ◌∙◌, ap}
use Rattle.hold_tables.specs.Changes.{with_pending}
use Rattle.hold_tables.specs.Places.{place_of}
use Rattle.hold_tables.proofs.GraphStays.{graph_stood}
use Rattle.hold_tables.proofs.Tidy.{returned, stood}
use Rattle.hold_tables.specs.Operations.{net_ops, reserved_ops, running_ops}
use Rattle.hold_tables.proofs.Told.{beside_told, none_set, pending_lent, place_small, place_within, stays_told}
use Rattle.hold_tables.proofs.ToldNet.{rows_kept}
use Rattle.hold_tables.proofs.holds.Holds.pend.Goals as goal

pub invariant_of-self : goal.invariant_of-self
invariant_of-self c = (
  stood (with_pending c.args.count) c.args.process c.self.inside.conflicts c.self.inside.net.items c.self.inside.rows.items c.place_of-at.result c.index_mut.result.now c.pend.new.self c.args.self.now _ c.self.view_is c.requires.open (c.place_of-at.ensures.place ∙ ap (place_of c.args.process) c.deref.ensures.value) c.index_mut.ensures.value c.pend.ensures (λ r. (refl, refl))
      (λ tidy own. record { within = tidy.within; once = tidy.once; fixed = tidy.fixed; running = tidy.running; reserved = tidy.reserved; fits = tidy.fits; small = tidy.small }) c.self.invariant.0,
  graph_stood (with_pending c.args.count) c.args.process c.self.inside.conflicts c.self.inside.net.items c.self.inside.rows.items c.self.inside.graph.counts c.self.inside.graph.walks c.place_of-at.result c.index_mut.result.now c.pend.new.self c.args.self.now c.self.view_is c.requires.open (c.place_of-at.ensures.place ∙ ap (place_of c.args.process) c.deref.ensures.value) c.index_mut.ensures.value c.pend.ensures
      (λ r. (refl, refl)) c.self.invariant.1,
  beside_told c.self.inside.net.items c.self.inside.net.items c.self.inside.rows.items c.place_of-at.result c.pend.new.self c.self.inside.beside _ (place_within c.deref.result.now c.self.inside.rows.items c.place_of-at.result c.deref.ensures.value c.place_of-at.ensures.within) c.self.invariant.2
      (stays_told running_ops c.self.inside.rows.items c.place_of-at.result c.index_mut.result.now (running_ops c.pend.new.self) c.self.inside.beside.running (place_within c.deref.result.now c.self.inside.rows.items c.place_of-at.result c.deref.ensures.value c.place_of-at.ensures.within) c.index_mut.ensures.value (ap running_ops c.pend.ensures) c.self.invariant.2.running)
      (pending_lent c.self.inside.net.items c.deref-2.result.now c.self.inside.rows.items c.place_of-at.result c.pend.new.self c.index-2.result.now c.self.inside.beside.pending c.tell_pending.new.bits (place_within c.deref.result.now c.self.inside.rows.items c.place_of-at.result c.deref.ensures.value c.place_of-at.ensures.within) c.deref-2.ensures.value c.index-2.ensures c.tell_pending.ensures)
      (stays_told reserved_ops c.self.inside.rows.items c.place_of-at.result c.index_mut.result.now (reserved_ops c.pend.new.self) c.self.inside.beside.reserved (place_within c.deref.result.now c.self.inside.rows.items c.place_of-at.result c.deref.ensures.value c.place_of-at.ensures.within) c.index_mut.ensures.value (ap reserved_ops c.pend.ensures) c.self.invariant.2.reserved)
      (λ p other. refl),
  rows_kept (net_ops c.self.inside.net.items) c.self.inside.rows.items c.place_of-at.result c.pend.new.self c.index_mut.result.now c.self.inside.in_net
      (place_within c.deref.result.now c.self.inside.rows.items c.place_of-at.result c.deref.ensures.value c.place_of-at.ensures.within) c.index_mut.ensures.value (ap (net_ops c.self.inside.net.items) c.pend.ensures) c.self.invariant.3,
)

pub returns : goal.returns
returns c =
    returned (with_pending c.args.count) c.args.process c.self.inside.conflicts c.self.inside.net.items c.self.inside.rows.items c.place_of-at.result c.index_mut.result.now c.pend.new.self c.args.self.now c.self.view_is c.requires.open (c.place_of-at.ensures.place ∙ ap (place_of c.args.process) c.deref.ensures.value) c.index_mut.ensures.value c.pend.ensures

pub tell_pending-requires-clause-rows : goal.tell_pending-requires-clause-rows
tell_pending-requires-clause-rows c = c.self.invariant.2.pending.count

pub tell_pending-requires-clause-place : goal.tell_pending-requires-clause-place
tell_pending-requires-clause-place c = place_small c.deref.result.now c.self.inside.rows.items c.place_of-at.result c.deref.ensures.value c.place_of-at.ensures.within c.self.invariant.1.1.rows.1

pub tell_pending-requires-clause-none : goal.tell_pending-requires-clause-none
tell_pending-requires-clause-none c = λ none. none_set c.self.inside.net.items c.self.inside.rows.items c.place_of-at.result c.index.result.now c.self.inside.beside.pending (place_within c.deref.result.now c.self.inside.rows.items c.place_of-at.result c.deref.ensures.value c.place_of-at.ensures.within) c.index.ensures c.self.invariant.2.pending (sym c.pending-before.ensures ∙ none)
