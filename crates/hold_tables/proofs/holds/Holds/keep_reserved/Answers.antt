use Rattle.std.proofs.Common.{ℕ, [], map, refl, sym, ◌∙◌, ap, get_or-set_same}
use Rattle.hold_tables.specs.Changes.{with_first_reserved}
use Rattle.hold_tables.specs.Places.{place_of}
use Rattle.hold_tables.specs.Tables.{OpenProcess, kept_of}
use Rattle.hold_tables.proofs.GraphStays.{graph_stood}
use Rattle.hold_tables.proofs.FirstReserved.{few_first, known_first}
use Rattle.hold_tables.proofs.Tidy.{returned, stood}
use Rattle.hold_tables.specs.Operations.{net_ops, pending_ops, reserved_ops, running_ops}
use Rattle.hold_tables.proofs.Told.{beside_told, place_small, place_within, stays_told, steps_set, told_by, told_over, told_there}
use Rattle.hold_tables.proofs.ToldNet.{rows_kept}
use Rattle.hold_tables.proofs.holds.Holds.keep_reserved.Goals as goal

pub invariant_of-self : goal.invariant_of-self
invariant_of-self c = (
  stood (with_first_reserved c.args.count) c.args.process c.self.inside.conflicts c.self.inside.net.items c.self.inside.rows.items c.place_of-at.result c.index_mut.result.now c.keep_reserved.new.self c.args.self.now _ c.self.view_is c.requires.open (c.place_of-at.ensures.place ∙ ap (place_of c.args.process) c.deref.ensures.value) c.index_mut.ensures.value c.keep_reserved.ensures (λ r. (refl, refl))
      (λ tidy own. record { within = tidy.within; once = tidy.once; fixed = tidy.fixed; running = tidy.running; reserved = known_first c.args.self.now.conflicts c.args.count (kept_of c.args.self.now c.args.process).reserved tidy.reserved; fits = few_first c.args.count (kept_of c.args.self.now c.args.process).steps (kept_of c.args.self.now c.args.process).reserved tidy.fits; small = tidy.small }) c.self.invariant.0,
  graph_stood (with_first_reserved c.args.count) c.args.process c.self.inside.conflicts c.self.inside.net.items c.self.inside.rows.items c.self.inside.graph.counts c.self.inside.graph.walks c.place_of-at.result c.index_mut.result.now c.keep_reserved.new.self c.args.self.now c.self.view_is c.requires.open (c.place_of-at.ensures.place ∙ ap (place_of c.args.process) c.deref.ensures.value) c.index_mut.ensures.value c.keep_reserved.ensures
      (λ r. (refl, refl)) c.self.invariant.1,
  beside_told c.self.inside.net.items c.self.inside.net.items c.self.inside.rows.items c.place_of-at.result c.keep_reserved.new.self c.self.inside.beside _ (place_within c.deref.result.now c.self.inside.rows.items c.place_of-at.result c.deref.ensures.value c.place_of-at.ensures.within) c.self.invariant.2
      (stays_told running_ops c.self.inside.rows.items c.place_of-at.result c.index_mut.result.now (running_ops c.keep_reserved.new.self) c.self.inside.beside.running (place_within c.deref.result.now c.self.inside.rows.items c.place_of-at.result c.deref.ensures.value c.place_of-at.ensures.within) c.index_mut.ensures.value (ap running_ops c.keep_reserved.ensures) c.self.invariant.2.running)
      (stays_told (pending_ops c.self.inside.net.items) c.self.inside.rows.items c.place_of-at.result c.index_mut.result.now ((pending_ops c.self.inside.net.items) c.keep_reserved.new.self) c.self.inside.beside.pending (place_within c.deref.result.now c.self.inside.rows.items c.place_of-at.result c.deref.ensures.value c.place_of-at.ensures.within) c.index_mut.ensures.value (ap (pending_ops c.self.inside.net.items) c.keep_reserved.ensures) c.self.invariant.2.pending)
      (told_by c.place_of-at.result (reserved_ops c.keep_reserved.new.self) (map (λ (step : ℕ × ℕ × ℕ). step.1) c.reserved-2.result.now) c.self.inside.beside.reserved c.tell_reserved.new.bits
      (sym (ap (map (λ (step : ℕ × ℕ × ℕ). step.1)) (c.reserved-2.ensures ∙ ap (λ (r : OpenProcess). r.reserved) (c.index-2.ensures ∙ get_or-set_same c.self.inside.rows.items c.place_of-at.result c.keep_reserved.new.self c.index-2.result.now (place_within c.deref.result.now c.self.inside.rows.items c.place_of-at.result c.deref.ensures.value c.place_of-at.ensures.within)))))
      (told_over c.place_of-at.result [] (map (λ (step : ℕ × ℕ × ℕ). step.1) c.reserved-2.result.now) c.self.inside.beside.reserved c.clear_steps.new.bits c.tell_reserved.new.bits c.clear_steps.ensures c.tell_reserved.ensures))
      (λ p other. refl),
  rows_kept (net_ops c.self.inside.net.items) c.self.inside.rows.items c.place_of-at.result c.keep_reserved.new.self c.index_mut.result.now c.self.inside.in_net
      (place_within c.deref.result.now c.self.inside.rows.items c.place_of-at.result c.deref.ensures.value c.place_of-at.ensures.within) c.index_mut.ensures.value (ap (net_ops c.self.inside.net.items) c.keep_reserved.ensures) c.self.invariant.3,
)

pub returns : goal.returns
returns c =
    returned (with_first_reserved c.args.count) c.args.process c.self.inside.conflicts c.self.inside.net.items c.self.inside.rows.items c.place_of-at.result c.index_mut.result.now c.keep_reserved.new.self c.args.self.now c.self.view_is c.requires.open (c.place_of-at.ensures.place ∙ ap (place_of c.args.process) c.deref.ensures.value) c.index_mut.ensures.value c.keep_reserved.ensures

pub clear_steps-requires-clause-rows : goal.clear_steps-requires-clause-rows
clear_steps-requires-clause-rows c = c.self.invariant.2.reserved.count

pub clear_steps-requires-clause-place : goal.clear_steps-requires-clause-place
clear_steps-requires-clause-place c = place_small c.deref.result.now c.self.inside.rows.items c.place_of-at.result c.deref.ensures.value c.place_of-at.ensures.within c.self.invariant.1.1.rows.1

pub clear_steps-requires-clause-own : goal.clear_steps-requires-clause-own
clear_steps-requires-clause-own c = steps_set c.self.inside.rows.items c.place_of-at.result c.index.result.now c.self.inside.beside.reserved c.reserved.result.now (place_within c.deref.result.now c.self.inside.rows.items c.place_of-at.result c.deref.ensures.value c.place_of-at.ensures.within) c.index.ensures c.self.invariant.2.reserved c.reserved.ensures

pub tell_reserved-requires-clause-rows : goal.tell_reserved-requires-clause-rows
tell_reserved-requires-clause-rows c = c.clear_steps.ensures.count ∙ c.self.invariant.2.reserved.count

pub tell_reserved-requires-clause-place : goal.tell_reserved-requires-clause-place
tell_reserved-requires-clause-place c = place_small c.deref.result.now c.self.inside.rows.items c.place_of-at.result c.deref.ensures.value c.place_of-at.ensures.within c.self.invariant.1.1.rows.1

pub tell_reserved-requires-clause-none : goal.tell_reserved-requires-clause-none
tell_reserved-requires-clause-none c = told_there c.place_of-at.result [] c.self.inside.beside.reserved c.clear_steps.new.bits c.clear_steps.ensures
