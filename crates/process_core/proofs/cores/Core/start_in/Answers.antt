use Rattle.std.proofs.Common.{◌∙◌, ◌+◌, ◌++◌, ◌∷◌, [], length, Some, None, refl, ap, arith}
use Rattle.machine_model.specs.declared.kept.Kept.TheVariants.{Start}
use Rattle.hold_tables.specs.Changes.{opened}
use Rattle.core_state.proofs.KeptSeen.{few_seen}
use Rattle.process_core.proofs.StartSeen.{start_closed, start_core, start_fits, start_reply, start_seat, start_stands, start_tables}
use Rattle.process_core.proofs.cores.Core.start_in.Goals as goal

pub overflow_cast-number : goal.overflow_cast-number
overflow_cast-number c =
    let few = few_seen c.self.view_is c.self.invariant in
    let ok = c.self.inside.seats.ok in
    let len = c.len.ensures in
    omega arith

pub overflow_add-number : goal.overflow_add-number
overflow_add-number c =
    let few = few_seen c.self.view_is c.self.invariant in
    let ok = c.self.inside.seats.ok in
    let len = c.len.ensures in
    omega arith

pub give_to-requires : goal.give_to-requires
give_to-requires c =
    let left = (start_fits c.self.view_is c.self.invariant c.room.view_is c.requires).0 in
    let ok = c.self.inside.kept.ok in
    let most = c.room.invariant.1 in
    omega arith

pub give_to-requires-2 : goal.give_to-requires-2
give_to-requires-2 c =
    let left = start_seat c.self.view_is c.self.invariant c.room.view_is c.requires in
    let ok = c.self.inside.seats.ok in
    omega arith

pub open_with-requires-clause-room : goal.open_with-requires-clause-room
open_with-requires-clause-room c = start_tables c.self.view_is c.self.invariant c.room.view_is c.requires

pub open_with-requires-clause-closed : goal.open_with-requires-clause-closed
open_with-requires-clause-closed c =
    let ok = c.self.inside.seats.ok in
    let len = c.len.ensures in
    start_closed c.self.view_is c.self.invariant c.room.view_is c.requires c.len.result (omega arith)

pub push_reserved-requires : goal.push_reserved-requires
push_reserved-requires c =
    let left = start_seat c.self.view_is c.self.invariant c.room.view_is c.requires in
    let ok = c.give_to-2.new.list.ok in
    let same = ap length c.give_to-2.ensures.items in
    let has = c.give_to-2.ensures.capacity in
    omega arith

pub push_reserved-requires-2 : goal.push_reserved-requires-2
push_reserved-requires-2 c =
    let left = (start_fits c.self.view_is c.self.invariant c.room.view_is c.requires).0 in
    let most = c.room.invariant.1 in
    let ok = c.give_to.new.list.ok in
    let same = ap length c.give_to.ensures.items in
    let has = c.give_to.ensures.capacity in
    omega arith

pub push-requires : goal.push-requires
push-requires c =
    let fits = start_fits c.self.view_is c.self.invariant c.room.view_is c.requires in
    let events = fits.1 in
    let plans = fits.2 in
    (omega arith, omega arith)

pub invariant_of-self : goal.invariant_of-self
invariant_of-self c =
    let ok = c.self.inside.seats.ok in
    let len = c.len.ensures in
    let most = c.room.invariant.1 in
    let has = c.give_to.ensures.capacity in
    start_stands c.self.view_is c.self.invariant c.room.view_is c.requires c.len.result (omega arith) refl
    c.open_with.new.self (c.open_with.ensures ∙ ap (λ k. opened (c.len.result + 1) k c.self.inside.holds) c.room.invariant.2) c.push-2.new.self c.push-2.ensures c.push.new.self c.push.ensures
    c.push_reserved-2.new.self.items (c.push_reserved-2.ensures.items ∙ ap (λ ks. ks ++ Start (c.len.result + 1) ∷ []) c.give_to.ensures.items)
    c.push_reserved.new.self.items (c.push_reserved.ensures.items ∙ (ap (λ xs. xs ++ record { instance = Some c.room.inside.memory.instance; out = None; lost = None; began = None } ∷ []) c.give_to-2.ensures.items
    ∙ ap (λ x. c.self.inside.seats.items ++ record { instance = Some x; out = None; lost = None; began = None } ∷ []) c.room.invariant.0))
    _ _ c.push_reserved-2.ensures.capacity (omega arith)

pub returns-clause-core : goal.returns-clause-core
returns-clause-core c =
    let ok = c.self.inside.seats.ok in
    let len = c.len.ensures in
    start_core c.self.view_is c.self.invariant c.room.view_is c.requires c.len.result (omega arith) refl
    c.open_with.new.self (c.open_with.ensures ∙ ap (λ k. opened (c.len.result + 1) k c.self.inside.holds) c.room.invariant.2) c.push-2.new.self c.push-2.ensures c.push.new.self c.push.ensures
    c.push_reserved-2.new.self.items (c.push_reserved-2.ensures.items ∙ ap (λ ks. ks ++ Start (c.len.result + 1) ∷ []) c.give_to.ensures.items)

pub returns-clause-reply : goal.returns-clause-reply
returns-clause-reply c =
    let ok = c.self.inside.seats.ok in
    let len = c.len.ensures in
    start_reply c.self.view_is c.self.invariant c.room.view_is c.requires c.len.result (omega arith)
