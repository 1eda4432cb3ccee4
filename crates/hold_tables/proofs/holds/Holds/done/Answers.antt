use Rattle.std.proofs.Common.{◌≡◌, refl, ap, ◌∙◌, ◌++◌, ◌∷◌, [], List, Some, None, subst, sym, arith, get_or-set_same}
use Rattle.std.specs.Prelude.{slice_set}
use Rattle.process_tree.specs.declared.entry.Entry.{Entry}
use Rattle.hold_tables.specs.Tables.{OpenProcess, Tables, kept_of, numbered}
use Rattle.hold_tables.specs.Changes.{net_after, with_running}
use Rattle.hold_tables.specs.Operations.{TellBeside, TellRows, net_ops, reserved_ops, running_ops}
use Rattle.hold_tables.specs.Places.{place_of}
use Rattle.hold_tables.specs.Walks.{IsPlaced, IsPlacedIf}
use Rattle.hold_tables.proofs.Effects.{effect_returned, effect_stands, step_stands}
use Rattle.hold_tables.proofs.GraphStays.{done_both, graph_lent}
use Rattle.hold_tables.proofs.Reaching.{placed_running}
use Rattle.hold_tables.specs.Kept.{AreTidy}
use Rattle.hold_tables.proofs.Tidy.{each_numbered, found_row, is_among, numbers_stay, row_changed, tables}
use Rattle.hold_tables.proofs.Told.{beside_told, none_set, pending_elsewhere, pending_lent, place_small, place_within, running_set, stays_told, step_elsewhere, told_by}
use Rattle.hold_tables.proofs.ToldNet.{net_done, net_elsewhere, own_running}
use Rattle.hold_tables.proofs.holds.Holds.done.Goals as goal

pub push_reserved-requires : goal.push_reserved-requires
push_reserved-requires c =
    let i = c.args.process in
    let rows = c.self.inside.rows.items in
    let has = is_among i c.self.inside.conflicts c.self.inside.net.items rows c.args.self.now c.self.view_is c.requires.open in
    let under : (numbered i rows).running ≡ Some c.args.e = ap (λ (t : Tables). (kept_of t i).running) c.self.view_is ∙ c.requires.running in
    let room = (step_stands i c.self.inside.conflicts c.self.inside.net.items rows _ c.args.e c.requires.step has under c.self.invariant.0).0 in
    omega (arith, room, c.self.inside.net.ok.0)

pub invariant_of-self : goal.invariant_of-self
invariant_of-self c =
    let i = c.args.process in
    let e = c.args.e in
    let table = c.self.inside.conflicts in
    let net = c.self.inside.net.items in
    let rows = c.self.inside.rows.items in
    let has = is_among i table net rows c.args.self.now c.self.view_is c.requires.open in
    let under : (numbered i rows).running ≡ Some e = ap (λ (t : Tables). (kept_of t i).running) c.self.view_is ∙ c.requires.running in
    let place = c.place_of-at.ensures.place ∙ ap (place_of i) c.deref.ensures.value in
    let changed = row_changed (with_running None) i rows c.place_of-at.result c.index_mut.result.now c.run.new.self has place c.index_mut.ensures.value c.run.ensures in
    let settled : net_after i (Some e) net ≡ net ++ e ∷ [] = rw c.requires.step refl in
    let is : IsPlaced table rows e = subst (IsPlacedIf table rows) under (each_numbered (λ (r : OpenProcess). IsPlacedIf table rows r.running) i rows has (placed_running (tables table net rows) c.self.invariant.0.0)).0 in
    let own : e.process ≡ c.index_mut.result.now.process =
    own_running i table net rows e c.self.invariant.0.0 has under ∙ ap (λ (r : OpenProcess). r.process) (sym (found_row i rows c.place_of-at.result c.index_mut.result.now has place c.index_mut.ensures.value)) in
    let after : AreTidy (tables table (net ++ e ∷ []) (slice_set rows c.place_of-at.result c.run.new.self)) = rw (changed, ← settled) (effect_stands i table net rows _ e has under c.self.invariant.0).0 in (
      rw (c.push_reserved.ensures.items, c.push_reserved.ensures.capacity, changed, ← settled) (effect_stands i table net rows _ e has under c.self.invariant.0),
      graph_lent table _ _ _ _ c.tell_step.new.graph.counts c.tell_step.new.graph.walks c.deref-2.ensures.value c.deref-3.ensures.value c.tell_step.ensures.tell,
      subst (λ (es : List Entry). TellBeside es (slice_set rows c.place_of-at.result c.run.new.self) (record { running = c.tell_running.new.bits; pending = c.tell_pending.new.bits; reserved = c.self.inside.beside.reserved })) (sym c.push_reserved.ensures.items)
          (beside_told c.self.inside.net.items (net ++ e ∷ []) rows c.place_of-at.result c.run.new.self c.self.inside.beside (record { running = c.tell_running.new.bits; pending = c.tell_pending.new.bits; reserved = c.self.inside.beside.reserved }) (place_within c.deref.result.now c.self.inside.rows.items c.place_of-at.result c.deref.ensures.value c.place_of-at.ensures.within) c.self.invariant.2
          (told_by c.place_of-at.result (running_ops c.run.new.self) [] c.self.inside.beside.running c.tell_running.new.bits (ap running_ops c.run.ensures) c.tell_running.ensures)
          (pending_lent (net ++ e ∷ []) c.deref-4.result.now rows c.place_of-at.result c.run.new.self c.index-2.result.now c.self.inside.beside.pending c.tell_pending.new.bits (place_within c.deref.result.now c.self.inside.rows.items c.place_of-at.result c.deref.ensures.value c.place_of-at.ensures.within) (c.deref-4.ensures.value ∙ c.push_reserved.ensures.items) c.index-2.ensures c.tell_pending.ensures)
          (stays_told reserved_ops rows c.place_of-at.result c.index_mut.result.now (reserved_ops c.run.new.self) c.self.inside.beside.reserved (place_within c.deref.result.now c.self.inside.rows.items c.place_of-at.result c.deref.ensures.value c.place_of-at.ensures.within) c.index_mut.ensures.value (ap reserved_ops c.run.ensures) c.self.invariant.2.reserved)
          (λ p other. pending_elsewhere i net (net ++ e ∷ []) rows c.self.invariant.0.0.numbered (step_elsewhere i table net rows e c.self.invariant.0.0 has under) p (λ is. other (is ∙ sym place)))),
      subst (λ (es : List Entry). TellRows (net_ops es) (slice_set rows c.place_of-at.result c.run.new.self) c.set_op.new.bits) (sym c.push_reserved.ensures.items)
          (net_done table net rows c.place_of-at.result c.run.new.self c.index_mut.result.now e c.self.inside.in_net c.set_op.new.bits (place_within c.deref.result.now c.self.inside.rows.items c.place_of-at.result c.deref.ensures.value c.place_of-at.ensures.within)
          c.index_mut.ensures.value c.run.ensures own c.self.invariant.0.0.tidy after.tidy c.self.invariant.3 c.set_op.ensures.count c.set_op.ensures.own
          (λ p other. net_elsewhere i net (net ++ e ∷ []) rows c.self.invariant.0.0.numbered (step_elsewhere i table net rows e c.self.invariant.0.0 has under) p (λ is. other (is ∙ sym place)))),
    )

pub tell_step-requires-clause-tidy : goal.tell_step-requires-clause-tidy
tell_step-requires-clause-tidy c =
    let i = c.args.process in
    let e = c.args.e in
    let table = c.self.inside.conflicts in
    let net = c.self.inside.net.items in
    let rows = c.self.inside.rows.items in
    let has = is_among i table net rows c.args.self.now c.self.view_is c.requires.open in
    let under : (numbered i rows).running ≡ Some e = ap (λ (t : Tables). (kept_of t i).running) c.self.view_is ∙ c.requires.running in
    let place = c.place_of-at.ensures.place ∙ ap (place_of i) c.deref.ensures.value in
    let changed = row_changed (with_running None) i rows c.place_of-at.result c.index_mut.result.now c.run.new.self has place c.index_mut.ensures.value c.run.ensures in
    let settled : net_after i (Some e) net ≡ net ++ e ∷ [] = rw c.requires.step refl in
    rw (c.deref-2.ensures.value, c.deref-3.ensures.value, c.push_reserved.ensures.items, changed, ← settled) (effect_stands i table net rows _ e has under c.self.invariant.0).0

pub tell_step-requires-clause-placed : goal.tell_step-requires-clause-placed
tell_step-requires-clause-placed c =
    let i = c.args.process in
    let e = c.args.e in
    let table = c.self.inside.conflicts in
    let net = c.self.inside.net.items in
    let rows = c.self.inside.rows.items in
    let has = is_among i table net rows c.args.self.now c.self.view_is c.requires.open in
    let under : (numbered i rows).running ≡ Some e = ap (λ (t : Tables). (kept_of t i).running) c.self.view_is ∙ c.requires.running in
    let place = c.place_of-at.ensures.place ∙ ap (place_of i) c.deref.ensures.value in
    let changed = row_changed (with_running None) i rows c.place_of-at.result c.index_mut.result.now c.run.new.self has place c.index_mut.ensures.value c.run.ensures in
    let is : IsPlaced table rows e = subst (IsPlacedIf table rows) under (each_numbered (λ (r : OpenProcess). IsPlacedIf table rows r.running) i rows has (placed_running (tables table net rows) c.self.invariant.0.0)).0 in
    rw (c.deref-2.ensures.value, changed) (is.0, numbers_stay (with_running None) i e.process rows (λ r. (refl, refl)) ∙ is.1)

pub tell_step-requires-clause-more : goal.tell_step-requires-clause-more
tell_step-requires-clause-more c =
    let i = c.args.process in
    let e = c.args.e in
    let table = c.self.inside.conflicts in
    let net = c.self.inside.net.items in
    let rows = c.self.inside.rows.items in
    let has = is_among i table net rows c.args.self.now c.self.view_is c.requires.open in
    let under : (numbered i rows).running ≡ Some e = ap (λ (t : Tables). (kept_of t i).running) c.self.view_is ∙ c.requires.running in
    let place = c.place_of-at.ensures.place ∙ ap (place_of i) c.deref.ensures.value in
    let changed = row_changed (with_running None) i rows c.place_of-at.result c.index_mut.result.now c.run.new.self has place c.index_mut.ensures.value c.run.ensures in
    let settled : net_after i (Some e) net ≡ net ++ e ∷ [] = rw c.requires.step refl in
    rw (c.deref-2.ensures.value, c.deref-3.ensures.value, c.push_reserved.ensures.items, changed, ← settled)
    (done_both i table net rows has c.self.inside.graph.counts c.self.inside.graph.walks c.self.invariant.0.0 c.self.invariant.1 e under (effect_stands i table net rows _ e has under c.self.invariant.0).0 c.requires.step)

pub returns : goal.returns
returns c =
    let i = c.args.process in
    let e = c.args.e in
    let table = c.self.inside.conflicts in
    let net = c.self.inside.net.items in
    let rows = c.self.inside.rows.items in
    let has = is_among i table net rows c.args.self.now c.self.view_is c.requires.open in
    let under : (numbered i rows).running ≡ Some e = ap (λ (t : Tables). (kept_of t i).running) c.self.view_is ∙ c.requires.running in
    let place = c.place_of-at.ensures.place ∙ ap (place_of i) c.deref.ensures.value in
    let changed = row_changed (with_running None) i rows c.place_of-at.result c.index_mut.result.now c.run.new.self has place c.index_mut.ensures.value c.run.ensures in
    let settled : net_after i (Some e) net ≡ net ++ e ∷ [] = rw c.requires.step refl in
    effect_returned i table net rows e c.push_reserved.new.self.items _ c.args.self.now c.self.view_is under (c.push_reserved.ensures.items ∙ sym settled) changed

pub set_op-requires-clause-rows : goal.set_op-requires-clause-rows
set_op-requires-clause-rows c = c.self.invariant.3.count

pub set_op-requires-clause-place : goal.set_op-requires-clause-place
set_op-requires-clause-place c = place_small c.deref.result.now c.self.inside.rows.items c.place_of-at.result c.deref.ensures.value c.place_of-at.ensures.within c.self.invariant.1.1.rows.1

pub tell_running-requires-clause-rows : goal.tell_running-requires-clause-rows
tell_running-requires-clause-rows c = c.self.invariant.2.running.count

pub tell_running-requires-clause-place : goal.tell_running-requires-clause-place
tell_running-requires-clause-place c = place_small c.deref.result.now c.self.inside.rows.items c.place_of-at.result c.deref.ensures.value c.place_of-at.ensures.within c.self.invariant.1.1.rows.1

pub tell_running-requires-clause-own : goal.tell_running-requires-clause-own
tell_running-requires-clause-own c =
    let i = c.args.process in
    let rows = c.self.inside.rows.items in
    let has = is_among i c.self.inside.conflicts c.self.inside.net.items rows c.args.self.now c.self.view_is c.requires.open in
    let place = c.place_of-at.ensures.place ∙ ap (place_of i) c.deref.ensures.value in
    let row = found_row i rows c.place_of-at.result c.index_mut.result.now has place c.index_mut.ensures.value in
    running_set rows c.place_of-at.result c.index_mut.result.now c.self.inside.beside.running (Some c.args.e) (place_within c.deref.result.now c.self.inside.rows.items c.place_of-at.result c.deref.ensures.value c.place_of-at.ensures.within) c.index_mut.ensures.value c.self.invariant.2.running
    (ap (λ (r : OpenProcess). r.running) row ∙ ap (λ (t : Tables). (kept_of t i).running) c.self.view_is ∙ c.requires.running)

pub tell_pending-requires-clause-rows : goal.tell_pending-requires-clause-rows
tell_pending-requires-clause-rows c = c.self.invariant.2.pending.count

pub tell_pending-requires-clause-place : goal.tell_pending-requires-clause-place
tell_pending-requires-clause-place c = place_small c.deref.result.now c.self.inside.rows.items c.place_of-at.result c.deref.ensures.value c.place_of-at.ensures.within c.self.invariant.1.1.rows.1

pub tell_pending-requires-clause-none : goal.tell_pending-requires-clause-none
tell_pending-requires-clause-none c =
    let row : c.index.result.now ≡ c.run.new.self = c.index.ensures ∙ get_or-set_same c.self.inside.rows.items c.place_of-at.result c.run.new.self c.index.result.now (place_within c.deref.result.now c.self.inside.rows.items c.place_of-at.result c.deref.ensures.value c.place_of-at.ensures.within) in
    λ none. none_set c.self.inside.net.items c.self.inside.rows.items c.place_of-at.result c.index_mut.result.now c.self.inside.beside.pending (place_within c.deref.result.now c.self.inside.rows.items c.place_of-at.result c.deref.ensures.value c.place_of-at.ensures.within) c.index_mut.ensures.value c.self.invariant.2.pending
    (ap (λ (r : OpenProcess). r.pending) (sym c.run.ensures ∙ sym row) ∙ sym c.pending.ensures ∙ none)
