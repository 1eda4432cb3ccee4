use mir.Val.{SFits}
use Rattle.std.proofs.lemmas.Int.{to_z-of_z}
use Rattle.std.proofs.Common.{rules, w64, length, pos, sym, ◌∙◌, ap, arith}
use Rattle.std.specs.Prelude.{is_some}
use Rattle.resource_box.specs.Meaning.{value_at, with_value}
use Rattle.resource_box.specs.Table.{reverted}
use Rattle.subsystem_store.specs.declared.effect.Undoable.{Undoable}
use Rattle.subsystem_store.specs.Matching.{last_place}
use Rattle.subsystem_store.proofs.Places.{none_taken, found_at}
use Rattle.subsystem_store.proofs.account.undo.Goals as goal

pub unreachable-requires : goal.unreachable-requires
unreachable-requires g c =
    let none = sym (ap (last_place c.args.effect.now) c.deref.ensures.value) ∙ sym c.last_place.ensures ∙ c.in_default.is in
    let no = sym (ap is_some (none_taken c.args.effect.now c.args.undoable.now.items none)) ∙ c.requires.found in
    cc

pub remove-found-requires : goal.remove-found-requires
remove-found-requires g c =
    let some = sym (ap (last_place c.args.effect.now) c.deref.ensures.value) ∙ sym c.last_place.ensures ∙ c.in-Some.is in
    let within = (found_at c.args.effect.now c.args.undoable.now.items (record { effect = c.args.effect.now; before = pos 0 }) c.in-Some.place some).0 in
    omega (arith, within, ap length c.deref.ensures.value, c.deref.ensures.len)

pub returns-clause-pairs : goal.returns-clause-pairs
returns-clause-pairs g c =
    let effect = c.args.effect.now in
    let some = sym (ap (last_place effect) c.deref.ensures.value) ∙ sym c.last_place.ensures ∙ c.in-Some.is in
    let found = (found_at effect c.args.undoable.now.items c.remove-found.result c.in-Some.place some).1 in
    let fits : SFits w64 c.remove-found.result.before = search rules in
    let before = to_z-of_z w64 c.remove-found.result.before fits ∙ ap (λ (u : Undoable). u.before) c.remove-found.ensures.value in
    rw found (c.revert.ensures.changed ∙ ap (λ b. with_value (g.B.Resource.meaning c.args.resource.now).items effect.call.key (reverted (g.B.Resource.sort c.args.resource.now) effect.call (value_at (g.B.Resource.meaning c.args.resource.now).items effect.call.key) b)) before)

pub returns-clause-undoable : goal.returns-clause-undoable
returns-clause-undoable g c =
    let effect = c.args.effect.now in
    let some = sym (ap (last_place effect) c.deref.ensures.value) ∙ sym c.last_place.ensures ∙ c.in-Some.is in
    let found = (found_at effect c.args.undoable.now.items c.remove-found.result c.in-Some.place some).1 in
    rw found c.remove-found.ensures.items
