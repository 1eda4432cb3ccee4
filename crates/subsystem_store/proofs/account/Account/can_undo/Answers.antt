use Rattle.std.proofs.Common.{◌≡◌, length, take, drop, ◌∙◌, ap, arith, ℕ}
use Rattle.std.specs.Prelude.{nat_lt}
use Rattle.std.proofs.lemmas.List.{length-drop, length-take-le}
use Rattle.subsystem_store.specs.Values.{settled}
use Rattle.subsystem_store.specs.Matching.{count_of, left_of}
use Rattle.subsystem_store.proofs.Counts.{can_undo_behind}
use Rattle.subsystem_store.proofs.Rooms.{undoable_few}
use Rattle.subsystem_store.proofs.account.Account.can_undo.Goals as goal

pub count_of-requires : goal.count_of-requires
count_of-requires g c =
    let was = c.self.invariant in
    let n = c.self.inside.committed in
    let effects = c.self.inside.effects.items in
    record { few = omega (arith, ap length c.deref-2.ensures.value, ap length was.2, undoable_few c.self.inside.kind (take n effects), length-take-le n effects was.0, was.0, was.1) }

pub left_of-requires : goal.left_of-requires
left_of-requires g c =
    let was = c.self.invariant in
    let n = c.self.inside.committed in
    let effects = c.self.inside.effects.items in
    let back = ap length (c.split_at.ensures.back ∙ ap (drop n) c.deref.ensures.value) in
    record { few = omega (arith, c.count_of.ensures.few, ap length c.deref-2.ensures.value, ap length was.2, undoable_few c.self.inside.kind (take n effects), length-take-le n effects was.0, was.0, was.1, back, length-drop n effects) }

pub returns : goal.returns
returns g c = rw (← c.self.view_is) (
    let was = c.self.invariant in
    let n = c.self.inside.committed in
    let kind = c.self.inside.kind in
    let effects = c.self.inside.effects.items in
    let undo = c.args.undo.now in
    let back = c.split_at.ensures.back ∙ ap (drop n) c.deref.ensures.value in
    let many : c.count_of.result ≡ count_of undo (settled kind (take n effects)).undoable = c.count_of.ensures.count ∙ ap (count_of undo) (c.deref-2.ensures.value ∙ was.2) in
    ap (nat_lt 0) (c.left_of.ensures ∙ ap (left_of undo c.count_of.result) back ∙ ap (λ (k : ℕ). left_of undo k (drop n effects)) many)
    ∙ can_undo_behind undo kind (take n effects) (drop n effects) was.5)
