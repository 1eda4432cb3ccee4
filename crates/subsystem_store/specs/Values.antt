-- What a list of effects makes of the values of a subsystem.
use Rattle.std.specs.Prelude.{ℕ, ℤ, Bool, ◌&&◌, ◌==◌, List, [], ◌∷◌, ◌++◌, fold, Option, Some, None, if◌then◌else◌, is_some}
use Rattle.std.specs.Ordering.{int_eq}
use Rattle.commute_table.specs.Bytes.{verb_code}
use Rattle.resource_box.specs.declared.call.Kind.{Kind}
use Rattle.resource_box.specs.declared.call.Call.{Call}
use Rattle.resource_box.specs.Meaning.{value_at, with_value}
use Rattle.resource_box.specs.Table.{applied, reverted}
use Rattle.subsystem_store.specs.declared.effect.Effect.{Effect}
use Rattle.subsystem_store.specs.declared.effect.Undoable.{Undoable}

-- the same verb, key and amount
abbrev pub same_call : Call → Call → Bool
same_call a b = (verb_code a.verb == verb_code b.verb) && (a.key == b.key) && int_eq a.amount b.amount

-- an undo is of a forward effect of the same process, step and call
abbrev pub is_of : Effect → Effect → Bool
is_of undo forward = (undo.process == forward.process) && (undo.step == forward.step) && same_call undo.call forward.call

-- The values after some effects, and which forward effects aren't undone yet, each with the value before it.
pub record Settled : Type 0 where
  pub pairs : List (ℕ × ℤ)
  pub undoable : List Undoable

-- the last of these that an undo can be of: the value before it, and the others
abbrev pub take_later : Effect → Undoable → List Undoable → Option (ℤ × List Undoable) → Option (ℤ × List Undoable)
take_later undo first others (Some found) = Some (found.0, first ∷ found.1)
take_later undo first others None = if is_of undo first.effect then Some (first.before, others) else None

abbrev pub take_last : Effect → List Undoable → Option (ℤ × List Undoable)
take_last undo [] = None
take_last undo (first ∷ others) = take_later undo first others (take_last undo others)

-- after a forward effect
abbrev pub done : Kind → Settled → Effect → Settled
done kind s e = record {
  pairs = with_value s.pairs e.call.key (applied kind e.call (value_at s.pairs e.call.key));
  undoable = s.undoable ++ (record { effect = e; before = value_at s.pairs e.call.key }) ∷ [];
}

-- after an undo of what was found; one of nothing changes nothing
abbrev pub undone : Kind → Settled → Effect → Option (ℤ × List Undoable) → Settled
undone kind s e None = s
undone kind s e (Some found) = record {
  pairs = with_value s.pairs e.call.key (reverted kind e.call (value_at s.pairs e.call.key) found.0);
  undoable = found.1;
}

-- after one effect
abbrev pub settle : Kind → Settled → Effect → Settled
settle kind s e = if e.undo then undone kind s e (take_last e s.undoable) else done kind s e

-- before any
abbrev pub unused : Settled
unused = record { pairs = []; undoable = [] }

-- after the effects of a book, in order
abbrev pub settled : Kind → List Effect → Settled
settled kind book = fold (settle kind) unused book

-- the values of a book
abbrev pub values : Kind → List Effect → List (ℕ × ℤ)
values kind book = (settled kind book).pairs

-- the forward effects of a book that aren't undone hold one that this undo can be of; which they are is the same for every kind
abbrev pub can_undo : Kind → List Effect → Effect → Bool
can_undo kind book undo = is_some (take_last undo (settled kind book).undoable)

-- values beside what may be undone
abbrev pub beside : List (ℕ × ℤ) → List Undoable → Settled
beside pairs undoable = record { pairs = pairs; undoable = undoable }
