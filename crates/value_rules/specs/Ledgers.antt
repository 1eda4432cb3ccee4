-- Ledgers: the values of all subsystems while entries take effect, and what each step found.
use Rattle.std.specs.Prelude.{ℕ, ℤ, pos, Bool, true, false, ◌&&◌, List, [], ◌∷◌, nat_eq, if◌then◌else◌}
use Rattle.process_tree.specs.declared.entry.Entry.{Entry}
use Rattle.commute_table.specs.declared.op.Verb.{Verb}
use Rattle.commute_table.specs.declared.op.Verb.TheVariants.{Add, Take, Look, Put, Hold, Free}
use Rattle.resource_box.specs.declared.call.Call.{Call}
use Rattle.resource_box.specs.declared.call.Kind.{Kind}
use Rattle.resource_box.specs.Table.{applied, reverted, kind_of}

-- what an entry asks: the subsystem, and the call there
pub record Deed : Type 0 where
  pub subsystem : ℕ
  pub call : Call

-- what each entry asks; the plans and the operations of a catalog say it
abbrev pub Deeds : Type 0
Deeds = Entry → Deed

-- The value of each subsystem at each key; and what each step of each process found at its key when it took effect.
pub record Ledger : Type 0 where
  pub value : ℕ → ℕ → ℤ
  pub found : ℕ → ℕ → ℤ

-- the same but at one place
abbrev pub with_at : (ℕ → ℕ → ℤ) → ℕ → ℕ → ℤ → ℕ → ℕ → ℤ
with_at f a b v x y = if nat_eq x a && nat_eq y b then v else f x y

-- the value that an entry meets
abbrev pub met : Deeds → Ledger → Entry → ℤ
met deeds l e = l.value (deeds e).subsystem (deeds e).call.key

-- what a call, or its undo, which is handed what the step found, makes of a value
abbrev pub made_of : Kind → Call → Bool → ℤ → ℤ → ℤ
made_of kind call undo value before = if undo then reverted kind call value before else applied kind call value

-- what an entry leaves at its key
abbrev pub left_by : Deeds → Ledger → Entry → ℤ
left_by deeds l e = made_of (kind_of (deeds e).subsystem) (deeds e).call e.undo (met deeds l e) (l.found e.process e.step)

-- what steps found, with what this one finds; an undo finds nothing anew
abbrev pub noted : Deeds → Ledger → Entry → ℕ → ℕ → ℤ
noted deeds l e = if e.undo then l.found else with_at l.found e.process e.step (met deeds l e)

-- after an entry
abbrev pub after : Deeds → Ledger → Entry → Ledger
after deeds l e = record {
  value = with_at l.value (deeds e).subsystem (deeds e).call.key (left_by deeds l e);
  found = noted deeds l e;
}

-- before anything
abbrev pub unused : Ledger
unused = record { value = λ q k. pos 0; found = λ i b. pos 0 }

-- after these entries
abbrev pub after_all : Deeds → Ledger → List Entry → Ledger
after_all deeds l [] = l
after_all deeds l (e ∷ es) = after_all deeds (after deeds l e) es

-- the verb makes a sum or a difference: its undo doesn't ask what it found
abbrev pub is_sum : Verb → Bool
is_sum Add = true
is_sum Take = true
is_sum Look = false
is_sum Put = false
is_sum Hold = false
is_sum Free = false

-- two entries are at one key of one subsystem
abbrev pub same_place : Deeds → Entry → Entry → Bool
same_place deeds a b = nat_eq (deeds a).subsystem (deeds b).subsystem && nat_eq (deeds a).call.key (deeds b).call.key
