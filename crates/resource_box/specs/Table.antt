-- What each verb does to the value at its key.
use Rattle.std.specs.Prelude.{ℕ, ℤ, pos, Bool, true, false, not, int_lt, nat_lt, if◌then◌else◌}
use Rattle.std.specs.Int.{int_wrapping_add, int_wrapping_sub}
use Rattle.std.specs.Ordering.{int_eq}
use Rattle.std.proofs.Common.{w64}
use Rattle.commute_table.specs.declared.op.Verb.{Verb}
use Rattle.commute_table.specs.declared.op.Verb.TheVariants.{Add, Take, Look, Put, Hold, Free}
use Rattle.resource_box.specs.declared.call.Kind.{Kind}
use Rattle.resource_box.specs.declared.call.Kind.TheVariants.{Counters, Cells, Seats}
use Rattle.resource_box.specs.declared.call.Call.{Call}

-- the kind of a subsystem: 0 to 3 are counters, 4 and 5 cells, the others seats
abbrev pub kind_of : ℕ → Kind
kind_of q = if nat_lt q 4 then Counters else (if nat_lt q 6 then Cells else Seats)

-- the verbs that a kind takes
abbrev pub takes : Kind → Verb → Bool
takes Counters Add = true
takes Counters Take = true
takes Counters Look = true
takes Counters Put = false
takes Counters Hold = false
takes Counters Free = false
takes Cells Add = false
takes Cells Take = false
takes Cells Look = true
takes Cells Put = true
takes Cells Hold = false
takes Cells Free = false
takes Seats Add = false
takes Seats Take = false
takes Seats Look = true
takes Seats Put = false
takes Seats Hold = true
takes Seats Free = true

-- the values at which a verb is barred: a counter that holds too little, a seat that is held, and one that isn't held by this
-- amount
abbrev pub bars_at : Verb → ℤ → ℤ → Bool
bars_at Add amount value = false
bars_at Take amount value = int_lt value amount
bars_at Look amount value = false
bars_at Put amount value = false
bars_at Hold amount value = not (int_eq value (pos 0))
bars_at Free amount value = not (int_eq value amount)

-- whether a call is barred at the value of its key; a verb that the kind doesn't take always is
abbrev pub bars : Kind → Call → ℤ → Bool
bars kind call value = if takes kind call.verb then bars_at call.verb call.amount value else true

-- what a verb makes of the value; sums and differences wrap
abbrev pub applied_at : Verb → ℤ → ℤ → ℤ
applied_at Add amount value = int_wrapping_add w64 value amount
applied_at Take amount value = int_wrapping_sub w64 value amount
applied_at Look amount value = value
applied_at Put amount value = amount
applied_at Hold amount value = amount
applied_at Free amount value = pos 0

-- what a call makes of the value at its key; a verb that the kind doesn't take changes nothing
abbrev pub applied : Kind → Call → ℤ → ℤ
applied kind call value = if takes kind call.verb then applied_at call.verb call.amount value else value

-- what the undo of a verb makes of the value, given the value before the verb
abbrev pub reverted_at : Verb → ℤ → ℤ → ℤ → ℤ
reverted_at Add amount value before = int_wrapping_sub w64 value amount
reverted_at Take amount value before = int_wrapping_add w64 value amount
reverted_at Look amount value before = value
reverted_at Put amount value before = before
reverted_at Hold amount value before = before
reverted_at Free amount value before = before

-- what the undo of a call makes of the value at its key
abbrev pub reverted : Kind → Call → ℤ → ℤ → ℤ
reverted kind call value before = if takes kind call.verb then reverted_at call.verb call.amount value before else value
