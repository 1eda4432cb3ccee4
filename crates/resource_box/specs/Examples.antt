-- Worked rows of the table.
use Rattle.std.specs.Prelude.{◌≡◌, ℤ, pos, negsuc, true, false, [], ◌∷◌, refl}
use Rattle.commute_table.specs.declared.op.Verb.TheVariants.{Add, Take, Put, Free}
use Rattle.resource_box.specs.declared.call.Kind.TheVariants.{Counters, Cells, Seats}
use Rattle.resource_box.specs.declared.call.Call.{Call}
use Rattle.commute_table.specs.declared.op.Verb.{Verb}
use Rattle.resource_box.specs.Meaning.{value_at, with_value, with_key}
use Rattle.resource_box.specs.Table.{bars, applied, reverted}

abbrev at_1 : Verb → ℤ → Call
at_1 verb amount = record { verb = verb; key = 1; amount = amount }

-- a counter of 5 bars what takes 6, and gives what takes 5
take_6_is_barred : bars Counters (at_1 Take (pos 6)) (pos 5) ≡ true
take_6_is_barred = refl

take_5_leaves_0 : applied Counters (at_1 Take (pos 5)) (pos 5) ≡ pos 0
take_5_leaves_0 = refl

-- a sum past the greatest number wraps to the least
sum_wraps : applied Counters (at_1 Add (pos 1)) (pos 9223372036854775807) ≡ negsuc 9223372036854775807
sum_wraps = refl

-- the undo of a put gives back the value before
put_is_undone : reverted Cells (at_1 Put (pos 9)) (pos 9) (pos 4) ≡ pos 4
put_is_undone = refl

-- a seat that 3 holds is freed by 3 alone
freed_by_3 : bars Seats (at_1 Free (pos 3)) (pos 3) ≡ false
freed_by_3 = refl

not_freed_by_4 : bars Seats (at_1 Free (pos 4)) (pos 3) ≡ true
not_freed_by_4 = refl

-- a counter bars a put, which changes nothing
put_is_barred : bars Counters (at_1 Put (pos 1)) (pos 0) ≡ true
put_is_barred = refl

put_changes_nothing : applied Counters (at_1 Put (pos 1)) (pos 7) ≡ pos 7
put_changes_nothing = refl

-- pairs are in the order of their keys
pairs_in_order : with_value (with_key (with_value [] 5 (pos 1)) 2) 5 (pos 9) ≡ (2, pos 0) ∷ (5, pos 9) ∷ []
pairs_in_order = refl

-- an absent key has 0
absent_is_0 : value_at (with_value [] 5 (pos 1)) 4 ≡ pos 0
absent_is_0 = refl
