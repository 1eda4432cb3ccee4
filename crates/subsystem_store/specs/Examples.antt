-- Worked books.
use Rattle.std.specs.Prelude.{◌≡◌, ℕ, ℤ, pos, Bool, true, false, List, [], ◌∷◌, Some, None, Ok, refl}
use Rattle.commute_table.specs.declared.op.Verb.{Verb}
use Rattle.commute_table.specs.declared.op.Verb.TheVariants.{Add, Put}
use Rattle.resource_box.specs.declared.call.Kind.TheVariants.{Counters, Cells}
use Rattle.resource_box.specs.Meaning.{value_at}
use Rattle.subsystem_store.specs.declared.effect.Effect.{Effect}
use Rattle.subsystem_store.specs.declared.effect.Record.TheVariants.{Prepared, Committed}
use Rattle.subsystem_store.specs.Values.{values, can_undo}
use Rattle.subsystem_store.specs.Order.{may_follow, commits, read_bodies, no_book}
use Rattle.subsystem_store.specs.Bodies.{prepared_bytes, committed_bytes, group_bodies, record_of}

-- effect number n of process 1 at key 1
abbrev step_of : ℕ → ℕ → Bool → Verb → ℤ → Effect
step_of n step undo verb amount =
    record { number = n; process = 1; step = step; undo = undo; call = record { verb = verb; key = 1; amount = amount } }

-- a put of 5 and a put of 9 on a cell
abbrev two_puts : List Effect
two_puts = step_of 0 0 false Put (pos 5) ∷ step_of 1 1 false Put (pos 9) ∷ []

two_puts_leave_9 : value_at (values Cells two_puts) 1 ≡ pos 9
two_puts_leave_9 = refl

-- the undo of the put behind the other leaves the value before that one
undo_of_the_second : value_at
    (values Cells (step_of 0 0 false Put (pos 5) ∷ step_of 1 1 false Put (pos 9) ∷ step_of 2 1 true Put (pos 9) ∷ [])) 1 ≡ pos 5
undo_of_the_second = refl

-- and then the undo of the first leaves none
undo_of_both : value_at
    (values Cells (step_of 0 0 false Put (pos 5) ∷ step_of 1 1 false Put (pos 9) ∷ step_of 2 1 true Put (pos 9)
    ∷ step_of 3 0 true Put (pos 5) ∷ [])) 1 ≡ pos 0
undo_of_both = refl

-- an add is undone though another came behind it
undo_of_an_add : value_at
    (values Counters (step_of 0 0 false Add (pos 5) ∷ step_of 1 1 false Add (pos 7) ∷ step_of 2 0 true Add (pos 5) ∷ [])) 1 ≡ pos 7
undo_of_an_add = refl

-- an undo comes once
undone_once : can_undo Cells (step_of 0 0 false Put (pos 5) ∷ step_of 1 0 true Put (pos 5) ∷ []) (step_of 2 0 true Put (pos 5))
    ≡ false
undone_once = refl

-- a number above the last may follow, and no other
above_the_last : may_follow Cells two_puts (step_of 2 2 false Put (pos 1)) ≡ true
above_the_last = refl

not_above_the_last : may_follow Cells two_puts (step_of 1 2 false Put (pos 1)) ≡ false
not_above_the_last = refl

-- the bytes of an effect and of its commit
bytes_of_an_add : prepared_bytes (step_of 0 0 false Add (pos 5))
    ≡ 16 ∷ 0 ∷ 0 ∷ 0 ∷ 0 ∷ 1 ∷ 0 ∷ 0 ∷ 0 ∷ 0 ∷ 0 ∷ 0 ∷ 0 ∷ 1 ∷ 0 ∷ 0 ∷ 0 ∷ 5 ∷ 0 ∷ 0 ∷ 0 ∷ 0 ∷ 0 ∷ 0 ∷ 0 ∷ []
bytes_of_an_add = refl

bytes_of_a_commit : committed_bytes 258 ≡ 17 ∷ 2 ∷ 1 ∷ 0 ∷ 0 ∷ []
bytes_of_a_commit = refl

-- they are read back
read_back : record_of (prepared_bytes (step_of 0 0 false Add (pos 5))) ≡ Some (Prepared (step_of 0 0 false Add (pos 5)))
read_back = refl

commit_read_back : record_of (committed_bytes 258) ≡ Some (Committed 258)
commit_read_back = refl

-- an undo is 0 or 1
no_undo_of_2 : record_of (16 ∷ 0 ∷ 0 ∷ 0 ∷ 0 ∷ 1 ∷ 0 ∷ 0 ∷ 0 ∷ 0 ∷ 0 ∷ 2 ∷ 0 ∷ 1 ∷ 0 ∷ 0 ∷ 0 ∷ 5 ∷ 0 ∷ 0 ∷ 0 ∷ 0 ∷ 0 ∷ 0 ∷ 0 ∷ [])
    ≡ None
no_undo_of_2 = refl

-- two puts that are committed together: each is prepared, and then all up to the second are committed
bodies_of_a_group : group_bodies two_puts
    ≡ prepared_bytes (step_of 0 0 false Put (pos 5)) ∷ prepared_bytes (step_of 1 1 false Put (pos 9)) ∷ committed_bytes 1 ∷ []
bodies_of_a_group = refl

-- they are read back as a book of both
group_read_back : read_bodies Cells 1 (group_bodies two_puts) no_book ≡ Ok (record { book = two_puts; doubt = [] })
group_read_back = refl

-- the number of the first of them commits nothing
not_by_the_first : commits two_puts 0 ≡ false
not_by_the_first = refl
