-- Where a book and the effects of a history differ first.
use Rattle.std.specs.Prelude.{ℕ, ◌+◌, List, [], ◌∷◌, Option, Some, None, if◌then◌else◌}
use Rattle.subsystem_store.specs.declared.effect.Effect.{Effect}
use Rattle.subsystem_store.specs.Opened.{Opened}
use Rattle.schedule_model.specs.declared.history.History.{History}
use Rattle.commute_table.specs.declared.op.Op.{Op}
use Rattle.history_files.specs.Effects.{effects}
use Rattle.history_files.specs.Sound.{counted, same_effect}
use Rattle.history_opening.specs.declared.faults.BookFault.{BookFault}

-- the first difference of two lists whose first effects have place n, in subsystem q
abbrev pub difference_from : ℕ → ℕ → List Effect → List Effect → Option BookFault
difference_from q n [] [] = None
difference_from q n [] (e ∷ es) = Some (record { subsystem = q; at = n; book = None; acts = Some e })
difference_from q n (b ∷ book) [] = Some (record { subsystem = q; at = n; book = Some b; acts = None })
difference_from q n (b ∷ book) (e ∷ es) = if same_effect b e then difference_from q (n + 1) book es
    else Some (record { subsystem = q; at = n; book = Some b; acts = Some e })

-- places are counted from 1
abbrev pub difference : ℕ → List Effect → List Effect → Option BookFault
difference q book es = difference_from q 1 book es

-- where what a book comes to differs first from these effects
abbrev pub book_difference : ℕ → List Effect → List Effect → List Effect → Option BookFault
book_difference q es book doubt = difference q (counted es book doubt) es

-- the first that is something
abbrev pub or_else : {A : Type 0} → Option A → Option A → Option A
or_else None other = other
or_else (Some x) other = Some x

-- the first difference of the first of these stores, of subsystem q on, whose book differs from the effects of a history
abbrev pub books_difference : {B : Type 0} → List Op → History → ℕ → List (Opened B) → Option BookFault
books_difference ops h q [] = None
books_difference ops h q (s ∷ stores) =
    or_else (book_difference q (effects ops h q) s.book s.doubt) (books_difference ops h (q + 1) stores)
