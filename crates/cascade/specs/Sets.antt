-- Sets of processes, by their marks.
use Rattle.std.specs.Prelude.{◌≡◌, ℕ, ◌+◌, Bool, true, false, ◌||◌, List, [], ◌∷◌, length, slice_index_or, if◌then◌else◌}
use Rattle.cascade.specs.declared.marks.Mark.{Mark}
use Rattle.cascade.specs.declared.marks.Mark.TheVariants.{Out, Waiting, Done}

-- a set of numbers up to a greatest
pub record Numbers : Type 0 where
  pub most : ℕ
  -- in rising order
  pub members : List ℕ

-- a process is in, waiting to be looked at or looked at
abbrev pub is_marked : Mark → Bool
is_marked Out = false
is_marked Waiting = true
is_marked Done = true

-- it is in and was looked at
abbrev pub is_done : Mark → Bool
is_done Out = false
is_done Waiting = false
is_done Done = true

-- whether process k is in
abbrev pub marked : List Mark → ℕ → Bool
marked marks k = is_marked (slice_index_or marks k Out)

-- whether it was looked at
abbrev pub done : List Mark → ℕ → Bool
done marks k = is_done (slice_index_or marks k Out)

-- the numbers of those that are in, the first mark being of number n
abbrev pub listed : ℕ → List Mark → List ℕ
listed n [] = []
listed n (m ∷ marks) = if is_marked m then n ∷ listed (n + 1) marks else listed (n + 1) marks

-- those of which this is true are added, and none of them is looked at
pub record IsMarked (added : ℕ → Bool) (old new : List Mark) : Type 0 where
  pub count : length new ≡ length old
  pub in_set : (k : ℕ) → marked new k ≡ (marked old k || added k)
  pub looked_at : (k : ℕ) → done new k ≡ done old k
