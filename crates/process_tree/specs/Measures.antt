-- How large a block is, in numbers of 32 bits: one that is too large is the last.
use Rattle.std.specs.Prelude.{ℕ, ◌+◌, min, max, ◌||◌, length, nat_lt, if◌then◌else◌, Option, Some, None, nat_eq}
use Rattle.process_tree.specs.declared.measure.Measure.{Measure}
use Rattle.process_tree.specs.declared.tree.TreeError.{TreeError}
use Rattle.process_tree.specs.declared.tree.TreeError.TheVariants.{Empty, Steps, Nesting, Alternatives, NoMemory}
use Rattle.process_tree.specs.Blocks.{Outline}

-- the number, or the last of 32 bits
abbrev pub clipped : ℕ → ℕ
clipped n = min n 4294967295

-- the number, if there is one, or else the later
abbrev pub earlier : Option ℕ → Option ℕ → Option ℕ
earlier None later = later
earlier (Some n) later = Some n

-- the same of a number that may be missing
abbrev pub clipped_if : Option ℕ → Option ℕ
clipped_if None = None
clipped_if (Some n) = Some (clipped n)

-- a number of alternatives that is not 2 to 8
abbrev pub odd_number : ℕ → Option ℕ
odd_number n = if nat_lt n 2 || nat_lt 8 n then Some (clipped n) else None

-- one after the other
abbrev pub joined : Measure → Measure → Measure
joined a b = record {
  has_empty = a.has_empty || b.has_empty;
  steps = clipped (a.steps + b.steps);
  nesting = max a.nesting b.nesting;
  odd_choice = earlier a.odd_choice b.odd_choice;
}

-- how large what it says is
abbrev pub measure_of : Outline → Measure
measure_of o = record {
  has_empty = o.has_empty;
  steps = clipped (length o.steps);
  nesting = clipped o.nesting;
  odd_choice = clipped_if o.odd_choice;
}

-- a refusal with a number, or want of memory where the number is too large for it
abbrev pub refused_with : (ℕ → TreeError) → ℕ → TreeError
refused_with error n = if nat_eq n 4294967295 then NoMemory else error n

-- what is refused of a block of this size, its steps apart
abbrev pub size_fault : Measure → Option TreeError
size_fault m =
    if m.has_empty then Some Empty
    else (if nat_lt 256 m.steps then Some (refused_with Steps m.steps)
    else (if nat_lt 16 m.nesting then Some (refused_with Nesting m.nesting)
    else odd_fault m.odd_choice))
  where
    odd_fault : Option ℕ → Option TreeError
    odd_fault None = None
    odd_fault (Some n) = Some (refused_with Alternatives n)
