-- Lines and words.
use Rattle.std.specs.Prelude.{ℕ, ◌+◌, List, [], ◌∷◌, Bool, false, nat_eq, if◌then◌else◌, Option, Some, None}
use Rattle.std.specs.List.{slice_split}
use Rattle.std.specs.Option.{option_map}

-- the parts of a text between such bytes: one more than there are such bytes
abbrev pub parts : ℕ → List ℕ → List (List ℕ)
parts b text = slice_split (λ c. nat_eq c b) text

-- two parts of a text
abbrev pub Parts : Type 0
Parts = List ℕ × List ℕ

-- all of it is the second part
abbrev pub all_behind : List ℕ → Parts
all_behind cs = ([], cs)

-- the same with one byte more in front
abbrev pub onto_front : ℕ → Parts → Parts
onto_front c p = (c ∷ p.0, p.1)

-- what stands before the first such byte, and what behind it
abbrev pub cut : ℕ → List ℕ → Option Parts
cut b [] = None
cut b (c ∷ cs) = if nat_eq c b then Some (all_behind cs) else option_map (onto_front c) (cut b cs)

-- what comes of these two
abbrev pub of_both : {X : Type 0} → (List ℕ → List ℕ → Option X) → Option Parts → Option X
of_both f None = None
of_both f (Some p) = f p.0 p.1

-- these two pass
abbrev pub both_pass : (List ℕ → List ℕ → Bool) → Option Parts → Bool
both_pass test None = false
both_pass test (Some p) = test p.0 p.1

-- how many bytes stand before the first such byte
abbrev pub size_before : ℕ → List ℕ → ℕ
size_before b [] = 0
size_before b (c ∷ cs) = if nat_eq c b then 0 else size_before b cs + 1
