-- Which processes have to come before which, in rows of bits, and how one comes back to where it began.
use Rattle.std.specs.Prelude.{◌≡◌, ◌<◌, ◌≤◌, ℕ, ◌+◌, Bool, true, false, List, [], ◌∷◌, ◌++◌, length, slice_index_or, Option, Some, None, Vec, IsTrue}
use Rattle.std.specs.declared.alloc.Global.{Global}
use Rattle.process_tree.specs.Order.{Each}
use Rattle.bit_rows.specs.Cells.{cell}
use Rattle.schedule_model.specs.Graph.{Arrow}
use Rattle.schedule_model.specs.Histories.{is_in}
use Rattle.dependence_model.specs.declared.placed.Placed.{Placed}
use Rattle.dependence_model.specs.Dependence.{goes_round}
use Rattle.dependence_model.specs.Audited.{ComesBack, StandsBefore, IsToldCycle}

-- how many columns a row of bits has
abbrev pub columns : ℕ
columns = 256

-- the processes of these entries have numbers below that
abbrev pub AreFew : List Placed → Type 0
AreFew xs = Each (λ x. x.entry.process < columns) xs

-- these numbers are below it
abbrev pub AreBelow : List ℕ → Type 0
AreBelow is = Each (λ i. i < columns) is

-- row j has column i where an arrow leads from i to j
pub record HasArrows (arrow : Arrow) (rows : List (List Bool)) : Type 0 where
  pub count : length rows ≡ columns
  pub at : (i j : ℕ) → cell rows j i ≡ arrow i j

-- the arrows that are set in rows
abbrev pub arrow_in : List (List Bool) → Arrow
arrow_in rows i j = cell rows j i

-- whether a set has this number
abbrev pub has : List Bool → ℕ → Bool
has set k = slice_index_or set k false

-- a set has each from which an arrow leads into the other, and no more
pub record IsStepBack (rows : List (List Bool)) (set before : List Bool) : Type 0 where
  pub sound : (k : ℕ) → has before k ≡ true → (j : ℕ) × (has set j ≡ true) × (cell rows j k ≡ true)
  pub complete : (j k : ℕ) → j < columns → has set j ≡ true → cell rows j k ≡ true → has before k ≡ true

-- a set has each that comes back to the first through n others, and no more
pub record IsLayer (arrow : Arrow) (first n : ℕ) (set : List Bool) : Type 0 where
  pub sound : (k : ℕ) → has set k ≡ true → (ks : List ℕ) × (length ks ≡ n) × ComesBack arrow first k ks
  pub complete : (k : ℕ) (ks : List ℕ) → length ks ≡ n → ComesBack arrow first k ks → has set k ≡ true

-- so it is of these sets in turn, through n others, one more, and so on
abbrev pub AreLayers : Arrow → ℕ → ℕ → List (List Bool) → Type 0
AreLayers arrow first n [] = Unit
AreLayers arrow first n (set ∷ sets) = IsLayer arrow first n set × AreLayers arrow first (n + 1) sets

-- these sets go as far as the first comes back to itself, and no further
pub record AreShortest (arrow : Arrow) (first : ℕ) (sets : List (List Bool)) : Type 0 where
  pub layers : AreLayers arrow first 0 sets
  pub others : List ℕ
  pub count : length others + 1 ≡ length sets
  pub comes_back : ComesBack arrow first first others
  pub fewest : (ks : List ℕ) → ComesBack arrow first first ks → length sets ≤ length ks + 1

-- the sets of the first, or it comes back to itself through more others than this at least
abbrev pub FindsLayers : Arrow → ℕ → ℕ → Option (Vec (List Bool) Global) → Type 0
FindsLayers arrow first most None = (ks : List ℕ) → ComesBack arrow first first ks → most < length ks
FindsLayers arrow first most (Some sets) = AreShortest arrow first sets.items

-- i comes back to the first through these n others, and they are the least that do
pub record IsLeastBack (arrow : Arrow) (first i n : ℕ) (others : List ℕ) : Type 0 where
  pub count : length others ≡ n
  pub comes_back : ComesBack arrow first i others
  pub least : (ks : List ℕ) → ComesBack arrow first i ks → length ks ≡ n → StandsBefore ks others → ⊥

-- On the way back from the first, through others that were chosen, one has come to this process, from which as many sets are left as
-- there are others on the rest of the way. The least rest makes the least whole.
pub record IsOnWay (arrow : Arrow) (first count : ℕ) (sets : List (List Bool)) (last : ℕ) (cycle : List ℕ) : Type 0 where
  pub within : last < columns
  pub layers : AreLayers arrow first 0 sets
  pub rest : List ℕ
  pub rest_count : length rest ≡ length sets
  pub rest_back : ComesBack arrow first last rest
  pub chosen : List ℕ
  pub is : cycle ≡ first ∷ chosen
  pub all : length chosen + length sets + 1 ≡ count
  pub least : (tail : List ℕ) → IsLeastBack arrow first last (length sets) tail
      → IsLeastBack arrow first first (length chosen + length sets) (chosen ++ tail)

-- this number is in the set, and an arrow leads to it from i
pub record IsNext (rows : List (List Bool)) (set : List Bool) (i k : ℕ) : Type 0 where
  pub in' : has set k ≡ true
  pub arrow : cell rows k i ≡ true

-- what is left goes round, and this is the cycle that is told; or it doesn't
abbrev pub FindsCycle : Arrow → List ℕ → Option (Vec ℕ Global) → Type 0
FindsCycle arrow all None = goes_round arrow all ≡ false
FindsCycle arrow all (Some cycle) = (goes_round arrow all ≡ true) × IsToldCycle arrow all cycle.items

-- arrows lead to these processes alone, which have numbers below that of columns
pub record HasAll (arrow : Arrow) (all : List ℕ) : Type 0 where
  pub target : (i j : ℕ) → arrow i j ≡ true → IsTrue (is_in j all)
  pub few : (i : ℕ) → IsTrue (is_in i all) → i < columns
