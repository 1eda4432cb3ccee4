-- Walks along arrows between numbered processes.
use Rattle.std.specs.Prelude.{ℕ, zero, suc, Bool, ◌||◌, List, length, filter, IsTrue}
use Rattle.std.specs.List.{list_any}
use Rattle.schedule_model.specs.Histories.{is_in}

-- an arrow leads from one process to another
abbrev pub Arrow : Type 0
Arrow = ℕ → ℕ → Bool

-- of these processes, those in the set and those to which an arrow leads from it
abbrev pub spread : Arrow → List ℕ → List ℕ → List ℕ
spread arrow all set = filter (λ k. is_in k set || list_any (λ j. arrow j k) set) all

-- the same, n times over
abbrev pub spread_by : ℕ → Arrow → List ℕ → List ℕ → List ℕ
spread_by zero arrow all set = set
spread_by (suc n) arrow all set = spread arrow all (spread_by n arrow all set)

-- all to which a walk leads from the set: no walk needs more arrows than there are processes
abbrev pub reached : Arrow → List ℕ → List ℕ → List ℕ
reached arrow all set = spread_by (length all) arrow all set

-- a walk of one or more arrows leads from i to k through these processes
abbrev pub leads : Arrow → List ℕ → ℕ → ℕ → Bool
leads arrow all i k = is_in k (reached arrow all (filter (arrow i) all))

-- set has these processes, whatever an arrow leads to from it, and nothing that another such set could do without
pub record IsLeast (arrow : Arrow) (all : List ℕ) (begun : List ℕ) (set : List ℕ) : Type 0 where
  pub begins : (k : ℕ) → IsTrue (is_in k begun) → IsTrue (is_in k set)
  pub closed : (j k : ℕ) → IsTrue (is_in j set) → IsTrue (is_in k all) → IsTrue (arrow j k) → IsTrue (is_in k set)
  pub least : (other : List ℕ) → ((k : ℕ) → IsTrue (is_in k begun) → IsTrue (is_in k other))
      → ((j k : ℕ) → IsTrue (is_in j other) → IsTrue (is_in k all) → IsTrue (arrow j k) → IsTrue (is_in k other))
      → (k : ℕ) → IsTrue (is_in k set) → IsTrue (is_in k other)

-- a walk of one or more arrows from one process to another, through these processes
pub data Walk (arrow : Arrow) (all : List ℕ) : ℕ → ℕ → Type 0 where
  one_arrow : {i k : ℕ} → IsTrue (is_in k all) → IsTrue (arrow i k) → Walk arrow all i k
  and_then : {i j k : ℕ} → Walk arrow all i j → IsTrue (is_in k all) → IsTrue (arrow j k) → Walk arrow all i k
