-- What it means that a process is read again.
use Rattle.std.specs.Prelude.{◌≡◌, ◌⊎◌, ℕ, List, [], ◌∷◌, ⊤, Some, None}
use Rattle.process_tree.specs.declared.block.Block.{Block}
use Rattle.process_tree.specs.declared.tree.Named.{Named}
use Rattle.process_tree.specs.Blocks.{outline}
use Rattle.process_tree.specs.Form.{form_of}
use Rattle.process_text.specs.declared.error.TextError.{TextError}
use Rattle.text_words.specs.Words.{words_of}
use Rattle.process_text.specs.Grammar.{IsReading}
use Rattle.process_text.specs.Places.{text_error}

-- these are one process with this name and a tree that equals the one of this root, wherever both lie in memory
abbrev pub IsAgain : List ℕ → Block → List Named → Type 0
IsAgain name root ps =
    (p : Named) × (ps ≡ p ∷ []) × (p.name ≡ name) × (form_of p.tree ≡ form_of root) × (outline p.tree ≡ outline root)

-- as many processes, each with the name of the other in its place and a tree that equals the other's
abbrev pub AreAlike : List Named → List Named → Type 0
AreAlike [] [] = ⊤
AreAlike [] (q ∷ qs) = ⊥
AreAlike (p ∷ ps) [] = ⊥
AreAlike (p ∷ ps) (q ∷ qs) = (p.name ≡ q.name) × (form_of p.tree ≡ form_of q.tree) × AreAlike ps qs

-- words are of one list of processes at most, wherever their trees lie in memory
abbrev pub ReadingsAreAlike : Type 0
ReadingsAreAlike = (words : List (List ℕ)) (ps qs : List Named) → IsReading words ps → IsReading words qs → AreAlike ps qs

-- some processes are read of these bytes
abbrev pub HasReading : List ℕ → Type 0
HasReading bytes = (ps : List Named) × IsReading (words_of bytes) ps

-- a text has a reading or a fault, and not both
abbrev pub ReadingOrFault : Type 0
ReadingOrFault =
    (bytes : List ℕ) → (HasReading bytes × (text_error bytes ≡ None))
    ⊎ ((¬ HasReading bytes) × ((e : TextError) × (text_error bytes ≡ Some e)))
