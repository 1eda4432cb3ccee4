-- What is proved of the words for maps.
use Rattle.std.specs.Prelude.{◌≡◌, ◌≢◌, ℕ, ℤ, List, true}
use Rattle.resource_box.specs.Meaning.{value_at, has_key, with_value, with_key}

-- a value that was set is read at its key
abbrev pub ReadsWhatWasSet : Type 0
ReadsWhatWasSet = (pairs : List (ℕ × ℤ)) (key : ℕ) (value : ℤ) → value_at (with_value pairs key value) key ≡ value

-- and every other key keeps its value
abbrev pub KeepsOtherKeys : Type 0
KeepsOtherKeys = (pairs : List (ℕ × ℤ)) (key : ℕ) (value : ℤ) (other : ℕ) → other ≢ key
    → value_at (with_value pairs key value) other ≡ value_at pairs other

-- a pair that was made has the key, and changes no value
abbrev pub ReadyChangesNoValue : Type 0
ReadyChangesNoValue = (pairs : List (ℕ × ℤ)) (key other : ℕ)
    → (has_key (with_key pairs key) key ≡ true) × (value_at (with_key pairs key) other ≡ value_at pairs other)
