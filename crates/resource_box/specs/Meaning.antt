-- A map of keys to numbers, as the list of its pairs in the order of their keys.
use Rattle.std.specs.Prelude.{ℕ, ℤ, pos, Bool, List, is_some, if◌then◌else◌, unwrap_or}
use Rattle.std.specs.Map.{keys_of, lookup}
use Rattle.std.specs.Ordering.{nat_cmp}
use Rattle.std.specs.BTreeMap.{is_at, insert_entry}
use Rattle.std.specs.List.Sorted.{IsStrictlySortedBy}

-- Pairs of key and value; no key stands twice.
pub record Pairs : Type 0 where
  pub items : List (ℕ × ℤ)
  pub ordered : IsStrictlySortedBy nat_cmp (keys_of items)

-- whether a key has a pair
abbrev pub has_key : List (ℕ × ℤ) → ℕ → Bool
has_key pairs key = is_some (lookup (is_at (nat_cmp key)) pairs)

-- the value at a key; an absent key has 0
abbrev pub value_at : List (ℕ × ℤ) → ℕ → ℤ
value_at pairs key = unwrap_or (lookup (is_at (nat_cmp key)) pairs) (pos 0)

-- with this value at this key, and the same elsewhere
abbrev pub with_value : List (ℕ × ℤ) → ℕ → ℤ → List (ℕ × ℤ)
with_value pairs key value = insert_entry nat_cmp pairs key value

-- with a pair of this key, of value 0 where there was none
abbrev pub with_key : List (ℕ × ℤ) → ℕ → List (ℕ × ℤ)
with_key pairs key = if has_key pairs key then pairs else with_value pairs key (pos 0)
