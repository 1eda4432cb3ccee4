-- Names that are most likely meant.
use Rattle.std.specs.Prelude.{◌≡◌, ℕ, List, [], ◌∷◌, Bool, true, false, ◌&&◌, ◌||◌, drop, nat_eq, codes, refl}
use Rattle.std.specs.Prelude.{Option, Some, None, option_and_then, if◌then◌else◌}
use Rattle.std.specs.Option.{option_map_or}
use Rattle.std.specs.Str.{bytes_eq}
use Rattle.toml.specs.Data.{Data, Items, no_items, item, as_table}
use Rattle.commute_table.specs.Document.{text_at}

-- the first two bytes are those of the other the other way round, and the rest is the same
abbrev pub is_exchange : List ℕ → List ℕ → Bool
is_exchange [] b = false
is_exchange (x ∷ []) b = false
is_exchange (x ∷ y ∷ a) [] = false
is_exchange (x ∷ y ∷ a) (z ∷ []) = false
is_exchange (x ∷ y ∷ a) (z ∷ w ∷ b) = nat_eq x w && nat_eq y z && bytes_eq a b

-- the first byte is another, or stands in one of them alone; or the first two are exchanged
abbrev pub differs_at_first : List ℕ → List ℕ → Bool
differs_at_first a b = bytes_eq (drop 1 a) (drop 1 b) || bytes_eq (drop 1 a) b || bytes_eq a (drop 1 b) || is_exchange a b

-- they differ in one byte, or in two neighbours that are exchanged
abbrev pub is_near : List ℕ → List ℕ → Bool
is_near [] b = differs_at_first [] b
is_near (x ∷ a) [] = differs_at_first (x ∷ a) []
is_near (x ∷ a) (y ∷ b) = if nat_eq x y then is_near a b else differs_at_first (x ∷ a) (y ∷ b)

-- the name that a table of an operation has
abbrev pub name_in : Data → Option (List ℕ)
name_in d = option_and_then (text_at (codes "name")) (as_table d)

-- the name of the first of these tables that has one near to this
abbrev pub nearest : List ℕ → Items → Option (List ℕ)
nearest name no_items = None
nearest name (item d ds) = if option_map_or (is_near name) (name_in d) false then name_in d else nearest name ds

pub a_byte_is_missing : is_near (codes "chrge") (codes "charge") ≡ true
a_byte_is_missing = refl

pub two_are_exchanged : is_near (codes "hcarge") (codes "charge") ≡ true
two_are_exchanged = refl

pub another_word : is_near (codes "order") (codes "charge") ≡ false
another_word = refl
