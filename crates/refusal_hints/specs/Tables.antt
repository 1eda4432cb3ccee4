-- Which table of an operation is meant.
use Rattle.std.specs.Prelude.{ℕ, ◌+◌, ◌-◌, List, [], Bool, true, false, not, ◌&&◌, ◌||◌, nat_eq, nat_lt, nat_le, codes}
use Rattle.std.specs.Prelude.{Option, Some, None, is_some, option_and_then, if◌then◌else◌}
use Rattle.std.specs.Option.{option_map_or}
use Rattle.std.specs.Str.{bytes_eq}
use Rattle.toml.specs.Data.{Data, Items, no_items, item, Members, get_member, as_array, as_table}
use Rattle.process_tree.specs.Name.{is_name}
use Rattle.commute_table.specs.Document.{text_at, number_at}

-- the table has a name
abbrev pub has_good_name : Members → Bool
has_good_name t = option_map_or is_name (text_at (codes "name") t) false

-- and a subsystem
abbrev pub has_good_subsystem : Members → Bool
has_good_subsystem t = option_map_or (λ q. nat_lt q 8) (number_at (codes "subsystem") t) false

-- the word is a verb of this subsystem
abbrev pub is_verb_of : ℕ → List ℕ → Bool
is_verb_of q word = if bytes_eq word (codes "look") then nat_lt q 8
    else (if bytes_eq word (codes "add") || bytes_eq word (codes "take") then nat_lt q 4
    else (if bytes_eq word (codes "put") then nat_le 4 q && nat_lt q 6
    else (if bytes_eq word (codes "hold") || bytes_eq word (codes "free") then nat_le 6 q && nat_lt q 8
    else false)))

-- it has a verb of this subsystem
abbrev pub has_verb_of : Members → ℕ → Bool
has_verb_of t q = option_map_or (is_verb_of q) (text_at (codes "verb") t) false

-- and one of its own, if it has a subsystem
abbrev pub has_good_verb : Members → Bool
has_good_verb t = option_map_or (has_verb_of t) (number_at (codes "subsystem") t) true

-- the table has a fault at this key: what stands there isn't allowed, or nothing does; or there is no such key
abbrev pub has_fault_at : List ℕ → Members → Bool
has_fault_at key t = if bytes_eq key (codes "name") then not (has_good_name t)
    else (if bytes_eq key (codes "subsystem") then not (has_good_subsystem t)
    else (if bytes_eq key (codes "verb") then not (has_good_verb t)
    else is_some (get_member key t)))

-- the table has this name
abbrev pub has_this_name : List ℕ → Members → Bool
has_this_name name t = option_map_or (bytes_eq name) (text_at (codes "name") t) false

-- a table has this name, or a fault at this key
abbrev pub is_meant : Bool → List ℕ → Members → Bool
is_meant true name t = has_this_name name t
is_meant false key t = has_fault_at key t

-- the number of the table that is meant and has k such tables in front of it; the first has the number n
abbrev pub table_from : Bool → List ℕ → ℕ → ℕ → Items → Option ℕ
table_from named word k n no_items = None
table_from named word k n (item d ds) =
    if option_map_or (is_meant named word) (as_table d) false then (if nat_eq k 0 then Some n else table_from named word (k - 1) (n + 1) ds)
    else table_from named word k (n + 1) ds

-- the tables of the operations of a document
abbrev pub tables_of : Members → Items
tables_of t = items_or_none (option_and_then as_array (get_member (codes "op") t))
  where
    items_or_none : Option Items → Items
    items_or_none None = no_items
    items_or_none (Some ds) = ds

-- a key of the document itself: one that documents have, or that stands in it
abbrev pub is_of_document : List ℕ → Members → Bool
is_of_document key t = bytes_eq key (codes "version") || bytes_eq key (codes "conflicts") || bytes_eq key (codes "processes")
    || bytes_eq key (codes "op") || is_some (get_member key t)
