-- Names where they stand alone.
use Rattle.std.specs.Prelude.{ℕ, ◌+◌, ◌-◌, List, Bool, false, not, ◌&&◌, length, drop, nat_eq, nat_lt}
use Rattle.std.specs.List.{slice_get, starts_with}
use Rattle.std.specs.Option.{option_map_or}
use Rattle.process_tree.specs.Name.{is_name_byte}

-- there is a byte at this place, and names have it
abbrev pub is_name_byte_at : List ℕ → ℕ → Bool
is_name_byte_at text n = option_map_or is_name_byte (slice_get text n) false

-- the name stands at this place, and neither in front of it nor behind it is a byte of a longer one
abbrev pub stands_alone : List ℕ → List ℕ → ℕ → Bool
stands_alone text name n =
    starts_with nat_eq (drop n text) name && not (nat_lt 0 n && is_name_byte_at text (n - 1)) && not (is_name_byte_at text (n + length name))
