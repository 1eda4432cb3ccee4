-- Which operations there are, and which catalogs are valid.
use Rattle.std.specs.Prelude.{◌≡◌, ℕ, ◌≤◌, Bool, true, not, ◌&&◌, ◌||◌, ◌==◌, List, [], ◌∷◌, ◌++◌, length, nat_lt, nat_le, codes}
use Rattle.std.specs.List.{list_any, list_all}
use Rattle.process_tree.specs.Name.{is_name}
use Rattle.process_tree.specs.Making.{same_text}
use Rattle.process_tree.specs.Conflicts.{Table, is_table, operations_in}
use Rattle.process_tree.specs.declared.conflicts.Mode.{Mode}
use Rattle.process_tree.specs.declared.conflicts.Mode.TheVariants.{Never, Key, Always}
use Rattle.commute_table.specs.declared.op.Verb.{Verb}
use Rattle.commute_table.specs.declared.op.Verb.TheVariants.{Add, Take, Look, Put, Hold, Free}
use Rattle.commute_table.specs.declared.op.Op.{Op}
use Rattle.commute_table.specs.declared.catalog.Catalog.{Catalog}

-- whether q is a subsystem that takes the verb: 0 to 3 are counters, 4 and 5 cells, 6 and 7 seats
abbrev pub takes : ℕ → Verb → Bool
takes q Add = nat_lt q 4
takes q Take = nat_lt q 4
takes q Put = nat_le 4 q && nat_lt q 6
takes q Hold = nat_le 6 q && nat_lt q 8
takes q Free = nat_le 6 q && nat_lt q 8
takes q Look = nat_lt q 8

-- how a verb is written in a scenario
abbrev pub verb_word : Verb → List ℕ
verb_word Add = codes "add"
verb_word Take = codes "take"
verb_word Look = codes "look"
verb_word Put = codes "put"
verb_word Hold = codes "hold"
verb_word Free = codes "free"

-- its name is a name, and its subsystem takes its verb
abbrev pub is_good_op : Op → Bool
is_good_op o = is_name o.name && takes o.subsystem o.verb

-- whether one of these operations has the name
abbrev pub has_name : List ℕ → List Op → Bool
has_name name ops = list_any (λ o. same_text o.name name) ops

-- whether each of ops has a name that neither one before it has, nor one of earlier
abbrev pub differ_from : List Op → List Op → Bool
differ_from earlier [] = true
differ_from earlier (o ∷ ops) = not (has_name o.name earlier) && differ_from (earlier ++ o ∷ []) ops

-- the versions that there are
abbrev pub is_version : ℕ → Bool
is_version n = n == 1 || n == 2

-- whether a version has the mode: version 1 has no conflict by key
abbrev pub has_mode : ℕ → Mode → Bool
has_mode version Never = true
has_mode version Key = version == 2
has_mode version Always = true

-- whether it has each mode of the table
abbrev pub has_modes : ℕ → Table → Bool
has_modes version table = list_all (list_all (has_mode version)) table

-- which catalogs are valid
pub record IsCatalog (c : Catalog) : Type 0 where
  pub version : is_version c.version ≡ true
  -- there are at most 256 operations
  pub few : length c.ops ≤ 256
  pub good : list_all is_good_op c.ops ≡ true
  -- their names differ
  pub own_names : differ_from [] c.ops ≡ true
  -- the conflicts are a table of just so many operations
  pub table : is_table c.conflicts ≡ true
  pub of_all : operations_in c.conflicts ≡ length c.ops
  -- version 1 has the modes never and always alone
  pub modes : has_modes c.version c.conflicts ≡ true
