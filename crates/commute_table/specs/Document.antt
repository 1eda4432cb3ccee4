-- What a scenario's document says, and what is refused of it first.
use Rattle.std.specs.Prelude.{◌≡◌, ℕ, ◌+◌, ◌<◌, ℤ, pos, negsuc, Bool, true, false, not, ◌&&◌, ◌||◌, List, [], ◌∷◌, ◌++◌, length}
use Rattle.std.specs.Prelude.{Option, Some, None, option_and_then, is_some, Result, Ok, Err, nat_eq, nat_lt, ◌==◌, codes, IsUtf8}
use Rattle.std.specs.Prelude.{if◌then◌else◌}
use Rattle.std.specs.List.{list_any}
use Rattle.std.specs.Ordering.{nat_cmp, is_lt}
use Rattle.std.specs.Cmp.Lexicographic.{slice_cmp}
use Rattle.toml.specs.Data.{Data, Items, no_items, item, Members, no_members, member, get_member, as_str, as_integer, as_array}
use Rattle.toml.specs.Data.{as_table}
use Rattle.toml.specs.Parse.{parse_document}
use Rattle.process_tree.specs.Name.{is_name}
use Rattle.process_tree.specs.Making.{same_text}
use Rattle.process_tree.specs.Conflicts.{Table, no_conflicts, with_mode, is_same_pair}
use Rattle.process_tree.specs.declared.conflicts.Mode.{Mode}
use Rattle.process_tree.specs.declared.conflicts.Mode.TheVariants.{Key, Always}
use Rattle.commute_table.specs.declared.op.Verb.{Verb}
use Rattle.commute_table.specs.declared.op.Verb.TheVariants.{Add, Take, Look, Put, Hold, Free}
use Rattle.commute_table.specs.declared.op.Op.{Op}
use Rattle.commute_table.specs.declared.document.Keys.{Keys}
use Rattle.commute_table.specs.declared.document.Keys.TheVariants.{OfDocument, OfOperation}
use Rattle.commute_table.specs.declared.catalog.Catalog.{Catalog}
use Rattle.commute_table.specs.declared.pairs.Pair.{Pair}
use Rattle.commute_table.specs.declared.scenario.Scenario.{Scenario}
use Rattle.commute_table.specs.declared.errors.ScenarioError.{ScenarioError}
use Rattle.commute_table.specs.declared.errors.ScenarioError.TheVariants.{BadToml, BadKey, UnknownOp, SameOp, Ops, NoMemory}
use Rattle.commute_table.specs.Operations.{is_version, takes, verb_word, has_name}
use Rattle.commute_table.specs.Bytes.{cell_byte}

-- what is said, or why it is refused
abbrev pub Said : Type 0 → Type 0
Said A = Result A ScenarioError

infixl 10 ◌>>=◌
abbrev pub ◌>>=◌ : {A B : Type 0} → Said A → (A → Said B) → Said B
(Ok x) >>= f = f x
(Err e) >>= f = Err e

-- ---- keys

-- the keys that a document and an operation have
abbrev pub is_known : Keys → List ℕ → Bool
is_known OfDocument k =
    same_text k (codes "version") || same_text k (codes "conflicts") || same_text k (codes "processes") || same_text k (codes "op")
is_known OfOperation k = same_text k (codes "name") || same_text k (codes "subsystem") || same_text k (codes "verb")

-- the lesser in byte order
abbrev pub lesser : List ℕ → Option (List ℕ) → Option (List ℕ)
lesser k None = Some k
lesser k (Some l) = Some (if is_lt (slice_cmp nat_cmp k l) then k else l)

-- the least unknown key in byte order
abbrev pub least_unknown : Keys → Members → Option (List ℕ)
least_unknown keys no_members = None
least_unknown keys (member k d ms) = if is_known keys k then least_unknown keys ms else lesser k (least_unknown keys ms)

-- nothing, or the refusal of this key
abbrev pub unless_unknown : Option (List ℕ) → Said (Unit {0})
unless_unknown None = Ok tt
unless_unknown (Some k) = Err (BadKey k)

-- a key that is unknown is refused
abbrev pub known_keys : Keys → Members → Said (Unit {0})
known_keys keys ms = unless_unknown (least_unknown keys ms)

-- the string at a key
abbrev pub text_at : List ℕ → Members → Option (List ℕ)
text_at k ms = option_and_then as_str (get_member k ms)

-- a number that isn't negative
abbrev pub natural : ℤ → Option ℕ
natural (pos n) = Some n
natural (negsuc n) = None

-- the number at a key
abbrev pub number_at : List ℕ → Members → Option ℕ
number_at k ms = option_and_then natural (option_and_then as_integer (get_member k ms))

-- ---- the version

-- the number if it is a version
abbrev pub version_or_bad : Option ℕ → Said ℕ
version_or_bad None = Err (BadKey (codes "version"))
version_or_bad (Some n) = if is_version n then Ok n else Err (BadKey (codes "version"))

-- the version is the whole number 1 or 2
abbrev pub version_said : Members → Said ℕ
version_said ms = version_or_bad (number_at (codes "version") ms)

-- ---- operations

-- the string if it is a name
abbrev pub name_or_bad : Option (List ℕ) → Said (List ℕ)
name_or_bad None = Err (BadKey (codes "name"))
name_or_bad (Some s) = if is_name s then Ok s else Err (BadKey (codes "name"))

-- a name
abbrev pub name_said : Members → Said (List ℕ)
name_said ms = name_or_bad (text_at (codes "name") ms)

-- the number if it is below 8
abbrev pub subsystem_or_bad : Option ℕ → Said ℕ
subsystem_or_bad None = Err (BadKey (codes "subsystem"))
subsystem_or_bad (Some n) = if nat_lt n 8 then Ok n else Err (BadKey (codes "subsystem"))

-- a whole number 0 to 7
abbrev pub subsystem_said : Members → Said ℕ
subsystem_said ms = subsystem_or_bad (number_at (codes "subsystem") ms)

-- the verb of a word
abbrev pub verb_named : List ℕ → Option Verb
verb_named s =
    if same_text s (verb_word Add) then Some Add
    else (if same_text s (verb_word Take) then Some Take
    else (if same_text s (verb_word Look) then Some Look
    else (if same_text s (verb_word Put) then Some Put
    else (if same_text s (verb_word Hold) then Some Hold
    else (if same_text s (verb_word Free) then Some Free else None)))))

-- the verb if the subsystem takes it
abbrev pub verb_or_bad : ℕ → Option Verb → Said Verb
verb_or_bad q None = Err (BadKey (codes "verb"))
verb_or_bad q (Some v) = if takes q v then Ok v else Err (BadKey (codes "verb"))

-- a verb that the subsystem takes
abbrev pub verb_said : ℕ → Members → Said Verb
verb_said q ms = verb_or_bad q (option_and_then verb_named (text_at (codes "verb") ms))

-- an operation behind these
unfoldable pub op_said : List Op → Members → Said Op
op_said earlier ms = do
  known ← known_keys OfOperation ms
  name ← name_said ms
  q ← subsystem_said ms
  v ← verb_said q ms
  if has_name name earlier then Err (SameOp name) else Ok (record { name = name; subsystem = q; verb = v })

-- whether all are tables
abbrev pub are_tables : Items → Bool
are_tables no_items = true
are_tables (item d ds) = is_some (as_table d) && are_tables ds

abbrev pub items_length : Items → ℕ
items_length no_items = 0
items_length (item d ds) = items_length ds + 1

-- the operation of an item, behind these; what is no table is refused as the key `op`
abbrev pub table_said : List Op → Option Members → Said Op
table_said earlier None = Err (BadKey (codes "op"))
table_said earlier (Some t) = op_said earlier t

-- an operation of each of these items, behind these
unfoldable pub ops_said : List Op → Items → Said (List Op)
ops_said earlier no_items = Ok earlier
ops_said earlier (item d ds) = do
  op ← table_said earlier (as_table d)
  ops_said (earlier ++ op ∷ []) ds

-- at most 256 of them, and else their number
unfoldable pub few_said : Items → Said (List Op)
few_said ds = if nat_lt 256 (items_length ds) then Err (Ops (items_length ds)) else ops_said [] ds

-- the operations of these tables
abbrev pub tables_or_bad : Option Items → Said (List Op)
tables_or_bad None = Err (BadKey (codes "op"))
tables_or_bad (Some ds) = if are_tables ds then few_said ds else Err (BadKey (codes "op"))

-- no operations where the key is absent
abbrev pub operations_by_key : Option Data → Said (List Op)
operations_by_key None = Ok []
operations_by_key (Some d) = tables_or_bad (as_array d)

-- the operations: none where the key is absent, and else an array of tables
unfoldable pub operations_said : Members → Said (List Op)
operations_said ms = operations_by_key (get_member (codes "op") ms)

-- ---- conflicts

-- a pair of a document: two names and a mode
abbrev pub NamedPair : Type 0
NamedPair = List ℕ × List ℕ × Mode

-- these three, if they are there
abbrev pub named_pair : Option (List ℕ) → Option (List ℕ) → Option Mode → Option NamedPair
named_pair None b mode = None
named_pair (Some a) None mode = None
named_pair (Some a) (Some b) None = None
named_pair (Some a) (Some b) (Some mode) = Some (a, b, mode)

-- the mode of a word
abbrev pub mode_named : List ℕ → Option Mode
mode_named s = if same_text s (codes "always") then Some Always else (if same_text s (codes "key") then Some Key else None)

-- the mode behind two names: in version 1 always, and no item says so; in version 2 one word says it
abbrev pub mode_behind : ℕ → Items → Option Mode
mode_behind version no_items = if version == 1 then Some Always else None
mode_behind version (item d no_items) = if version == 2 then option_and_then mode_named (as_str d) else None
mode_behind version (item d (item e ds)) = None

-- two strings, and a mode as the version has it
abbrev pub pair_of : ℕ → Items → Option NamedPair
pair_of version no_items = None
pair_of version (item d no_items) = None
pair_of version (item d (item e ds)) = named_pair (as_str d) (as_str e) (mode_behind version ds)

abbrev pub pair_in : ℕ → Data → Option NamedPair
pair_in version d = option_and_then (pair_of version) (as_array d)

-- whether all are pairs as the version has them
abbrev pub are_pairs : ℕ → Items → Bool
are_pairs version no_items = true
are_pairs version (item d ds) = is_some (pair_in version d) && are_pairs version ds

-- the number of the first operation with this name, where the first of these has the number n
abbrev pub number_from : ℕ → List Op → List ℕ → Option ℕ
number_from n [] name = None
number_from n (o ∷ ops) name = if same_text o.name name then Some n else number_from (n + 1) ops name

abbrev pub number_of : List Op → List ℕ → Option ℕ
number_of ops name = number_from 0 ops name

-- the number, or the refusal of this name
abbrev pub number_or_unknown : List ℕ → Option ℕ → Said ℕ
number_or_unknown name None = Err (UnknownOp name)
number_or_unknown name (Some n) = Ok n

abbrev pub number_said : List Op → List ℕ → Said ℕ
number_said ops name = number_or_unknown name (number_of ops name)

-- a pair with the numbers of its operations
abbrev pub pair_said : List Op → Option NamedPair → Said Pair
pair_said ops None = Err (BadKey (codes "conflicts"))
pair_said ops (Some p) = do
  a ← number_said ops p.0
  b ← number_said ops p.1
  Ok (record { first = a; second = b; mode = p.2 })

-- the pairs of these items, behind those
unfoldable pub pairs_said : ℕ → List Op → List Pair → Items → Said (List Pair)
pairs_said version ops done no_items = Ok done
pairs_said version ops done (item d ds) = do
  pair ← pair_said ops (pair_in version d)
  pairs_said version ops (done ++ pair ∷ []) ds

-- its operations are among so many
abbrev pub IsPairOf : ℕ → Pair → Type 0
IsPairOf count p = (p.first < count) × (p.second < count)

-- whether two modes are one
abbrev pub same_mode : Mode → Mode → Bool
same_mode a b = nat_eq (cell_byte a) (cell_byte b)

-- whether they are one pair of operations with two modes
abbrev pub disagree : Pair → Pair → Bool
disagree p q = is_same_pair p.first p.second q.first q.second && not (same_mode p.mode q.mode)

-- whether some pair of operations stands with two modes
abbrev pub some_disagree : List Pair → Bool
some_disagree [] = false
some_disagree (p ∷ ps) = list_any (disagree p) ps || some_disagree ps

-- the table with these pairs more
abbrev pub with_pairs : Table → List Pair → Table
with_pairs t [] = t
with_pairs t (p ∷ ps) = with_pairs (with_mode t p.first p.second p.mode) ps

-- the table of these pairs, if no two disagree
abbrev pub table_or_bad : List Op → List Pair → Said Table
table_or_bad ops ps = if some_disagree ps then Err (BadKey (codes "conflicts")) else Ok (with_pairs (no_conflicts (length ops)) ps)

-- the table of these items
unfoldable pub table_of_items : ℕ → List Op → Items → Said Table
table_of_items version ops ds = do
  pairs ← pairs_said version ops [] ds
  table_or_bad ops pairs

-- the items have the form of pairs before any name is looked up
abbrev pub pairs_or_bad : ℕ → List Op → Option Items → Said Table
pairs_or_bad version ops None = Err (BadKey (codes "conflicts"))
pairs_or_bad version ops (Some ds) =
    if are_pairs version ds then table_of_items version ops ds else Err (BadKey (codes "conflicts"))

-- no conflicts where the key is absent
abbrev pub conflicts_by_key : ℕ → List Op → Option Data → Said Table
conflicts_by_key version ops None = Ok (no_conflicts (length ops))
conflicts_by_key version ops (Some d) = pairs_or_bad version ops (as_array d)

-- the table of conflicts: none where the key is absent, and else an array of pairs as the version has them
unfoldable pub conflicts_said : ℕ → List Op → Members → Said Table
conflicts_said version ops ms = conflicts_by_key version ops (get_member (codes "conflicts") ms)

-- ---- processes

-- the string
abbrev pub text_or_bad : Option (List ℕ) → Said (List ℕ)
text_or_bad None = Err (BadKey (codes "processes"))
text_or_bad (Some s) = Ok s

-- no text where the key is absent
abbrev pub processes_by_key : Option Data → Said (List ℕ)
processes_by_key None = Ok []
processes_by_key (Some d) = text_or_bad (as_str d)

-- the text of processes: nothing where the key is absent, and else a string
unfoldable pub processes_said : Members → Said (List ℕ)
processes_said ms = processes_by_key (get_member (codes "processes") ms)

-- ---- the document

-- the catalog that a table says
unfoldable pub catalog_said : Members → Said Catalog
catalog_said ms = do
  known ← known_keys OfDocument ms
  version ← version_said ms
  ops ← operations_said ms
  conflicts ← conflicts_said version ops ms
  Ok (record { version = version; ops = ops; conflicts = conflicts })

-- the scenario that a table says; what is refused is the first thing in this order
unfoldable pub scenario_said : Members → Said Scenario
scenario_said ms = do
  catalog ← catalog_said ms
  text ← processes_said ms
  Ok (record { catalog = catalog; processes = text })

-- what a function returned is what the document says, unless memory ran out
abbrev pub Fails : {A : Type 0} → ScenarioError → Said A → Type 0
Fails NoMemory said = Unit {0}
Fails BadToml said = said ≡ Err BadToml
Fails (BadKey k) said = said ≡ Err (BadKey k)
Fails (UnknownOp name) said = said ≡ Err (UnknownOp name)
Fails (SameOp name) said = said ≡ Err (SameOp name)
Fails (Ops n) said = said ≡ Err (Ops n)

abbrev pub Gives : {A : Type 0} → Result A ScenarioError → Said A → Type 0
Gives (Ok x) said = said ≡ Ok x
Gives (Err e) said = Fails e said

-- the bytes are a TOML document, and its table says so
abbrev pub Says : List ℕ → Said Scenario → Type 0
Says bytes said = (t : Members) × IsUtf8 bytes × (parse_document bytes ≡ Some t) × (scenario_said t ≡ said)

-- what is answered on these bytes: that they are no TOML document exactly where they aren't, and else what its table says;
-- want of memory is free
abbrev pub IsAnswer : List ℕ → Result Scenario ScenarioError → Type 0
IsAnswer bytes (Ok s) = Says bytes (Ok s)
IsAnswer bytes (Err BadToml) = IsUtf8 bytes → parse_document bytes ≡ None
IsAnswer bytes (Err (BadKey k)) = Says bytes (Err (BadKey k))
IsAnswer bytes (Err (UnknownOp name)) = Says bytes (Err (UnknownOp name))
IsAnswer bytes (Err (SameOp name)) = Says bytes (Err (SameOp name))
IsAnswer bytes (Err (Ops n)) = Says bytes (Err (Ops n))
IsAnswer bytes (Err NoMemory) = Unit {0}
