-- Why there is no scenario, no catalog or no plan.
use Rattle.std.specs.Prelude.{◌≡◌, ℕ, List, ◌++◌, Result, Ok, Err, codes, decimal}
use Rattle.commute_table.specs.declared.catalog.Catalog.{Catalog}
use Rattle.commute_table.specs.declared.errors.CatalogError.{CatalogError}
use Rattle.commute_table.specs.declared.errors.CatalogError.TheVariants as catalog
use Rattle.commute_table.specs.declared.errors.ScenarioError.{ScenarioError}
use Rattle.commute_table.specs.declared.errors.ScenarioError.TheVariants as scenario
use Rattle.commute_table.specs.declared.errors.BindError.{BindError}
use Rattle.commute_table.specs.declared.errors.BindError.TheVariants as bind
use Rattle.commute_table.specs.Bytes.{IsFirstBad}

-- what a refusal says of the bytes
abbrev pub TellsPlace : List ℕ → CatalogError → Type 0
TellsPlace bytes (catalog.BadCatalog n) = IsFirstBad bytes n
TellsPlace bytes catalog.NoMemory = Unit {0}

-- this catalog is answered, unless memory ran out
abbrev pub IsReadAs : Catalog → Result Catalog CatalogError → Type 0
IsReadAs c (Ok d) = d ≡ c
IsReadAs c (Err catalog.NoMemory) = Unit {0}
IsReadAs c (Err (catalog.BadCatalog n)) = ⊥

-- how an error reads
abbrev pub catalog_text : CatalogError → List ℕ
catalog_text (catalog.BadCatalog n) = codes "no catalog from byte " ++ decimal n ++ codes " on"
catalog_text catalog.NoMemory = codes "out of memory"

abbrev pub scenario_text : ScenarioError → List ℕ
scenario_text scenario.BadToml = codes "no TOML document"
scenario_text (scenario.BadKey key) = codes "a key is unknown, missing or out of range"
scenario_text (scenario.UnknownOp name) = codes "a conflict names an unknown operation"
scenario_text (scenario.SameOp name) = codes "two operations have one name"
scenario_text (scenario.Ops n) = codes "there are " ++ decimal n ++ codes " operations"
scenario_text scenario.NoMemory = codes "out of memory"

abbrev pub bind_text : BindError → List ℕ
bind_text (bind.UnknownOp name) = codes "a step has an unknown operation"
bind_text bind.NoMemory = codes "out of memory"
