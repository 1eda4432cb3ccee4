use Rattle.std.proofs.Common.{rules, tests, ◌≡◌, ◌&&◌, List, [], ◌∷◌, is_some, refl, ap, ◌∙◌}
use Rattle.std.proofs.lemmas.Iterator.{YieldsList-from_slice}
use Rattle.std.proofs.lemmas.Iterator.Search.{all_from_yields_List}
use Rattle.std.specs.List.{list_all}
use Rattle.toml.specs.Data.{as_table}
use Rattle.toml.specs.View.{view, items_view}
use Rattle.toml.specs.declared.value.Value.{Value}
use Rattle.commute_table.specs.Document.{are_tables}
use Rattle.commute_table.proofs.scenario.are_tables.Goals as goal

viewed : (items : List Value) → list_all (λ v. is_some (as_table (view v))) items ≡ are_tables (items_view items)
viewed [] = refl
viewed (v ∷ items) = ap (λ b. is_some (as_table (view v)) && b) (viewed items)

pub returns : goal.returns
returns c =
    all_from_yields_List (λ v. is_some (as_table (view v))) _ _ c.all.result c.all.ensures.ran (YieldsList-from_slice _ c.iter.ensures.rest) (λ x b q k. search (rules, tests)) ∙ viewed c.args.items.now
