use Rattle.std.proofs.Common.{rules, tests, ◌≡◌, ◌&&◌, ℕ, List, [], ◌∷◌, is_some, refl, ap, ◌∙◌}
use Rattle.std.proofs.lemmas.Iterator.{YieldsList-from_slice}
use Rattle.std.proofs.lemmas.Iterator.Search.{all_from_yields_List}
use Rattle.std.specs.List.{list_all}
use Rattle.toml.specs.View.{view, items_view}
use Rattle.toml.specs.declared.value.Value.{Value}
use Rattle.commute_table.specs.Document.{pair_in, are_pairs}
use Rattle.commute_table.proofs.pairs.are_pairs.Goals as goal

viewed : (version : ℕ) (items : List Value) → list_all (λ v. is_some (pair_in version (view v))) items ≡ are_pairs version (items_view items)
viewed version [] = refl
viewed version (v ∷ items) = ap (λ b. is_some (pair_in version (view v)) && b) (viewed version items)

pub returns : goal.returns
returns c =
    all_from_yields_List (λ v. is_some (pair_in c.args.version (view v))) _ _ c.all.result c.all.ensures.ran (YieldsList-from_slice _ c.iter.ensures.rest) (λ x b q k. search (rules, tests)) ∙ viewed c.args.version c.args.items.now
