use Rattle.std.proofs.Common.{rules, tests, ◌≡◌, Bool, ◌||◌, List, [], ◌∷◌, ℕ, map, Bor, refl, ap, ◌∙◌}
use Rattle.std.proofs.lemmas.Iterator.{YieldsList-from_slice}
use Rattle.std.proofs.lemmas.Iterator.Search.{any_from_yields_List}
use Rattle.std.specs.List.{list_any}
use Rattle.process_tree.specs.Making.{same_text}
use Rattle.text_words.proofs.names.is_among.Goals as goal

-- whether one of the names passes, behind references
any_behind : (test : List ℕ → Bool) (names : List (Bor (List ℕ))) → list_any (λ n. test n.now) names ≡ list_any test (map (λ n. n.now) names)
any_behind test [] = refl
any_behind test (n ∷ names) = ap (λ b. test n.now || b) (any_behind test names)

pub returns : goal.returns
returns c =
    any_from_yields_List (λ n. same_text c.args.name.now n.now) _ _ c.any.result c.any.ensures.ran (YieldsList-from_slice _ c.iter.ensures.rest) (λ x b q k. search (rules, tests)) ∙ any_behind (same_text c.args.name.now) c.args.names.now
