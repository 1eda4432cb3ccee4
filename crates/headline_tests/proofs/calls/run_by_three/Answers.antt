use Rattle.std.proofs.Common.{◌∙◌, [], ◌∷◌, ◌++◌, List, ℕ, ap}
use Rattle.std.specs.Prelude.{codes}
use Rattle.headline_tests.proofs.OneWord.{same_words}
use Rattle.headline_tests.proofs.calls.run_by_three.Goals as goal

pub returns : goal.returns
returns g c =
    same_words _ _ _ _ _ _ _ _ _
    (c.in_ok-words.ensures ∙ ap (λ (ws : List (List ℕ)). ws ++ codes "3" ∷ [])
    (c.in_ok-option.ensures ∙ ap (λ (ws : List (List ℕ)). ws ++ codes "--workers" ∷ []) c.in_ok-run.ensures))
    c.answered_on.ensures
