-- Steps from word to word.
use Rattle.std.proofs.Common.{◌≡◌, List, ℕ, [], ◌∷◌, refl, subst, sym, ap, ◌∙◌}
use Rattle.process_text.specs.FirstFault.{Before, goes_on, told_from, told_behind, begun_in, with_process, with_name, at_process_name, at_step_name, at_operation, at_settings, in_block}
use Rattle.process_text.specs.Leading.{with_names, told_of_new}
use Rattle.process_tree.specs.declared.step.StepKind.{StepKind}
use Rattle.text_words.specs.Marks.{meaning}
use Rattle.text_words.specs.declared.marks.At.{At}
use Rattle.text_words.specs.declared.marks.At.TheVariants.{Begin, BehindStep}
use Rattle.text_words.specs.declared.marks.Next.{Next}

-- where no option may come, a step is over
pub no_settings_left : (b : Before) (ws : List (List ℕ)) → told_from b (at_settings []) ws ≡ told_from b (in_block BehindStep) ws
no_settings_left b [] = refl
no_settings_left b (w ∷ ws) = refl

-- the name of a process is new
pub at_new_process : (taken ws : List (List ℕ)) → told_from (with_names [] taken []) at_process_name ws
    ≡ told_of_new taken (λ w. goes_on (with_process (with_names [] taken []) w) (in_block Begin)) ws
at_new_process taken [] = refl
at_new_process taken (w ∷ ws) = refl

-- the name of a step is new
pub at_new_step : (taken earlier : List (List ℕ)) (choices : List ℕ) (k : StepKind) (ws : List (List ℕ))
    → told_from (with_names taken earlier choices) (at_step_name k) ws
    ≡ told_of_new taken (λ w. goes_on (with_name (with_names taken earlier choices) w) (at_operation k)) ws
at_new_step taken earlier choices k [] = refl
at_new_step taken earlier choices k (w ∷ ws) = refl

-- a word in a block leads to what is told behind its meaning
pub behind_meaning : (b : Before) (at : At) (begun : ℕ) (n : Next) (w : List ℕ) (ws before : List (List ℕ)) → before ≡ w ∷ ws → begun_in b.choices ≡ begun
    → meaning at begun w ≡ n → told_from b (in_block at) before ≡ told_behind b n ws
behind_meaning b at begun n w ws before e same is =
    subst (λ (all : List (List ℕ)). told_from b (in_block at) all ≡ told_behind b n ws) (sym e)
    (ap (λ m. told_behind b m ws) (ap (λ k. meaning at k w) same ∙ is))
