-- That steps within their limits lead to what is told behind them.
use Rattle.std.proofs.Common.{◌≡◌, ◌≤◌, ◌<◌, ◌+◌, ℕ, List, [], ◌∷◌, ◌++◌, length, true, false, not, refl, ap, arith, ◌∙◌, append_assoc, append-nil, length-append, inl, inr}
use Rattle.std.specs.List.{list_any}
use Rattle.std.proofs.lemmas.Bool.{and_parts, lt-ltb, not-true}
use Rattle.process_tree.specs.Making.{same_text, is_amount, has_good_options}
use Rattle.process_tree.specs.declared.step.Step.{Step}
use Rattle.text_words.specs.declared.marks.Setting.{Setting}
use Rattle.text_words.specs.declared.marks.At.{At}
use Rattle.text_words.specs.declared.marks.At.TheVariants.{BehindStep}
use Rattle.text_words.specs.Words.{begins}
use Rattle.text_words.specs.Marks.{settings, setting_word, number_of, takes}
use Rattle.process_text.specs.Grammar.{IsSetting, AreSettings, IsStep, Writes, step_pieces, step_names, are_new}
use Rattle.process_text.specs.FirstFault.{Before, told_from, in_block, at_settings, begun_in}
use Rattle.process_text.specs.Leading.{with_names}
use Rattle.text_words.proofs.NumberWords.{are_same-refl, key_passes, amount_passes}
use Rattle.text_words.proofs.Settings.{number_of_setting_passes, AllTake, all_take}
use Rattle.text_words.proofs.WordsMean.{may_go_on, meaning_of_kind}
use Rattle.process_text.proofs.Turns.{no_settings_left}

-- an option that is left out is passed over
left_out : (b : Before) (x : Setting) (xs : List Setting) (ws : List (List ℕ)) → begins (λ v. same_text v (setting_word x)) ws ≡ false
    → told_from b (at_settings (x ∷ xs)) ws ≡ told_from b (at_settings xs) ws
left_out b x xs [] no_word = refl
left_out b x xs (w ∷ ws) no_word = rw no_word refl

-- one option
setting_leads : (b : Before) (x : Setting) (xs : List Setting) (n : ℕ) (before after : List (List ℕ)) → IsSetting x n before after → takes x n ≡ true
    → told_from b (at_settings (x ∷ xs)) before ≡ told_from b (at_settings xs) after
setting_leads b x xs n before after (inl is) e = rw (is, are_same-refl (setting_word x), number_of_setting_passes x n e) refl
setting_leads b x xs n before after (inr is) e = left_out b x xs before is.2 ∙ ap (told_from b (at_settings xs)) is.0

-- options
pub settings_lead : (b : Before) (xs : List Setting) (s : Step) (before after : List (List ℕ)) → AreSettings xs s before after → AllTake xs s
    → told_from b (at_settings xs) before ≡ told_from b (at_settings []) after
settings_lead b [] s before after is e = ap (told_from b (at_settings [])) is
settings_lead b (x ∷ xs) s before after is e =
    setting_leads b x xs (number_of x s) before is.0 is.1 e.0 ∙ settings_lead b xs s is.0 after is.2 e.1

-- a step
pub step_leads : (names earlier : List (List ℕ)) (choices : List ℕ) (at : At) (s : Step) (before after : List (List ℕ)) → IsStep s before after → may_go_on at ≡ true
    → length names < 256 → list_any (same_text s.name) names ≡ false
    → told_from (with_names names earlier choices) (in_block at) before ≡ told_from (with_names (names ++ s.name ∷ []) earlier choices) (in_block BehindStep) after
step_leads names earlier choices at s before after is e room new =
    let good = and_parts (is_amount s.amount) (has_good_options s.kind s) is.good in
    let b = with_names (names ++ s.name ∷ []) earlier choices in
    let front : told_from (with_names names earlier choices) (in_block at) before ≡ told_from b (at_settings (settings s.kind)) is.behind =
    rw (is.words_are, meaning_of_kind at (begun_in choices) s.kind e, lt-ltb (length names) 256 room, is.name_is, new, is.op_is, key_passes s.key is.key_is, amount_passes s.amount good.0) refl in
    front ∙ settings_lead b (settings s.kind) s is.behind after is.settings_are (all_take s.kind s good.1) ∙ no_settings_left b after

-- the place behind steps
abbrev pub place_behind : At → List Step → At
place_behind at [] = at
place_behind at (s ∷ ss) = BehindStep

-- behind a step it is always the same
behind_again : (ss : List Step) → place_behind BehindStep ss ≡ BehindStep
behind_again [] = refl
behind_again (s ∷ ss) = refl

-- steps
pub steps_lead : (names earlier : List (List ℕ)) (choices : List ℕ) (at : At) (ss : List Step) (before after : List (List ℕ)) → Writes (step_pieces ss) before after → may_go_on at ≡ true
    → length names + length ss ≤ 256 → are_new names (step_names ss) ≡ true
    → told_from (with_names names earlier choices) (in_block at) before ≡ told_from (with_names (names ++ step_names ss) earlier choices) (in_block (place_behind at ss)) after
steps_lead names earlier choices at [] before after is e room new = rw (append-nil names) (ap (told_from (with_names names earlier choices) (in_block at)) is)
steps_lead names earlier choices at (s ∷ ss) before after is e room new =
    let parts = and_parts (not (list_any (same_text s.name) names)) (are_new (names ++ s.name ∷ []) (step_names ss)) new in
    step_leads names earlier choices at s before is.0 is.1 e (omega arith) (not-true (list_any (same_text s.name) names) parts.0)
    ∙ steps_lead (names ++ s.name ∷ []) earlier choices BehindStep ss is.0 after is.2 refl (omega (arith, length-append names (s.name ∷ []))) parts.1
    ∙ ap (λ (at : At). told_from (with_names ((names ++ s.name ∷ []) ++ step_names ss) earlier choices) (in_block at) after) (behind_again ss)
    ∙ ap (λ (all : List (List ℕ)). told_from (with_names all earlier choices) (in_block BehindStep) after) (append_assoc names (s.name ∷ []) (step_names ss))
