-- The entry at a place, and the list without it.
use Rattle.std.proofs.Common.{◌≡◌, ℕ, zero, suc, ◌+◌, ◌-◌, ◌<◌, ◌≤◌, Bool, true, false, not, cond, ◌&&◌, ◌||◌, List, [], ◌∷◌, length, take, drop, get_or, Some, refl, ap, ◌∙◌, arith, length-append, length-take, length-drop}
use Rattle.std.specs.Prelude.{unwrap_or}
use Rattle.std.specs.List.{list_any}
use Rattle.std.specs.Option.{option_map}
use Rattle.process_tree.specs.declared.entry.Entry.{Entry}
use Rattle.schedule_model.specs.Histories.{takes_back}
use Rattle.schedule_model.specs.PrintedTrace.{first_place, place_taken_back, without}

-- the entry at a place, as a list
pub entry_at-there : (es : List Entry) (n : ℕ) (d : Entry) → n < length es → take 1 (drop n es) ≡ get_or es n d ∷ []
entry_at-there [] n d less = absurd (omega arith)
entry_at-there (e ∷ []) zero d less = refl
entry_at-there (e ∷ f ∷ es) zero d less = refl
entry_at-there (e ∷ es) (suc n) d less = entry_at-there es n d (omega arith)

-- two tests that answer alike find the same place
first_place-alike : (p q : Entry → Bool) (es : List Entry) → ((e : Entry) → p e ≡ q e) → first_place p es ≡ first_place q es
first_place-alike p q [] same = refl
first_place-alike p q (e ∷ es) same =
    ap (λ t. cond t (Some 1) (option_map (λ n. n + 1) (first_place p es))) (same e)
    ∙ ap (λ o. cond (q e) (Some 1) (option_map (λ n. n + 1) o)) (first_place-alike p q es same)

or_none : (b : Bool) → (b || false) ≡ b
or_none true = refl
or_none false = refl

-- what the entry at a place takes back
pub taken_back-by : (es : List Entry) (at : ℕ) (d : Entry) → 0 < at → at ≤ length es
    → place_taken_back at es ≡ unwrap_or (first_place (λ e. not e.undo && takes_back (get_or es (at - 1) d) e) es) 0
taken_back-by es at d some within =
    let x = get_or es (at - 1) d in
    ap (λ us. unwrap_or (first_place (λ e. not e.undo && list_any (λ f. takes_back f e) us) es) 0) (entry_at-there es (at - 1) d (omega (arith, some, within)))
    ∙ ap (λ o. unwrap_or o 0)
    (first_place-alike (λ e. not e.undo && (takes_back x e || false)) (λ e. not e.undo && takes_back x e) es
    (λ e. ap (λ t. not e.undo && t) (or_none (takes_back x e))))

-- the list without an entry has one less
pub length-without : (es : List Entry) (at : ℕ) → 0 < at → at ≤ length es → suc (length (without at es)) ≡ length es
length-without es at some within =
    let all = length-append (take (at - 1) es) (drop at es) in
    let front = length-take (at - 1) es in
    let behind = length-drop at es in
    omega (arith, all, front, behind, some, within)

-- and never more
pub length-without_most : (es : List Entry) (at : ℕ) → length (without at es) ≤ length es
length-without_most es at =
    let all = length-append (take (at - 1) es) (drop at es) in
    let front = length-take (at - 1) es in
    let behind = length-drop at es in
    omega (arith, all, front, behind)
