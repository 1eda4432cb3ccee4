-- Process after process.
use Rattle.std.proofs.Common.{◌≡◌, ◌∙◌, ℕ, ◌+◌, ◌-◌, ◌*◌, List, [], ◌∷◌, ◌++◌, zero, suc, ap, ap₂, refl, sym, append_assoc, append-nil, arith}
use Rattle.std.specs.Prelude.{flat_map}
use Rattle.std.specs.Fn.{iterate}
use Rattle.std.specs.List.{range_with_len}
use Rattle.std.proofs.lemmas.Grind.{flat_map-append}
use Rattle.scenario_gen.specs.declared.generator.Draws.{Draws}
use Rattle.scenario_gen.specs.Draws.{draws_behind, draws_of, first_number, next_number}
use Rattle.scenario_gen.specs.Generated.{process_text, processes_text}

-- steps and more steps
iterate_more : {A : Type 0} (h : A → A) (m n k : ℕ) (x : A) → m + n ≡ k → iterate h n (iterate h m x) ≡ iterate h k x
iterate_more h zero n k x is =
    let same : n ≡ k = omega arith in
    ap (λ j. iterate h j x) same
iterate_more h (suc m) n zero x is = absurd (omega arith)
iterate_more h (suc m) n (suc k) x is = iterate_more h m n k (h x) (omega arith)

-- one number more
range_more : (a n m k : ℕ) → n + 1 ≡ m → a + n ≡ k → range_with_len a m ≡ range_with_len a n ++ k ∷ []
range_more a n zero k more last = absurd (omega arith)
range_more a zero (suc zero) k more last =
    let same : a ≡ k = omega arith in
    ap (λ b. b ∷ []) same
range_more a zero (suc (suc m)) k more last = absurd (omega arith)
range_more a (suc n) (suc m) k more last = ap (λ bs. a ∷ bs) (range_more (a + 1) n m k (omega arith) (omega arith))

-- the number of the generator before process k + 1
abbrev pub HasDrawn : ℕ → ℕ → ℕ → Type 0
HasDrawn number k x = x ≡ iterate next_number (4 * k) (first_number number)

-- four more draws
pub drawn_on : (number k x y : ℕ) → HasDrawn number k x → y ≡ iterate next_number 4 x → HasDrawn number (k + 1) y
drawn_on number k x y now is =
    is ∙ (ap (iterate next_number 4) now ∙ iterate_more next_number (4 * k) 4 (4 * (k + 1)) (first_number number) (omega arith))

-- so they are those of the next process
next_draws : (number k x : ℕ) → HasDrawn number k x → draws_behind x ≡ draws_of number (k + 1)
next_draws number k x now =
    let same : k ≡ (k + 1) - 1 = omega arith in
    ap draws_behind (now ∙ ap (λ n. iterate next_number (4 * n) (first_number number)) same)

-- the processes with one more
one_more : (number k : ℕ) → processes_text number (k + 1) ≡ processes_text number k ++ process_text (k + 1) (draws_of number (k + 1))
one_more number k =
    let f : ℕ → List ℕ = λ i. process_text i (draws_of number i) in
    ap (flat_map f) (range_more 1 k (k + 1) (k + 1) refl (omega arith))
    ∙ (flat_map-append f (range_with_len 1 k) ((k + 1) ∷ []) ∙ ap (λ t. processes_text number k ++ t) (append-nil (f (k + 1))))

-- and with that process all so far are printed
pub printed_on : (number k x : ℕ) (d : Draws) (start before out : List ℕ) → HasDrawn number k x → d ≡ draws_behind x → before ≡ start ++ processes_text number k
    → out ≡ before ++ process_text (k + 1) d → out ≡ start ++ processes_text number (k + 1)
printed_on number k x d start before out now drawn printed is =
    is ∙ (ap₂ (λ t e. t ++ process_text (k + 1) e) printed (drawn ∙ next_draws number k x now)
    ∙ (append_assoc start (processes_text number k) (process_text (k + 1) (draws_of number (k + 1))) ∙ ap (λ t. start ++ t) (sym (one_more number k))))
