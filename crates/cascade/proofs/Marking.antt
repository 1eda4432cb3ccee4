-- Lists at a place, and marks that are brought in by several in turn.
use Rattle.std.proofs.Common.{◌≡◌, ℕ, zero, suc, ◌+◌, ◌-◌, ◌<◌, ◌≤◌, Bool, true, false, ◌||◌, List, [], ◌∷◌, ◌++◌, length, drop, take, sym, refl, ap, ◌∙◌, arith}
use Rattle.std.specs.Prelude.{slice_index_or}
use Rattle.std.proofs.Math.Seq.{drop-cons, take-suc}
use Rattle.process_tree.specs.Order.{Each}

-- what is true of each is true of one at a place
pub each_at : {A : Type 0} (P : A → Type 0) (xs : List A) (place : ℕ) (d : A) → place < length xs → Each P xs → P (slice_index_or xs place d)
each_at P [] place d less each = absurd (omega arith)
each_at P (x ∷ xs) zero d less each = each.0
each_at P (x ∷ xs) (suc place) d less each = each_at P xs place d (omega arith) each.1

-- what stands from a place on begins with what stands there
pub rest_at : {A : Type 0} (xs : List A) (place : ℕ) (x : A) → place < length xs → ((d : A) → x ≡ slice_index_or xs place d) → drop place xs ≡ x ∷ drop (place + 1) xs
rest_at xs place x less is = let one : suc place ≡ place + 1 = omega arith in drop-cons xs place x less ∙ ap (λ y. y ∷ drop (suc place) xs) (sym (is x)) ∙ ap (λ n. x ∷ drop n xs) one

-- the same, one place back
pub rest_back : {A : Type 0} (xs : List A) (at : ℕ) (x : A) → 0 < at → at ≤ length xs → ((d : A) → x ≡ slice_index_or xs (at - 1) d) → drop (at - 1) xs ≡ x ∷ drop at xs
rest_back xs at x some most is = let back : at - 1 + 1 ≡ at = omega (arith, some) in rest_at xs (at - 1) x (omega (arith, some, most)) is ∙ ap (λ n. x ∷ drop n xs) back

pub rest_none : {A : Type 0} (xs : List A) (place : ℕ) → length xs ≤ place → drop place xs ≡ []
rest_none [] zero past = refl
rest_none [] (suc place) past = refl
rest_none (x ∷ xs) zero past = absurd (omega (arith, past))
rest_none (x ∷ xs) (suc place) past = rest_none xs place (omega (arith, past))

pub nothing_added : (a : Bool) → a ≡ (a || false)
nothing_added true = refl
nothing_added false = refl

-- first one that hits and then others
pub two_hits : (a h : Bool) (b r m : Bool) → b ≡ (a || (h || false)) → m ≡ (b || r) → m ≡ (a || (h || r))
two_hits true h b r m first all = all ∙ ap (λ t. t || r) first
two_hits false true b r m first all = all ∙ ap (λ t. t || r) first
two_hits false false b r m first all = all ∙ ap (λ t. t || r) first

-- one more that hits, before those that did
pub hit_before : (a h : Bool) (b r m : Bool) → b ≡ (a || r) → m ≡ (b || (h || false)) → m ≡ (a || (h || r))
hit_before true h b r m all last = last ∙ ap (λ t. t || (h || false)) all
hit_before false true b true m all last = last ∙ ap (λ t. t || (true || false)) all
hit_before false true b false m all last = last ∙ ap (λ t. t || (true || false)) all
hit_before false false b true m all last = last ∙ ap (λ t. t || (false || false)) all
hit_before false false b false m all last = last ∙ ap (λ t. t || (false || false)) all

-- what stands before a place ends with what stands one place back
pub front_back : {A : Type 0} (xs : List A) (at : ℕ) (x : A) → 0 < at → at ≤ length xs → ((d : A) → x ≡ slice_index_or xs (at - 1) d) → take at xs ≡ take (at - 1) xs ++ x ∷ []
front_back xs at x some most is =
    let back : at ≡ suc (at - 1) = omega (arith, some) in
    ap (λ n. take n xs) back ∙ take-suc xs (at - 1) x (omega (arith, some, most)) ∙ ap (λ y. take (at - 1) xs ++ y ∷ []) (sym (is x))
