-- What is out of place behind a list, read from its end.
use Rattle.std.proofs.Common.{◌≡◌, suc, ◌-◌, ◌≤◌, Bool, true, false, not, eqb, ◌||◌, ◌&&◌, List, [], ◌∷◌, ◌++◌, length, take, get_or, reverse, refl, ap, ◌∙◌, arith}
use Rattle.std.specs.List.{list_any}
use Rattle.std.proofs.Math.Seq.{split_at}
use Rattle.std.proofs.lemmas.Bool.{ne_eqb}
use Rattle.std.proofs.lemmas.List.{reverse-append}
use Rattle.std.proofs.lemmas.List.Folds.{list_any-append}
use Rattle.process_tree.specs.declared.entry.Entry.{Entry}
use Rattle.schedule_model.specs.Reduction.{is_out_of_place}
use Rattle.schedule_rules.proofs.Turned.{drop_all}

or_swap : (a b : Bool) → (a || (b || false)) ≡ (b || a)
or_swap true true = refl
or_swap true false = refl
or_swap false true = refl
or_swap false false = refl

-- a test finds the same in a list and backward
list_any-reverse : (p : Entry → Bool) (xs : List Entry) → list_any p (reverse xs) ≡ list_any p xs
list_any-reverse p [] = refl
list_any-reverse p (x ∷ xs) =
    ap (list_any p) (reverse-append (x ∷ []) xs)
    ∙ (list_any-append p (reverse xs) (x ∷ []) ∙ (ap (λ b. b || (p x || false)) (list_any-reverse p xs) ∙ or_swap (list_any p xs) (p x)))

-- backward, the last comes first
pub reverse-last : (xs : List Entry) (d : Entry) → 1 ≤ length xs → reverse xs ≡ get_or xs (length xs - 1) d ∷ reverse (take (length xs - 1) xs)
reverse-last xs d some =
    let n = length xs - 1 in
    ap reverse (split_at xs n d (omega arith) ∙ ap (λ es. take n xs ++ get_or xs n d ∷ es) (drop_all xs (suc n) (omega arith)))
    ∙ reverse-append (take n xs) (get_or xs n d ∷ [])

-- a step is out of place where its process isn't that of the last, and stands earlier
pub out_behind : (xs : List Entry) (d e : Entry) → 1 ≤ length xs → e.undo ≡ false
    → is_out_of_place (reverse xs) e ≡ (not (eqb (get_or xs (length xs - 1) d).process e.process) && list_any (λ y. eqb y.process e.process) (take (length xs - 1) xs))
out_behind xs d e some is_step =
    let n = length xs - 1 in
    let x = get_or xs n d in
    ap (λ es. is_out_of_place es e) (reverse-last xs d some)
    ∙ (ap (λ u. u || (not (eqb x.process e.process) && list_any (λ y. eqb y.process e.process) (reverse (take n xs)))) is_step
    ∙ ap (λ b. not (eqb x.process e.process) && b) (list_any-reverse (λ y. eqb y.process e.process) (take n xs)))

pub out_of_another : (xs : List Entry) (d e : Entry) → 1 ≤ length xs → e.undo ≡ false → ((get_or xs (length xs - 1) d).process ≡ e.process → ⊥)
    → is_out_of_place (reverse xs) e ≡ list_any (λ y. eqb y.process e.process) (take (length xs - 1) xs)
out_of_another xs d e some is_step other =
    let n = length xs - 1 in
    out_behind xs d e some is_step
    ∙ ap (λ t. not t && list_any (λ y. eqb y.process e.process) (take n xs)) (ne_eqb (get_or xs n d).process e.process other)
