-- Why processes began to complete, told one after another.
use Rattle.std.proofs.Common.{◌≡◌, ◌∙◌, ℕ, suc, ◌+◌, List, [], ◌∷◌, ◌++◌, Option, Some, None, Result, Ok, Err, IfOk, ap, sym, append_assoc}
use Rattle.std.specs.List.{cons_option, filter_map}
use Rattle.process_tree.specs.Blocks.{numbers_from}

module _ {X : Type 0} (f : ℕ → Option X) (i k m : ℕ) (more_left : k ≡ suc m) (done whole : List X) (before : done ++ filter_map f (numbers_from (i + 1) k) ≡ whole) where
  next_of : (o : Option X) → f (i + 1) ≡ o → filter_map f (numbers_from (i + 1) k) ≡ cons_option o (filter_map f (numbers_from (i + 1 + 1) m))
  next_of o is = ap (λ n. filter_map f (numbers_from (i + 1) n)) more_left ∙ ap (λ x. cons_option x (filter_map f (numbers_from (i + 1 + 1) m))) is

  -- one that began is the last of those told,
  pub told_one : (x : X) (more : List X) → f (i + 1) ≡ Some x → more ≡ done ++ x ∷ [] → more ++ filter_map f (numbers_from (i + 1 + 1) m) ≡ whole
  told_one x more is pushed =
      ap (λ xs. xs ++ filter_map f (numbers_from (i + 1 + 1) m)) pushed
      ∙ (append_assoc done (x ∷ []) (filter_map f (numbers_from (i + 1 + 1) m)) ∙ (ap (λ xs. done ++ xs) (sym (next_of (Some x) is)) ∙ before))

  -- and one that didn't is passed over
  pub told_none : f (i + 1) ≡ None → done ++ filter_map f (numbers_from (i + 1 + 1) m) ≡ whole
  told_none is = ap (λ xs. done ++ xs) (sym (next_of None is)) ∙ before

-- what holds of an answer holds of it in other words
pub so_ok : {T E : Type 0} (r : Result T E) (P Q : T → Type 0) → ((x : T) → P x → Q x) → IfOk r P → IfOk r Q
so_ok (Ok x) P Q f p = f x p
so_ok (Err e) P Q f p = tt
