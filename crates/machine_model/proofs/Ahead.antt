-- The first step that a process owes stays at the bound of its ways on or above.
use Rattle.std.proofs.Common.{◌≡◌, ◌⊎◌, inl, inr, ℕ, ◌+◌, ◌≤◌, ◌<◌, Bool, true, false, cond, eqb, ltb, List, [], ◌∷◌, ◌++◌, length, take, drop, sym, refl, ap, ◌∙◌, append-nil, length-append, arith}
use Rattle.std.specs.List.{list_all}
use Rattle.std.proofs.lemmas.Bool.{and_parts, or_left, eq-eqb, ltb-true, cases_eq, false≢true}
use Rattle.std.proofs.lemmas.List.{take-append-drop, take_all}
use Rattle.std.proofs.lemmas.List.Folds.{list_all-append}
use Rattle.process_tree.specs.Laws.{IsTreeShape}
use Rattle.process_tree.specs.Order.{has}
use Rattle.process_tree.specs.Recovery.{forward}
use Rattle.process_tree.specs.Shape.{Shape, can_be_refused, commits_after, fixed_len, goes_on_to, kind_of, next_steps}
use Rattle.process_tree.specs.Termination.{IsWellFormed}
use Rattle.process_tree.proofs.InTurn.{goes_up}
use Rattle.process_tree.proofs.LastPath.{greatest_ge}
use Rattle.process_tree.proofs.TreeLaws.{owed_steps_are_not_refused, paths_lie_in_order}
use Rattle.process_tree.proofs.Fixed.{fixed_more}
use Rattle.schedule_model.proofs.OwedPaths.{FirstOwed, first_owed, below_next, below_owed}
use Rattle.schedule_model.proofs.Undoing.{owed_without}
use Rattle.machine_model.specs.Progress.{Progress}
use Rattle.machine_model.specs.ProcessState.{past, step_done}
use Rattle.machine_model.proofs.NextInOrder.{OwedIsAhead}

module _ (t : Shape) (tree : IsTreeShape t) (well : IsWellFormed t) where
  -- a refused step that goes on is below the first that is owed
  pub refused_below : (w : List ℕ) (b d : ℕ) (rest : List ℕ) → forward t w ≡ b ∷ rest → goes_on_to t w d ≡ true → can_be_refused (kind_of t d) ≡ true → list_all (λ x. ltb x b) w ≡ true → d < b
  refused_below w b d rest owes on refusable below = by_tail (drop (fixed_len t w) w) refl
    where
      first : FirstOwed t w b
      first = first_owed t w b rest owes

      v : List ℕ
      v = take (fixed_len t w) w

      kind : can_be_refused (kind_of t b) ≡ false
      kind = owed_steps_are_not_refused t tree well w b (ap (has b) owes ∙ or_left (eqb b b) (has b rest) (eq-eqb b b refl))

      differ : d ≡ b → ⊥
      differ same = false≢true (sym kind ∙ (ap (λ x. can_be_refused (kind_of t x)) (sym same) ∙ refusable))

      by_tail : (u : List ℕ) → drop (fixed_len t w) w ≡ u → d < b
      by_tail [] tail =
          let whole : take (fixed_len t w) w ≡ w = nothing_left w (fixed_len t w) tail in
          let le = greatest_ge (next_steps t (take (fixed_len t w) w)) b d first.greatest (ap (λ x. goes_on_to t x d) whole ∙ on) in
          by_order (cases_eq d b) le
        where
          by_order : (d ≡ b) ⊎ (d ≡ b → ⊥) → d ≤ b → d < b
          by_order (inl same) le = absurd (differ same)
          by_order (inr other) le = omega arith

          nothing_left : (w : List ℕ) (n : ℕ) → drop n w ≡ [] → take n w ≡ w
          nothing_left w n none = sym (append-nil (take n w)) ∙ (ap (λ x. take n w ++ x) (sym none) ∙ take-append-drop n w)
      by_tail (x ∷ u) tail =
          let whole : w ≡ take (fixed_len t w) w ++ x ∷ u = sym (take-append-drop (fixed_len t w) w) ∙ ap (λ es. take (fixed_len t w) w ++ es) tail in
          let all = sym (list_all-append (λ y. ltb y b) (take (fixed_len t w) w) (x ∷ u)) ∙ (sym (ap (list_all (λ y. ltb y b)) whole) ∙ below) in
          let less = ltb-true x b (and_parts (ltb x b) (list_all (λ y. ltb y b) u) (and_parts (list_all (λ y. ltb y b) (take (fixed_len t w) w)) (list_all (λ y. ltb y b) (x ∷ u)) all).1).0 in
          below_next t (paths_lie_in_order t tree) (take (fixed_len t w) w) u x b d (sym (ap (λ es. goes_on_to t es d) whole) ∙ on) first.on less

  -- a step that is done is below what is owed then
  pub done_below : (w : List ℕ) (b d : ℕ) (rest : List ℕ) → forward t (w ++ d ∷ []) ≡ b ∷ rest → goes_on_to t w d ≡ true → d < b
  done_below w b d rest owes on = by_kind (commits_after t w d) refl
    where
      by_kind : (c : Bool) → commits_after t w d ≡ c → d < b
      by_kind true kind =
          let first = first_owed t (w ++ d ∷ []) b rest owes in
          let all : fixed_len t (w ++ d ∷ []) ≡ length w + 1 = fixed_more t w d ∙ ap (λ c. cond c (length w + 1) (fixed_len t w)) kind in
          let long = length-append w (d ∷ []) in
          let whole : take (fixed_len t (w ++ d ∷ [])) (w ++ d ∷ []) ≡ w ++ d ∷ [] = take_all (fixed_len t (w ++ d ∷ [])) (w ++ d ∷ []) (omega arith) in
          goes_up t w d b (paths_lie_in_order t tree).rising (sym (ap (λ v. goes_on_to t v b) whole) ∙ first.on)
      by_kind false kind =
          let same : forward t (w ++ d ∷ []) ≡ forward t w = owed_without t w d (fixed_more t w d ∙ ap (λ c. cond c (length w + 1) (fixed_len t w)) kind) in
          below_owed t (paths_lie_in_order t tree) well w b d rest (sym same ∙ owes) on kind

-- a step done at the bound or above keeps what is owed ahead
pub done_ahead : (s : Progress) (d : ℕ) → IsTreeShape s.shape → IsWellFormed s.shape → s.onward ≤ d → goes_on_to s.shape s.net d ≡ true → OwedIsAhead (step_done s d)
done_ahead s d tree well bound on b rest owes = let less = done_below s.shape tree well s.net b d rest owes on in omega arith

-- so does a refusal
pub refused_ahead : (s : Progress) (d : ℕ) → IsTreeShape s.shape → IsWellFormed s.shape → goes_on_to s.shape s.net d ≡ true → can_be_refused (kind_of s.shape d) ≡ true
    → ((b : ℕ) (rest : List ℕ) → forward s.shape s.net ≡ b ∷ rest → list_all (λ x. ltb x b) s.net ≡ true) → OwedIsAhead s → OwedIsAhead (past s d)
refused_ahead s d tree well on refusable below ahead b rest owes =
    let less = refused_below s.shape tree well s.net b d rest owes on refusable (below b rest owes) in let o = ahead b rest owes in omega arith
