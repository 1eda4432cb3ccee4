-- Pieces counted by their process, and those of a process by their step and work.
use Rattle.std.proofs.Common.{◌≡◌, ℕ, ◌+◌, ◌≤◌, ◌<◌, Bool, true, false, cond, eqb, ◌&&◌, List, [], ◌∷◌, length, sym, refl, ap, ◌∙◌, arith}
use Rattle.std.specs.List.{sum_by}
use Rattle.std.proofs.lemmas.Bool.{eq-eqb, false≢true}
use Rattle.process_tree.specs.Blocks.{numbers_from}
use Rattle.process_tree.specs.Order.{Each}
use Rattle.schedule_model.specs.Histories.{is_in}
use Rattle.machine_model.specs.declared.kept.Work.{Work}
use Rattle.machine_model.specs.declared.kept.Work.TheVariants.{Forward, Undo, End}
use Rattle.machine_model.specs.Moment.{Piece}
use Rattle.machine_model.specs.Pieces.{is_try_of}
use Rattle.machine_model.specs.Progress.{same_work}
use Rattle.machine_model.proofs.Counting.{count}
use Rattle.machine_model.proofs.OneOut.{is_of}
use Rattle.machine_model.proofs.Sums.{cond_most, none, numbers_in, one_most, ones, sum-add, sum-has, sum-most, sum-zero}

-- pieces by their process
pub by_process : (ps : List Piece) (is : List ℕ) → Each (λ (p : Piece). is_in p.process is ≡ true) ps → length ps ≤ sum_by (λ i. count (is_of i) ps) is
by_process [] is each = omega arith
by_process (p ∷ ps) is each =
    let a = sum-add (λ i. cond {A = ℕ} (is_of i p) 1 0) (λ i. count (is_of i) ps) is in
    let one : cond {A = ℕ} (is_of p.process p) 1 0 ≡ 1 = ap (λ t. cond t 1 0) (eq-eqb p.process p.process refl) in
    let has = sum-has (λ i. cond {A = ℕ} (is_of i p) 1 0) p.process is each.0 in
    let rest = by_process ps is each.1 in
    omega arith

-- pieces of process i, of n steps, of which those that u tells may be undone
module _ (i n : ℕ) (u : ℕ → Bool) where
  -- what one piece adds at step b, and in all
  abbrev at_step : Piece → ℕ → ℕ
  at_step p b = cond (is_try_of i b Forward p) 1 0 + cond (u b) (cond (is_try_of i b Undo p) 1 0) 0

  abbrev in_all : Piece → ℕ
  in_all p = sum_by (at_step p) (numbers_from 0 n) + cond (is_try_of i 0 End p) 1 0

  -- what a list of pieces adds at step b
  abbrev pub all_at : List Piece → ℕ → ℕ
  all_at ps b = count (is_try_of i b Forward) ps + cond (u b) (count (is_try_of i b Undo) ps) 0

  abbrev pub all_of : List Piece → ℕ
  all_of ps = sum_by (all_at ps) (numbers_from 0 n) + count (is_try_of i 0 End) ps

  step_grows : (p : Piece) (ps : List Piece) (b : ℕ) (t : Bool) → u b ≡ t → (all_at (p ∷ ps) b ≤ at_step p b + all_at ps b) × (at_step p b + all_at ps b ≤ all_at (p ∷ ps) b)
  step_grows p ps b true is = rw is ((omega arith, omega arith))
  step_grows p ps b false is = rw is ((omega arith, omega arith))

  grows : (p : Piece) (ps : List Piece) → all_of (p ∷ ps) ≡ in_all p + all_of ps
  grows p ps =
      let a = sum-add (at_step p) (all_at ps) (numbers_from 0 n) in
      let up = sum-most (all_at (p ∷ ps)) (λ b. at_step p b + all_at ps b) (numbers_from 0 n) (λ b among. (step_grows p ps b (u b) refl).0) in
      let down = sum-most (λ b. at_step p b + all_at ps b) (all_at (p ∷ ps)) (numbers_from 0 n) (λ b among. (step_grows p ps b (u b) refl).1) in
      omega arith

  -- a piece of the process is a try of its own step and work alone
  tries_own : (p : Piece) (b : ℕ) (w v : Work) → eqb p.process i ≡ true → p.work ≡ v → cond {A = ℕ} (is_try_of i b w p) 1 0 ≡ cond {A = ℕ} (eqb p.step b) (cond {A = ℕ} (same_work v w) 1 0) 0
  tries_own p b w v own work = ap (λ t. cond {A = ℕ} ((t && eqb p.step b) && same_work p.work w) 1 0) own ∙ (ap (λ x. cond {A = ℕ} ((true && eqb p.step b) && same_work x w) 1 0) work ∙ by_step (eqb p.step b))
    where
      by_step : (t : Bool) → cond {A = ℕ} ((true && t) && same_work v w) 1 0 ≡ cond {A = ℕ} t (cond {A = ℕ} (same_work v w) 1 0) 0
      by_step true = refl
      by_step false = refl

  -- no piece adds more than one
  step_most : (p : Piece) (b : ℕ) (v : Work) → eqb p.process i ≡ true → p.work ≡ v → same_work v End ≡ false → at_step p b ≤ cond {A = ℕ} (eqb p.step b) 1 0
  step_most p b Forward own work no_end =
      let f = tries_own p b Forward Forward own work in
      let g = tries_own p b Undo Forward own work ∙ none (eqb p.step b) in
      let x = cond_most (u b) (cond {A = ℕ} (is_try_of i b Undo p) 1 0) in
      omega arith
  step_most p b Undo own work no_end =
      let f = tries_own p b Forward Undo own work ∙ none (eqb p.step b) in
      let g = tries_own p b Undo Undo own work in
      let x = cond_most (u b) (cond {A = ℕ} (is_try_of i b Undo p) 1 0) in
      omega arith
  step_most p b End own work no_end = absurd (false≢true (sym no_end))

  end_adds_none : (p : Piece) (b : ℕ) → eqb p.process i ≡ true → p.work ≡ End → at_step p b ≡ 0
  end_adds_none p b own work =
      let f = tries_own p b Forward End own work ∙ none (eqb p.step b) in
      let g = tries_own p b Undo End own work ∙ none (eqb p.step b) in
      let x = cond_most (u b) (cond {A = ℕ} (is_try_of i b Undo p) 1 0) in
      omega arith

  own_most : (p : Piece) (v : Work) → eqb p.process i ≡ true → p.work ≡ v → in_all p ≤ 1
  own_most p Forward own work =
      let steps = sum-most (at_step p) (λ b. cond {A = ℕ} (eqb p.step b) 1 0) (numbers_from 0 n) (λ b among. step_most p b Forward own work refl) in
      let few = ones p.step 0 n in
      let e = tries_own p 0 End Forward own work ∙ none (eqb p.step 0) in
      omega arith
  own_most p Undo own work =
      let steps = sum-most (at_step p) (λ b. cond {A = ℕ} (eqb p.step b) 1 0) (numbers_from 0 n) (λ b among. step_most p b Undo own work refl) in
      let few = ones p.step 0 n in
      let e = tries_own p 0 End Undo own work ∙ none (eqb p.step 0) in
      omega arith
  own_most p End own work =
      let steps = sum-zero (at_step p) (numbers_from 0 n) (λ b. end_adds_none p b own work) in
      let e = one_most (is_try_of i 0 End p) in
      omega arith

  piece_most : (p : Piece) (t : Bool) → eqb p.process i ≡ t → in_all p ≤ cond {A = ℕ} t 1 0
  piece_most p true own = own_most p p.work own refl
  piece_most p false other =
      let steps = sum-zero (at_step p) (numbers_from 0 n) (λ b. let f = none_of b Forward in let g = none_of b Undo in let x = cond_most (u b) (cond {A = ℕ} (is_try_of i b Undo p) 1 0) in omega arith) in
      let e = none_of 0 End in
      omega arith
    where
      none_of : (b : ℕ) (w : Work) → cond {A = ℕ} (is_try_of i b w p) 1 0 ≡ 0
      none_of b w = ap (λ t. cond {A = ℕ} ((t && eqb p.step b) && same_work p.work w) 1 0) other

  pub all_most : (ps : List Piece) → all_of ps ≤ count (is_of i) ps
  all_most [] = let z = sum-zero (all_at []) (numbers_from 0 n) (λ b. let c = none (u b) in omega arith) in omega arith
  all_most (p ∷ ps) = let g = grows p ps in let one = piece_most p (eqb p.process i) refl in let rest = all_most ps in omega arith

  -- a step of the process, the undo of one that may be undone, and the end with step 0
  abbrev pub IsCounted : ℕ → Work → Type 0
  IsCounted b Forward = b < n
  IsCounted b Undo = (b < n) × (u b ≡ true)
  IsCounted b End = b ≡ 0

  -- such a piece adds one
  piece_least : (p : Piece) (v : Work) → eqb p.process i ≡ true → p.work ≡ v → IsCounted p.step v → 1 ≤ in_all p
  piece_least p Forward own work counted =
      let one = tries_own p p.step Forward Forward own work ∙ ap (λ t. cond {A = ℕ} t 1 0) (eq-eqb p.step p.step refl) in
      let has = sum-has (at_step p) p.step (numbers_from 0 n) (numbers_in p.step 0 n (omega arith) (let c = counted in omega arith)) in
      omega arith
  piece_least p Undo own work counted =
      let one = tries_own p p.step Undo Undo own work ∙ ap (λ t. cond {A = ℕ} t 1 0) (eq-eqb p.step p.step refl) in
      let may : cond (u p.step) (cond {A = ℕ} (is_try_of i p.step Undo p) 1 0) 0 ≡ cond {A = ℕ} (is_try_of i p.step Undo p) 1 0 = ap (λ t. cond t (cond {A = ℕ} (is_try_of i p.step Undo p) 1 0) 0) counted.1 in
      let has = sum-has (at_step p) p.step (numbers_from 0 n) (numbers_in p.step 0 n (omega arith) (let c = counted.0 in omega arith)) in
      omega arith
  piece_least p End own work counted =
      let one = tries_own p 0 End End own work ∙ ap (λ t. cond {A = ℕ} t 1 0) (eq-eqb p.step 0 counted) in
      omega arith

  of_least : (p : Piece) (t : Bool) → eqb p.process i ≡ t → (t ≡ true → IsCounted p.step p.work) → cond {A = ℕ} t 1 0 ≤ in_all p
  of_least p true own counted = piece_least p p.work own refl (counted refl)
  of_least p false other counted = omega arith

  pub all_least : (ps : List Piece) → Each (λ (p : Piece). eqb p.process i ≡ true → IsCounted p.step p.work) ps → count (is_of i) ps ≤ all_of ps
  all_least [] each = omega arith
  all_least (p ∷ ps) each = let g = grows p ps in let one = of_least p (eqb p.process i) refl each.0 in let rest = all_least ps each.1 in omega arith
