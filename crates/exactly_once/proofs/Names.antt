-- Names are the same or of different steps, and what is put at one name stays elsewhere.
use Rattle.std.proofs.Common.{◌≡◌, ℕ, true, false, if◌then◌else◌, ◌&&◌, eqb, List, refl, ap, ap₂}
use Rattle.std.proofs.lemmas.Bool.{and_parts, and_from, eq-eqb, eqb-true, false≢true}
use Rattle.exactly_once.specs.Names.{Name, Do, Undo, Work, process_of, step_of, same_name}
use Rattle.exactly_once.specs.Machine.{Piece, put_work, put_pieces}

pub same_self : (n : Name) → same_name n n ≡ true
same_self (Do i b) = and_from (eqb i i) (eqb b b) (eq-eqb i i refl) (eq-eqb b b refl)
same_self (Undo i b) = and_from (eqb i i) (eqb b b) (eq-eqb i i refl) (eq-eqb b b refl)

pub same_is : (n m : Name) → same_name n m ≡ true → n ≡ m
same_is (Do i b) (Do j c) is = let parts = and_parts (eqb i j) (eqb b c) is in ap₂ Do (eqb-true i j parts.0) (eqb-true b c parts.1)
same_is (Do i b) (Undo j c) is = absurd (false≢true is)
same_is (Undo i b) (Do j c) is = absurd (false≢true is)
same_is (Undo i b) (Undo j c) is = let parts = and_parts (eqb i j) (eqb b c) is in ap₂ Undo (eqb-true i j parts.0) (eqb-true b c parts.1)

-- a name is none of another step
pub not_do : (n : Name) (j c : ℕ) → (eqb (process_of n) j && eqb (step_of n) c) ≡ false → same_name n (Do j c) ≡ false
not_do (Do i b) j c is = is
not_do (Undo i b) j c is = refl

pub not_undo : (n : Name) (j c : ℕ) → (eqb (process_of n) j && eqb (step_of n) c) ≡ false → same_name n (Undo j c) ≡ false
not_undo (Do i b) j c is = refl
not_undo (Undo i b) j c is = is

pub work_here : (f : Name → Work) (n : Name) (x : Work) → put_work f n x n ≡ x
work_here f n x = ap (λ t. if t then x else f n) (same_self n)

pub work_there : (f : Name → Work) (n m : Name) (x : Work) → same_name n m ≡ false → put_work f n x m ≡ f m
work_there f n m x is = ap (λ t. if t then x else f m) is

pub pieces_here : (f : ℕ → List Piece) (i : ℕ) (ps : List Piece) → put_pieces f i ps i ≡ ps
pieces_here f i ps = ap (λ t. if t then ps else f i) (eq-eqb i i refl)

pub pieces_there : (f : ℕ → List Piece) (i j : ℕ) (ps : List Piece) → eqb i j ≡ false → put_pieces f i ps j ≡ f j
pieces_there f i j ps is = ap (λ t. if t then ps else f j) is
