-- Going round: it depends on where arrows lead and on who is listed, not on how either is told.
use Rattle.std.proofs.Common.{◌≡◌, ℕ, Bool, true, false, ◌||◌, ◌&&◌, eqb, List, [], ◌∷◌, map, sym, refl, ap, ◌∙◌}
use Rattle.std.specs.List.{list_any}
use Rattle.std.specs.Bool.{IsTrue}
use Rattle.process_tree.specs.declared.entry.Entry.{Entry}
use Rattle.schedule_model.specs.Conflict.{ConflictRelation, conflict}
use Rattle.schedule_model.specs.Graph.{Arrow, leads, Walk, one_arrow, and_then}
use Rattle.schedule_model.specs.Histories.{is_in}
use Rattle.schedule_model.proofs.Walks.{any-is_in, is_in-any, walk-from_leads, leads-from_walk}
use Rattle.dependence_model.specs.declared.placed.Placed.{Placed}
use Rattle.dependence_model.specs.Dependence.{entries_of, must_precede, processes_of, goes_round, left_of, is_barred, is_cyclic}

-- tests are one where each passes if the other does
pub same-test : (a b : Bool) → (a ≡ true → b ≡ true) → (b ≡ true → a ≡ true) → a ≡ b
same-test true b one two = sym (one refl)
same-test false true one two = two refl
same-test false false one two = refl

pub walk-end : {arrow : Arrow} {all : List ℕ} {i k : ℕ} → Walk arrow all i k → IsTrue (is_in k all)
walk-end (one_arrow among a) = among
walk-end (and_then w among a) = among

-- a walk along arrows that others have, too
pub walk-map : {arrow other : Arrow} {all some : List ℕ} → ((i j : ℕ) → IsTrue (arrow i j) → IsTrue (other i j)) → ((k : ℕ) → IsTrue (is_in k all) → IsTrue (is_in k some))
    → {i k : ℕ} → Walk arrow all i k → Walk other some i k
walk-map arrows listed (one_arrow {i = i} {k = k} among a) = one_arrow (listed k among) (arrows i k a)
walk-map arrows listed (and_then {j = j} {k = k} w among a) = and_then (walk-map arrows listed w) (listed k among) (arrows j k a)

-- it goes round where some walk comes back
pub walk-from_round : (arrow : Arrow) (all : List ℕ) → goes_round arrow all ≡ true → (i : ℕ) × Walk arrow all i i
walk-from_round arrow all is = let found = is_in-any (λ i. leads arrow all i i) all is in (found.0, walk-from_leads arrow all found.0 found.0 found.2)

pub round-from_walk : (arrow : Arrow) (all : List ℕ) (i : ℕ) → Walk arrow all i i → goes_round arrow all ≡ true
round-from_walk arrow all i w = any-is_in (λ k. leads arrow all k k) i all (walk-end w) (leads-from_walk arrow all w)

round-more : (arrow other : Arrow) (all some : List ℕ) → ((i j : ℕ) → arrow i j ≡ other i j) → ((k : ℕ) → is_in k all ≡ is_in k some)
    → goes_round arrow all ≡ true → goes_round other some ≡ true
round-more arrow other all some arrows listed is =
    let round = walk-from_round arrow all is in
    round-from_walk other some round.0 (walk-map (λ i j a. sym (arrows i j) ∙ a) (λ k among. sym (listed k) ∙ among) round.1)

pub round-same : (arrow other : Arrow) (all some : List ℕ) → ((i j : ℕ) → arrow i j ≡ other i j) → ((k : ℕ) → is_in k all ≡ is_in k some)
    → goes_round arrow all ≡ goes_round other some
round-same arrow other all some arrows listed =
    same-test (goes_round arrow all) (goes_round other some) (round-more arrow other all some arrows listed)
    (round-more other arrow some all (λ i j. sym (arrows i j)) (λ k. sym (listed k)))

-- The same of entries without places.

abbrev pub processes_in : List Entry → List ℕ
processes_in es = map (λ e. e.process) es

-- an entry of process j conflicts with x
abbrev pub clashes_with : ConflictRelation → ℕ → Entry → List Entry → Bool
clashes_with table j x es = list_any (λ y. eqb y.process j && conflict table x y) es

-- an entry of process i stands before one of process j that conflicts with it
abbrev pub precedes : ConflictRelation → List Entry → Arrow
precedes table [] i j = false
precedes table (x ∷ es) i j = (eqb x.process i && clashes_with table j x es) || precedes table es i j

abbrev pub is_barred_in : List Entry → Bool
is_barred_in es = list_any (λ e. e.undo) es

abbrev pub is_cyclic_in : ConflictRelation → List Entry → Bool
is_cyclic_in table es = goes_round (precedes table es) (processes_in es)

pub any-entries : (p : Entry → Bool) (xs : List Placed) → list_any (λ x. p x.entry) xs ≡ list_any p (entries_of xs)
any-entries p [] = refl
any-entries p (x ∷ xs) = ap (λ t. p x.entry || t) (any-entries p xs)

pub precedes-entries : (table : ConflictRelation) (xs : List Placed) (i j : ℕ) → must_precede table xs i j ≡ precedes table (entries_of xs) i j
precedes-entries table [] i j = refl
precedes-entries table (x ∷ xs) i j =
    ap (λ t. (eqb x.entry.process i && t) || must_precede table xs i j) (any-entries (λ y. eqb y.process j && conflict table x.entry y) xs)
    ∙ ap (λ t. (eqb x.entry.process i && clashes_with table j x.entry (entries_of xs)) || t) (precedes-entries table xs i j)

pub processes-entries : (xs : List Placed) → processes_of xs ≡ processes_in (entries_of xs)
processes-entries [] = refl
processes-entries (x ∷ xs) = ap (λ ps. x.entry.process ∷ ps) (processes-entries xs)

pub barred-entries : (table : ConflictRelation) (es : List Entry) → is_barred table es ≡ is_barred_in (entries_of (left_of table es))
barred-entries table es = any-entries (λ e. e.undo) (left_of table es)

pub cyclic-entries : (table : ConflictRelation) (es : List Entry) → is_cyclic table es ≡ is_cyclic_in table (entries_of (left_of table es))
cyclic-entries table es =
    let left = left_of table es in
    round-same (must_precede table left) (precedes table (entries_of left)) (processes_of left) (processes_in (entries_of left))
    (precedes-entries table left) (λ k. ap (is_in k) (processes-entries left))
