-- What the reading of a text tells of its plan.
use Rattle.std.proofs.Common.{◌≡◌, ℕ, List, [], ◌∷◌, Result, Ok, Err, append-nil, refl, sym, ap, ◌∙◌, subst, Option, Some, None, MatchOption}
use Rattle.process_tree.specs.declared.plan.Plan.{Plan}
use Rattle.process_tree.specs.declared.tree.Named.{Named}
use Rattle.process_tree.specs.Blocks.{Outline, outline}
use Rattle.process_tree.specs.Shape.{shape_of}
use Rattle.process_tree.specs.Termination.{IsWellFormed}
use Rattle.process_tree.proofs.Forms.{same_outline}
use Rattle.process_text.specs.Words.{words_of}
use Rattle.process_text.specs.Grammar.{process_of, process_pieces, IsReading}
use Rattle.process_text.specs.Canonical.{canonical_words, line_of, canonical_text}
use Rattle.process_text.specs.Again.{AreAlike}
use Rattle.process_text.proofs.Reprinted.{readings_agree, readings_are_alike}
use Rattle.commute_table.specs.declared.catalog.Catalog.{Catalog}
use Rattle.commute_table.specs.declared.errors.BindError.{BindError}
use Rattle.commute_table.specs.Binding.{numbers_bound, IsPlanOf}
use Rattle.process_journal.specs.Plans.{IsTextOf, IsPlanOfText}
use Rattle.process_journal.proofs.PlansAlike.{course_by}

-- what is like one process is one process
alike_one : (ps : List Named) (p : Named) → AreAlike ps (p ∷ []) → (q : Named) × (ps ≡ q ∷ [])
alike_one [] p alike = absurd alike
alike_one (q ∷ []) p alike = (q, refl)
alike_one (q ∷ r ∷ ps) p alike = absurd alike.2

-- words that are read as other than one process are not read as one
pub not_one : (words : List (List ℕ)) (ps : List Named) → IsReading words ps → ((q : Named) → ¬ (ps ≡ q ∷ [])) → (p : Named) → ¬ IsReading words (p ∷ [])
not_one words ps read none p one =
    let (q, is) = alike_one ps p (readings_are_alike words ps (p ∷ []) read one) in
    none q is

-- processes that the same words are read as have one canonical text
canonical_same : (words : List (List ℕ)) (p q : Named) → IsReading words (p ∷ []) → IsReading words (q ∷ []) → canonical_text p.name p.tree ≡ canonical_text q.name q.tree
canonical_same words p q one two =
    ap (λ ps. line_of (canonical_words ps)) (sym (append-nil (process_pieces p)) ∙ readings_agree words (p ∷ []) (q ∷ []) one two ∙ append-nil (process_pieces q))

-- a text other than the canonical one of the process that it is read as is canonical of none
pub not_canonical : (text : List ℕ) (q : Named) → IsReading (words_of text) (q ∷ []) → ¬ (canonical_text q.name q.tree ≡ text) → (p : Named) → ¬ IsTextOf text p
not_canonical text q read other p is = other (canonical_same (words_of text) q p read is.reading ∙ sym is.canonical)

-- the plan of a text says what the process says that the text is read as
says_same : (c : Catalog) (text : List ℕ) (p : Plan) (q : Named) → IsPlanOfText c text p → IsTextOf text q → outline p.tree ≡ outline q.tree
says_same c text p q is own =
    let alike = readings_are_alike (words_of text) (process_of p.name p.tree ∷ []) (q ∷ []) is.own_text.reading own.reading in
    same_outline p.tree q.tree alike.1

-- so there is none where no process is read,
pub no_text : (c : Catalog) (text : List ℕ) → ((q : Named) → ¬ IsTextOf text q) → (p : Plan) → ¬ IsPlanOfText c text p
no_text c text none p is = none (process_of p.name p.tree) is.own_text

-- or where that isn't well-formed,
pub not_well_formed : (c : Catalog) (text : List ℕ) (q : Named) → IsTextOf text q → ¬ IsWellFormed (shape_of q.tree) → (p : Plan) → ¬ IsPlanOfText c text p
not_well_formed c text q own bad p is =
    bad (subst IsWellFormed (ap (λ o. (course_by o []).shape) (says_same c text p q is own)) is.well_formed)

-- or has an unknown operation
pub not_bound : (c : Catalog) (text : List ℕ) (q : Named) (e : BindError) → IsTextOf text q → numbers_bound c.ops [] (outline q.tree).steps ≡ Err e → (p : Plan) → ¬ IsPlanOfText c text p
not_bound c text q e own unknown p is = by (sym is.bound.numbers ∙ ap (λ (o : Outline). numbers_bound c.ops [] o.steps) (says_same c text p q is own) ∙ unknown)
  where
    by : (let r : Result (List ℕ) BindError = Ok p.ops in r ≡ Err e) → ⊥
    by e = cc

-- what is bound of that is its plan
pub is_plan : (c : Catalog) (text : List ℕ) (q : Named) (p : Plan) → IsTextOf text q → IsWellFormed (shape_of q.tree) → IsPlanOf q c.ops p → IsPlanOfText c text p
is_plan c text q p own good bound =
    let same : q ≡ process_of p.name p.tree = ap (λ n. process_of n q.tree) (sym bound.name) ∙ ap (process_of p.name) (sym bound.tree) in
    record {
      own_text = subst (IsTextOf text) same own;
      bound = subst (λ (x : Named). IsPlanOf x c.ops p) same bound;
      well_formed = subst (λ t. IsWellFormed (shape_of t)) (sym bound.tree) good;
    }

-- words that are read as these processes are read as the one of them, if there is one
pub one_or_none : (words : List (List ℕ)) (ps : List Named) (found : Option Named) → IsReading words ps → MatchOption found ((p : Named) → ¬ (ps ≡ p ∷ [])) (λ p. ps ≡ p ∷ [])
    → MatchOption found ((p : Named) → ¬ IsReading words (p ∷ [])) (λ p. IsReading words (p ∷ []))
one_or_none words ps None read none = not_one words ps read none
one_or_none words ps (Some p) read is = subst (IsReading words) is read

-- what is said of a value that is found
pub found_is : {A : Type 0} (P : Type 0) (Q : A → Type 0) (o : Option A) (x : A) → o ≡ Some x → MatchOption o P Q → Q x
found_is {A = A} P Q (Some y) x is holds = subst Q (same y is) holds
  where
    same : (y : A) → (let o : Option A = Some y in o ≡ Some x) → y ≡ x
    same y e = cc
found_is P Q None x is holds = absurd cc

-- and where none is
pub none_is : {A : Type 0} (P : Type 0) (Q : A → Type 0) (o : Option A) → o ≡ None → MatchOption o P Q → P
none_is P Q None is holds = holds
none_is P Q (Some x) is holds = absurd cc
