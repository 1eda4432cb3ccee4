-- Arrows lead to processes of entries.
use Rattle.std.proofs.Common.{◌≡◌, ◌⊎◌, inl, inr, ℕ, ◌<◌, true, ◌&&◌, List, [], ◌∷◌, length, eqb, Result, Ok, Err, IfOk, sym, refl, subst, arith}
use Rattle.std.specs.List.{list_any}
use Rattle.std.proofs.lemmas.Bool.{false≢true, or_left, or_right, or_cases, and_parts, eqb-true, eq-eqb}
use Rattle.schedule_model.specs.Conflict.{ConflictRelation, conflict}
use Rattle.schedule_model.specs.Histories.{is_in}
use Rattle.dependence_model.specs.declared.placed.Placed.{Placed}
use Rattle.dependence_model.specs.Dependence.{must_precede, processes_of}
use Rattle.audit_core.specs.Arrows.{AreFew, HasAll, columns}

-- what holds at an answer, and what follows
pub if_ok : {X E : Type 0} (P Q : X → Type 0) (r : Result X E) → IfOk r P → ((x : X) → P x → Q x) → IfOk r Q
if_ok P Q (Ok x) holds follows = follows x holds
if_ok P Q (Err e) holds follows = tt

pub processes_count : (xs : List Placed) → length (processes_of xs) ≡ length xs
processes_count [] = refl
processes_count (x ∷ xs) = let more = processes_count xs in omega (arith, more)

module _ (table : ConflictRelation) where
  leads_to : (x : Placed) (xs : List Placed) (j : ℕ) → list_any (λ y. eqb y.entry.process j && conflict table x.entry y.entry) xs ≡ true → is_in j (processes_of xs) ≡ true
  leads_to x [] j has = absurd (false≢true has)
  leads_to x (y ∷ ys) j has =
      by (leads_to x ys j) (or_cases (eqb y.entry.process j && conflict table x.entry y.entry) (list_any (λ z. eqb z.entry.process j && conflict table x.entry z.entry) ys) has)
    where
      by : (list_any (λ z. eqb z.entry.process j && conflict table x.entry z.entry) ys ≡ true → is_in j (processes_of ys) ≡ true)
          → ((eqb y.entry.process j && conflict table x.entry y.entry) ≡ true) ⊎ (list_any (λ z. eqb z.entry.process j && conflict table x.entry z.entry) ys ≡ true)
          → is_in j (processes_of (y ∷ ys)) ≡ true
      by later (inl here) = or_left (eqb j y.entry.process) (is_in j (processes_of ys))
          (eq-eqb j y.entry.process (sym (eqb-true y.entry.process j (and_parts (eqb y.entry.process j) (conflict table x.entry y.entry) here).0)))
      by later (inr there) = or_right (eqb j y.entry.process) (is_in j (processes_of ys)) (later there)

  target_in : (xs : List Placed) (i j : ℕ) → must_precede table xs i j ≡ true → is_in j (processes_of xs) ≡ true
  target_in [] i j led = absurd (false≢true led)
  target_in (x ∷ xs) i j led =
      by (target_in xs i j) (or_cases (eqb x.entry.process i && list_any (λ y. eqb y.entry.process j && conflict table x.entry y.entry) xs) (must_precede table xs i j) led)
    where
      by : (must_precede table xs i j ≡ true → is_in j (processes_of xs) ≡ true)
          → ((eqb x.entry.process i && list_any (λ y. eqb y.entry.process j && conflict table x.entry y.entry) xs) ≡ true) ⊎ (must_precede table xs i j ≡ true)
          → is_in j (processes_of (x ∷ xs)) ≡ true
      by later (inl here) = or_right (eqb j x.entry.process) (is_in j (processes_of xs))
          (leads_to x xs j (and_parts (eqb x.entry.process i) (list_any (λ y. eqb y.entry.process j && conflict table x.entry y.entry) xs) here).1)
      by later (inr there) = or_right (eqb j x.entry.process) (is_in j (processes_of xs)) (later there)

  few_in : (xs : List Placed) (i : ℕ) → AreFew xs → is_in i (processes_of xs) ≡ true → i < columns
  few_in [] i few has = absurd (false≢true has)
  few_in (x ∷ xs) i few has = by (few_in xs i few.1) (or_cases (eqb i x.entry.process) (is_in i (processes_of xs)) has)
    where
      by : (is_in i (processes_of xs) ≡ true → i < columns) → (eqb i x.entry.process ≡ true) ⊎ (is_in i (processes_of xs) ≡ true) → i < columns
      by later (inl here) = subst (λ (k : ℕ). k < columns) (sym (eqb-true i x.entry.process here)) few.0
      by later (inr there) = later there

  pub has_all : (xs : List Placed) → AreFew xs → HasAll (must_precede table xs) (processes_of xs)
  has_all xs few = record { target = target_in xs; few = λ i. few_in xs i few }
