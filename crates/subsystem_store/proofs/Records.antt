-- The records of bodies.
use Rattle.std.specs.Prelude.{◌&&◌, ◌==◌, length, if◌then◌else◌}
use Rattle.std.proofs.Common.{◌≡◌, ℕ, Bool, true, false, not, List, Option, Some, None, refl, sym, ap, ◌∙◌}
use Rattle.process_tree.specs.Making.{same_text}
use Rattle.subsystem_store.specs.declared.effect.Record.{Record}
use Rattle.subsystem_store.specs.declared.effect.Record.TheVariants.{Prepared, Committed}
use Rattle.subsystem_store.specs.declared.effect.Effect.{Effect}
use Rattle.std.proofs.lemmas.Slice.Eq.{bytes_eq-Decides}
use Rattle.subsystem_store.specs.Bodies.{prepared_bytes, committed_bytes, effect_at, number_of, is_amount, prepared_of, committed_of, record_of}

abbrev by_tests : List ℕ → Bool → Bool → Option Record
by_tests body same within = if same && within then Some (Prepared (effect_at body)) else None

-- other bytes than an effect's are none
pub not_same : (body : List ℕ) → same_text (prepared_bytes (effect_at body)) body ≡ false → prepared_of body ≡ None
not_same body other = ap (λ same. by_tests body same (is_amount (effect_at body).call.amount)) other

-- the bytes of an effect are its, where the amount is within its limit
pub is_prepared : (body : List ℕ) → same_text (prepared_bytes (effect_at body)) body ≡ true → is_amount (effect_at body).call.amount ≡ true → prepared_of body ≡ Some (Prepared (effect_at body))
is_prepared body same within = ap (λ s. by_tests body s (is_amount (effect_at body).call.amount)) same ∙ ap (λ w. by_tests body true w) within

pub no_by_not : (b : Bool) → true ≡ not b → b ≡ false
no_by_not true is = absurd cc
no_by_not false is = refl

pub yes_by_not : (b : Bool) → false ≡ not b → b ≡ true
yes_by_not true is = refl
yes_by_not false is = absurd cc

-- texts that are the same
pub same_text-true : (xs ys : List ℕ) → same_text xs ys ≡ true → xs ≡ ys
same_text-true xs ys same = (bytes_eq-Decides xs ys).0 same

-- What a body of a prepared effect is: the bytes of it, with its fields at their places and its amount within the limit.
pub record IsBodyOf (e : Effect) (body : List ℕ) : Type 0 where
  pub bytes : prepared_bytes e ≡ body
  pub at : effect_at body ≡ e
  pub amount : is_amount e.call.amount ≡ true

-- a body that is read as a prepared effect is one of it,
pub prepared_is : (body : List ℕ) (e : Effect) → record_of body ≡ Some (Prepared e) → IsBodyOf e body
prepared_is body e is = by (length body == 25) (length body == 5) is
  where
    Said : Option Record → Type 0
    Said o = o ≡ Some (Prepared e)

    tested : (same within : Bool) → same_text (prepared_bytes (effect_at body)) body ≡ same → is_amount (effect_at body).call.amount ≡ within → Said (by_tests body same within) → IsBodyOf e body
    tested true true same within is =
        let one : effect_at body ≡ e = cc in
        record {
          bytes = ap prepared_bytes (sym one) ∙ same_text-true (prepared_bytes (effect_at body)) body same;
          at = one;
          amount = ap (λ (f : Effect). is_amount f.call.amount) (sym one) ∙ within;
        }
    tested true false same within is = absurd cc
    tested false amount same within is = absurd cc

    other : (same : Bool) → Said (if same then Some (Committed (number_of body)) else None) → IsBodyOf e body
    other true is = absurd cc
    other false is = absurd cc

    by : (long short : Bool) → Said (if long then prepared_of body else (if short then committed_of body else None)) → IsBodyOf e body
    by true short is = tested (same_text (prepared_bytes (effect_at body)) body) (is_amount (effect_at body).call.amount) refl refl is
    by false true is = other (same_text (committed_bytes (number_of body)) body) is
    by false false is = absurd cc

-- and one of a committed number is the bytes of that
pub committed_is : (body : List ℕ) (number : ℕ) → record_of body ≡ Some (Committed number) → committed_bytes number ≡ body
committed_is body number is = by (length body == 25) (length body == 5) is
  where
    Said : Option Record → Type 0
    Said o = o ≡ Some (Committed number)

    other : (same within : Bool) → Said (by_tests body same within) → committed_bytes number ≡ body
    other true true is = absurd cc
    other true false is = absurd cc
    other false within is = absurd cc

    tested : (same : Bool) → same_text (committed_bytes (number_of body)) body ≡ same → Said (if same then Some (Committed (number_of body)) else None) → committed_bytes number ≡ body
    tested true same is = let one : number_of body ≡ number = cc in ap committed_bytes (sym one) ∙ same_text-true (committed_bytes (number_of body)) body same
    tested false same is = absurd cc

    by : (long short : Bool) → Said (if long then prepared_of body else (if short then committed_of body else None)) → committed_bytes number ≡ body
    by true short is = other (same_text (prepared_bytes (effect_at body)) body) (is_amount (effect_at body).call.amount) is
    by false true is = tested (same_text (committed_bytes (number_of body)) body) refl is
    by false false is = absurd cc
