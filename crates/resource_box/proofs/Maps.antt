-- What reads of a map that was changed at one key.
use Rattle.std.specs.Prelude.{is_some, unwrap_or, Option}
use Rattle.std.proofs.Common.{◌≡◌, ◌≢◌, ℕ, ℤ, pos, Bool, true, false, cond, List, [], ◌∷◌, Some, None, refl, sym, ◌∙◌, ap, subst}
use Rattle.std.specs.Map.{lookup}
use Rattle.std.specs.Ordering.{nat_cmp, is_eq, match_ordering}
use Rattle.std.specs.declared.cmp.Ordering.{Ordering}
use Rattle.std.specs.declared.cmp.Ordering.TheVariants.{Less, Equal, Greater}
use Rattle.std.specs.BTreeMap.{is_at}
use Rattle.std.specs.Cmp.{nat_cmp_is}
use Rattle.std.proofs.lemmas.Map.Lookups.{exact_unsigned}
use Rattle.resource_box.specs.Meaning.{value_at, has_key, with_value, with_key}
use Rattle.resource_box.specs.Laws.{ReadsWhatWasSet, KeepsOtherKeys, ReadyChangesNoValue}

-- whether a key is the one asked for
abbrev is : ℕ → ℕ → Bool
is q k = is_at (nat_cmp q) k

is_same : (k : ℕ) → is k k ≡ true
is_same k = ap is_eq (sym (nat_cmp_is k k Equal refl))

same_of : (q k : ℕ) → is q k ≡ true → q ≡ k
same_of q k at = by (nat_cmp q k) refl at
  where
    by : (r : Ordering) → nat_cmp q k ≡ r → is_eq r ≡ true → q ≡ k
    by Less r at = absurd cc
    by Equal r at = exact_unsigned q k r
    by Greater r at = absurd cc

-- what a lookup gives then
pub lookup-with : (pairs : List (ℕ × ℤ)) (k q : ℕ) (v : ℤ) → lookup (is_at (nat_cmp q)) (with_value pairs k v) ≡ cond (is q k) (Some v) (lookup (is_at (nat_cmp q)) pairs)
lookup-with [] k q v = refl
lookup-with (e ∷ es) k q v = by (nat_cmp k e.0) refl (lookup-with es k q v)
  where
    over : k ≡ e.0 → cond (is q e.0) (Some v) (lookup (is_at (nat_cmp q)) es) ≡ cond (is q k) (Some v) (cond (is q e.0) (Some e.1) (lookup (is_at (nat_cmp q)) es))
    over same = rw same (elim (is q e.0) as (λ b. cond b (Some v) (lookup (is_at (nat_cmp q)) es) ≡ cond b (Some v) (cond b (Some e.1) (lookup (is_at (nat_cmp q)) es))) [ true ↦ refl | false ↦ refl ])

    apart : (a b : Bool) → is q e.0 ≡ a → is q k ≡ b → k ≢ e.0 → cond a (Some e.1) (cond b (Some v) (lookup (is_at (nat_cmp q)) es)) ≡ cond b (Some v) (cond a (Some e.1) (lookup (is_at (nat_cmp q)) es))
    apart true true at there other = absurd (other (sym (same_of q k there) ∙ same_of q e.0 at))
    apart true false at there other = refl
    apart false b at there other = refl

    by : (r : Ordering) → nat_cmp k e.0 ≡ r → lookup (is_at (nat_cmp q)) (with_value es k v) ≡ cond (is q k) (Some v) (lookup (is_at (nat_cmp q)) es) → lookup (is_at (nat_cmp q)) (match_ordering r ((k, v) ∷ e ∷ es) ((e.0, v) ∷ es) (e ∷ with_value es k v)) ≡ cond (is q k) (Some v) (cond (is q e.0) (Some e.1) (lookup (is_at (nat_cmp q)) es))
    by Less r rest = refl
    by Equal r rest = over (exact_unsigned k e.0 r)
    by Greater r rest = ap (λ o. cond (is q e.0) (Some e.1) o) rest ∙ apart (is q e.0) (is q k) refl refl (λ same. let no : Greater ≡ Equal = sym r ∙ subst (λ x. nat_cmp k x ≡ Equal) same (sym (nat_cmp_is k k Equal refl)) in cc)

pub reads_what_was_set : ReadsWhatWasSet
reads_what_was_set pairs key value = ap (λ o. unwrap_or o (pos 0)) (lookup-with pairs key key value ∙ ap (λ b. cond b (Some value) (lookup (is_at (nat_cmp key)) pairs)) (is_same key))

other_is : (q k : ℕ) → q ≢ k → is q k ≡ false
other_is q k other = by (is q k) refl
  where
    by : (b : Bool) → is q k ≡ b → b ≡ false
    by true at = absurd (other (same_of q k at))
    by false at = refl

pub keeps_other_keys : KeepsOtherKeys
keeps_other_keys pairs key value other differs = ap (λ o. unwrap_or o (pos 0)) (lookup-with pairs key other value ∙ ap (λ b. cond b (Some value) (lookup (is_at (nat_cmp other)) pairs)) (other_is other key differs))

-- a key that was set has a pair, and no key loses its
pub has_set : (pairs : List (ℕ × ℤ)) (key : ℕ) (value : ℤ) → has_key (with_value pairs key value) key ≡ true
has_set pairs key value = ap is_some (lookup-with pairs key key value ∙ ap (λ b. cond b (Some value) (lookup (is_at (nat_cmp key)) pairs)) (is_same key))

pub has_still : (pairs : List (ℕ × ℤ)) (key other : ℕ) (value : ℤ) → has_key pairs other ≡ true → has_key (with_value pairs key value) other ≡ true
has_still pairs key other value had = ap is_some (lookup-with pairs key other value) ∙ by (is other key)
  where
    by : (b : Bool) → is_some (cond b (Some value) (lookup (is_at (nat_cmp other)) pairs)) ≡ true
    by true = refl
    by false = had

-- an absent key reads 0
absent : (pairs : List (ℕ × ℤ)) (key : ℕ) → has_key pairs key ≡ false → value_at pairs key ≡ pos 0
absent pairs key none = by (lookup (is_at (nat_cmp key)) pairs) none
  where
    by : (o : Option ℤ) → is_some o ≡ false → unwrap_or o (pos 0) ≡ pos 0
    by None none = refl
    by (Some v) none = absurd cc

ready_at : (pairs : List (ℕ × ℤ)) (key other : ℕ) (b : Bool) → has_key pairs key ≡ b
    → (has_key (cond b pairs (with_value pairs key (pos 0))) key ≡ true) × (value_at (cond b pairs (with_value pairs key (pos 0))) other ≡ value_at pairs other)
ready_at pairs key other true had = (had, refl)
ready_at pairs key other false none = (has_set pairs key (pos 0), ap (λ o. unwrap_or o (pos 0)) (lookup-with pairs key other (pos 0)) ∙ by (is other key) refl)
  where
    by : (b : Bool) → is other key ≡ b → unwrap_or (cond b (Some (pos 0)) (lookup (is_at (nat_cmp other)) pairs)) (pos 0) ≡ value_at pairs other
    by true at = sym (subst (λ k. value_at pairs k ≡ pos 0) (sym (same_of other key at)) (absent pairs key none))
    by false at = refl

pub ready_changes_no_value : ReadyChangesNoValue
ready_changes_no_value pairs key other = ready_at pairs key other (has_key pairs key) refl

pub had_before_ready : (pairs : List (ℕ × ℤ)) (key other : ℕ) → has_key pairs other ≡ true → has_key (with_key pairs key) other ≡ true
had_before_ready pairs key other had = by (has_key pairs key)
  where
    by : (b : Bool) → has_key (cond b pairs (with_value pairs key (pos 0))) other ≡ true
    by true = had
    by false = has_still pairs key other (pos 0) had
