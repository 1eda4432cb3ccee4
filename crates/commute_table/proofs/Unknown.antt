-- The first unknown key of a table is the least, since a table's keys ascend.
use Rattle.std.proofs.Common.{◌≡◌, ℕ, subst, Bool, true, false, cond, List, [], ◌∷◌, Option, Some, None, String, Global, Less, nat_cmp, string_bytes, refl, sym, ◌∙◌, inl, inr}
use Rattle.std.specs.Cmp.Lexicographic.{slice_cmp}
use Rattle.std.specs.Ordering.{is_lt}
use Rattle.std.specs.List.{AllByRecursion}
use Rattle.std.specs.List.Sorted.{IsStrictlySortedBy}
use Rattle.std.specs.Map.{keys_of}
use Rattle.std.specs.String.{string_cmp}
use Rattle.std.proofs.lemmas.Bool.{cases_Bool}
use Rattle.toml.specs.View.{members_view}
use Rattle.toml.proofs.Views.{Entry}
use Rattle.commute_table.specs.declared.document.Keys.{Keys}
use Rattle.commute_table.specs.Document.{is_known, lesser, least_unknown}

-- what is before two is before the lesser
before_both : (k e : List ℕ) (rest : Option (List ℕ)) → slice_cmp nat_cmp k e ≡ Less → lesser k rest ≡ Some k → lesser k (lesser e rest) ≡ Some k
before_both k e None lt h = rw lt refl
before_both k e (Some l) lt h = by_test (is_lt (slice_cmp nat_cmp e l))
  where
    by_test : (b : Bool) → lesser k (Some (cond b e l)) ≡ Some k
    by_test true = rw lt refl
    by_test false = h

-- a key before all the others is the least
pub before_all : (keys : Keys) (k : String Global) (es : List Entry) → AllByRecursion (λ y. string_cmp k y ≡ Less) (keys_of es) → lesser (string_bytes k) (least_unknown keys (members_view es)) ≡ Some (string_bytes k)
before_all keys k [] h = refl
before_all keys k (e ∷ es) h =
    elim (cases_Bool (is_known keys (string_bytes e.0))) [
      | inl known ↦ rw known (before_all keys k es h.1)
      | inr unknown ↦ rw unknown (before_both (string_bytes k) (string_bytes e.0) (least_unknown keys (members_view es)) h.0 (before_all keys k es h.1))
    ]

-- the first key is unknown
pub first_unknown : (keys : Keys) (entries : List Entry) (e : Entry) (es : List Entry) (total : Option (List ℕ)) → IsStrictlySortedBy string_cmp (keys_of entries) → entries ≡ e ∷ es → is_known keys (string_bytes e.0) ≡ false
    → least_unknown keys (members_view entries) ≡ total → total ≡ Some (string_bytes e.0)
unfolding IsStrictlySortedBy
first_unknown keys entries e es total sorted is unknown h =
    let all = subst (λ (xs : List Entry). IsStrictlySortedBy string_cmp (keys_of xs)) is sorted in
    sym h ∙ rw (is, unknown) (before_all keys e.0 es all.0)

-- the first key is known
pub first_known : (keys : Keys) (entries : List Entry) (e : Entry) (es : List Entry) (total : Option (List ℕ)) → IsStrictlySortedBy string_cmp (keys_of entries) → entries ≡ e ∷ es → is_known keys (string_bytes e.0) ≡ true
    → least_unknown keys (members_view entries) ≡ total → (least_unknown keys (members_view es) ≡ total) × IsStrictlySortedBy string_cmp (keys_of es)
unfolding IsStrictlySortedBy
first_known keys entries e es total sorted is known h =
    let all = subst (λ (xs : List Entry). IsStrictlySortedBy string_cmp (keys_of xs)) is sorted in
    let same : least_unknown keys (members_view entries) ≡ least_unknown keys (members_view es) = rw (is, known) refl in
    (sym same ∙ h, all.1)

-- no key is left
pub none_unknown : (keys : Keys) (entries : List Entry) (total : Option (List ℕ)) → entries ≡ [] → least_unknown keys (members_view entries) ≡ total → total ≡ None
none_unknown keys entries total is h = sym h ∙ rw is refl
