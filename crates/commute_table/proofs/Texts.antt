-- Texts and names: which are equal, what names begin with, and that there are more names than operations.
use Rattle.std.proofs.Common.{◌≡◌, ◌≢◌, ℕ, zero, suc, ◌+◌, ◌<◌, ◌≤◌, Bool, true, false, not, ◌&&◌, ◌||◌, cond, List, [], ◌∷◌, ◌++◌, length, refl, sym, ◌∙◌, arith, inl, inr, ◌⊎◌}
use Rattle.std.specs.Prelude.{nat_eq, nat_le, nat_lt}
use Rattle.std.specs.List.{list_any, list_all}
use Rattle.std.proofs.lemmas.Bool.{and_parts, cases_Bool, eqb-true, eq-eqb, cases_eq, leb-true, le-leb, cases_lt, lt-ltb, le-ltb, and_from, or_right}
use Rattle.std.proofs.lemmas.Bool.Decides.{nat_tests}
use Rattle.std.proofs.lemmas.List.{length-append, append-nil}
use Rattle.std.proofs.lemmas.List.Folds.{list_all-append}
use Rattle.process_tree.specs.Name.{is_letter, is_name_byte, is_name}
use Rattle.process_tree.specs.Making.{same_text}
use Rattle.process_tree.specs.Blocks.{numbers_from}
use Rattle.commute_table.specs.declared.op.Op.{Op}
use Rattle.commute_table.specs.Operations.{has_name}
use Rattle.commute_table.specs.Reading.{is_new, begins_name, name_bytes, can_be_new}

-- ---- equal texts

pub same_text-true : (xs ys : List ℕ) → same_text xs ys ≡ true → xs ≡ ys
same_text-true [] [] e = refl
same_text-true [] (y ∷ ys) e = absurd cc
same_text-true (x ∷ xs) [] e = absurd cc
same_text-true (x ∷ xs) (y ∷ ys) e =
    let parts = and_parts (nat_eq x y) (same_text xs ys) e in
    let first : x ≡ y = eqb-true x y parts.0 in
    let others : xs ≡ ys = same_text-true xs ys parts.1 in
    cc

pub same_text-itself : (xs : List ℕ) → same_text xs xs ≡ true
same_text-itself [] = refl
same_text-itself (x ∷ xs) = and_from (nat_eq x x) (same_text xs xs) (eq-eqb x x refl) (same_text-itself xs)

-- ---- what names begin with

-- a test that holds of a byte of names holds of one of them
some_name_byte : (p : ℕ → Bool) (xs : List ℕ) (b : ℕ) → p b ≡ true → list_any (nat_eq b) xs ≡ true → list_any p xs ≡ true
some_name_byte p [] b h e = absurd cc
some_name_byte p (x ∷ xs) b h e =
    elim (cases_Bool (nat_eq b x)) [
      | inl here ↦
          let same : b ≡ x = eqb-true b x here in
          rw (← same, h) refl
      | inr other ↦
          let later : list_any (nat_eq b) xs ≡ true = sym (rw other refl) ∙ e in
          or_right (p x) (list_any p xs) (some_name_byte p xs b h later)
    ]

-- each byte of names is listed
are_listed : list_all (λ b. not (is_name_byte b) || list_any (nat_eq b) name_bytes) (numbers_from 0 123) ≡ true
are_listed = refl

all_at : (p : ℕ → Bool) (n k b : ℕ) → list_all p (numbers_from n k) ≡ true → n ≤ b → b < n + k → p b ≡ true
all_at p n zero b h le lt = absurd (omega arith)
all_at p n (suc k) b h le lt =
    let parts = and_parts (p n) (list_all p (numbers_from (n + 1) k)) h in
    elim (cases_eq b n) [
      | inl same ↦ rw same parts.0
      | inr other ↦ all_at p (n + 1) k b parts.1 (omega arith) (omega arith)
    ]

is_below : (b : ℕ) → is_name_byte b ≡ true → b < 123
is_below b h = grind (arith, nat_tests)

pub is_listed : (b : ℕ) → is_name_byte b ≡ true → list_any (nat_eq b) name_bytes ≡ true
is_listed b h = not_first (is_name_byte b) _ h (all_at (λ b. not (is_name_byte b) || list_any (nat_eq b) name_bytes) 0 123 b are_listed (omega arith) (is_below b h))
  where
    not_first : (p q : Bool) → p ≡ true → (not p || q) ≡ true → q ≡ true
    not_first true q e h = h
    not_first false q e h = absurd cc

-- ---- names

-- a name has letters and few bytes
pub name_parts : (b : ℕ) (bs : List ℕ) → is_name (b ∷ bs) ≡ true → (is_letter b ≡ true) × (list_all is_name_byte (b ∷ bs) ≡ true) × (length (b ∷ bs) ≤ 32)
name_parts b bs h =
    let parts = and_parts (is_letter b && list_all is_name_byte (b ∷ bs)) (nat_le (length (b ∷ bs)) 32) h in
    let more = and_parts (is_letter b) (list_all is_name_byte (b ∷ bs)) parts.0 in
    (more.0, more.1, leb-true _ _ parts.1)

pub name_made : (b : ℕ) (bs : List ℕ) → is_letter b ≡ true → list_all is_name_byte (b ∷ bs) ≡ true → length (b ∷ bs) ≤ 32 → is_name (b ∷ bs) ≡ true
name_made b bs l h le = and_from _ _ (and_from _ _ l h) (le-leb _ _ le)

-- what stands at the front of a name begins one
pub begins_from_name : (text more : List ℕ) → is_name (text ++ more) ≡ true → begins_name text ≡ true
begins_from_name [] more h = refl
begins_from_name (b ∷ bs) more h =
    let parts = name_parts b (bs ++ more) h in
    let bytes = and_parts (list_all is_name_byte (b ∷ bs)) (list_all is_name_byte more) (sym (list_all-append is_name_byte (b ∷ bs) more) ∙ parts.1) in
    name_made b bs parts.0 bytes.0 (omega (arith, length-append (b ∷ bs) more, parts.2))

-- the last byte of a name is one of names
last_is_name_byte : (text : List ℕ) (b : ℕ) → is_name (text ++ b ∷ []) ≡ true → is_name_byte b ≡ true
last_is_name_byte [] b h = (and_parts _ _ (name_parts b [] h).1).0
last_is_name_byte (c ∷ text) b h =
    let parts = name_parts c (text ++ b ∷ []) h in
    let bytes = and_parts (list_all is_name_byte (c ∷ text)) (list_all is_name_byte (b ∷ [])) (sym (list_all-append is_name_byte (c ∷ text) (b ∷ [])) ∙ parts.1) in
    (and_parts _ _ bytes.1).0

-- a new name can come of each of its beginnings
pub can_from_new : (earlier : List Op) (text more : List ℕ) → is_new earlier (text ++ more) ≡ true → can_be_new earlier (length more) text ≡ true
unfolding can_be_new
can_from_new earlier text [] h = rw append-nil at h
can_from_new earlier text (b ∷ []) h = some_name_byte (λ b. is_new earlier (text ++ b ∷ [])) name_bytes b h (is_listed b (last_is_name_byte text b (and_parts _ _ h).0))
can_from_new earlier text (b ∷ c ∷ more) h = begins_from_name text (b ∷ c ∷ more) (and_parts _ _ h).0

-- ---- there are more names than operations

-- a test on the first numbers holds of one or of none
find_below : (p : ℕ → Bool) (m : ℕ) → ((k : ℕ) × (k < m) × (p k ≡ true)) ⊎ ((k : ℕ) → k < m → p k ≡ false)
find_below p zero = inr (λ k lt. absurd (omega arith))
find_below p (suc m) =
    elim (cases_Bool (p m)) [
      | inl here ↦ inl (m, omega arith, here)
      | inr other ↦ elim (find_below p m) [
        | inl found ↦ inl (found.0, omega (arith, found.1), found.2)
        | inr none ↦ inr (λ k lt. elim (cases_eq k m) [ inl same ↦ rw same other | inr less ↦ none k (omega arith) ])
      ]
    ]

-- the same numbers but one
skipping : ℕ → ℕ → ℕ
skipping gap k = cond (nat_lt k gap) k (k + 1)

skipping_is : (gap k : ℕ) → ((k < gap) × (skipping gap k ≡ k)) ⊎ ((gap ≤ k) × (skipping gap k ≡ k + 1))
unfolding skipping
skipping_is gap k =
    elim (cases_lt k gap) [
      | inl lt ↦ inl (lt, rw (lt-ltb k gap lt) refl)
      | inr le ↦ inr (le, rw (le-ltb k gap le) refl)
    ]

skipping_within : (gap k m : ℕ) → gap < suc m → k < m → skipping gap k < suc m
skipping_within gap k m g lt = elim (skipping_is gap k) [ inl h ↦ omega (arith, h.1) | inr h ↦ omega (arith, h.1) ]

skipping_other : (gap k : ℕ) → skipping gap k ≢ gap
skipping_other gap k = elim (skipping_is gap k) [ inl h ↦ λ e. absurd (omega (arith, h.0, h.1, e)) | inr h ↦ λ e. absurd (omega (arith, h.0, h.1, e)) ]

skipping_differ : (gap i j : ℕ) → skipping gap i ≡ skipping gap j → i ≡ j
skipping_differ gap i j e =
    elim (skipping_is gap i) [
      | inl h ↦ elim (skipping_is gap j) [ inl g ↦ omega (arith, h.0, h.1, g.0, g.1, e) | inr g ↦ omega (arith, h.0, h.1, g.0, g.1, e) ]
      | inr h ↦ elim (skipping_is gap j) [ inl g ↦ omega (arith, h.0, h.1, g.0, g.1, e) | inr g ↦ omega (arith, h.0, h.1, g.0, g.1, e) ]
    ]

-- of more texts than operations, one is no operation's name
pub one_is_free : (f : ℕ → List ℕ) (ops : List Op) (m : ℕ) → ((i j : ℕ) → f i ≡ f j → i < m → j < m → i ≡ j) → length ops < m → (k : ℕ) × (k < m) × (has_name (f k) ops ≡ false)
one_is_free f [] m differ lt = (0, lt, refl)
one_is_free f (o ∷ ops) zero differ lt = absurd (omega arith)
one_is_free f (o ∷ ops) (suc m) differ lt =
    elim (find_below (λ k. same_text o.name (f k)) (suc m)) [
      | inl found ↦
          let others = one_is_free (λ k. f (skipping found.0 k)) ops m
          (λ i j e li lj. skipping_differ found.0 i j (differ (skipping found.0 i) (skipping found.0 j) e (skipping_within found.0 i m found.1 li) (skipping_within found.0 j m found.1 lj))) (omega arith) in
          let at = skipping found.0 others.0 in
          let within : at < suc m = skipping_within found.0 others.0 m found.1 others.1 in
          let name_is : o.name ≡ f found.0 = same_text-true o.name (f found.0) found.2 in (
            at,
            within,
            elim (cases_Bool (same_text o.name (f at))) [
              | inl same ↦ absurd (skipping_other found.0 others.0 (differ at found.0 (sym (same_text-true o.name (f at) same) ∙ name_is) within found.1))
              | inr other ↦ rw other others.2
            ],
          )
      | inr none ↦
          let others = one_is_free f ops (suc m) differ (omega arith) in
          (others.0, others.1, rw (none others.0 others.1) others.2)
    ]
